use Rattle.chip.specs.Meaning.{meant}
use Rattle.chip.proofs.Chosen.{waits_by}
use Rattle.chip.proofs.part.socket.PartSocket.wait.Goals as goal

pub returns-clause-moves : goal.returns-clause-moves
returns-clause-moves g c =
    let b = g.B.Behaviour in
    let s = c.args.self.now in
    waits_by b.style (b.times s.behaviour) (b.timely s.behaviour) c.args.gap (meant b.style s) (meant b.style c.step.new.self) c.step.ensures.0
