use Rattle.chip.specs.Meaning.{meant}
use Rattle.chip.proofs.Chosen.{reads_by}
use Rattle.chip.proofs.part.socket.PartSocket.read.Goals as goal

pub returns-clause-moves : goal.returns-clause-moves
returns-clause-moves g c =
    let b = g.B.Behaviour in
    let s = c.args.self.now in
    let e = c.in_ok-reach.ensures in
    let f = c.in_ok-byte.ensures in
    reads_by b.style (b.times s.behaviour) (b.timely s.behaviour) c.args.gap (meant b.style s) (meant b.style c.reach.new.self) e.1 c.args.address (meant b.style c.step.new.self) c.unwrap.result e.0 f.0 (cc)
