use Rattle.wiring.proofs.LineLaws.{shows_all}
use Rattle.wiring.proofs.wiring.Wiring.show.Goals as goal

pub returns : goal.returns
returns c =
    let w = c.args.self.now in
    let known = c.loop-b.invariant in
    shows_all w.lines c.args.bytes.now c.loop-b.bytes c.loop-b.b-index w.once known.long c.loop-b-test.false known.shown
