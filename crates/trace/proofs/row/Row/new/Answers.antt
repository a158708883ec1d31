use Rattle.std.proofs.Common.{sym}
use Rattle.std.proofs.lemmas.Slice.Zip.{either_empty_from_Zip}
use Rattle.trace.proofs.Placing.{placed_all}
use Rattle.trace.proofs.row.Row.new.Goals as goal

pub returns : goal.returns
returns c = placed_all c.loop-column.row _ _ (either_empty_from_Zip c.loop-column.column-iterator c.next.new.self c.next.result c.in-None.is c.next.ensures.steps) (sym c.loop-column.invariant)
