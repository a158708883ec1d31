use Rattle.std.proofs.Common.{◌==◌, ◌∙◌, rules, arith}
use Rattle.std.proofs.lemmas.Iterator.{YieldsList-from_slice}
use Rattle.std.proofs.lemmas.Iterator.Search.{position_from_yields_List}
use borrow.Author.Tests.{tests}
use Rattle.wiring.proofs.LineLaws.{found_or}
use Rattle.wiring.proofs.lines.position.Goals as goal

pub returns : goal.returns
returns c =
    let v = c.args.v in
    let ls = c.args.lines.now in
    let found = position_from_yields_List (λ x. x == v) _ _ c.position.result c.position.ensures.ran (YieldsList-from_slice ls cc) (λ x b q k. search (rules, tests)) in
    c.unwrap_or.ensures ∙ found_or v ls c.position.result 8 (omega arith) found
