use Rattle.std.proofs.Common.{◌==◌, refl, rules, arith}
use Rattle.std.proofs.lemmas.Iterator.{YieldsList-from_range}
use Rattle.std.proofs.lemmas.Iterator.Search.{all_from_yields_List}
use borrow.Author.Tests.{tests}
use Rattle.wiring.specs.Lines.{occurrences}
use Rattle.wiring.proofs.LineLaws.{each_once_all}
use Rattle.wiring.proofs.lines.name_each_once.Goals as goal

pub returns : goal.returns
returns c =
    let ls = c.args.lines.now in
    each_once_all ls c.all.result (omega arith)
    (all_from_yields_List (λ v. occurrences v ls == 1) _ _ c.all.result c.all.ensures.ran (YieldsList-from_range 0 8 8 refl refl) (λ x b q k. search (rules, tests)))
