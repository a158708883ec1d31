use Rattle.std.proofs.Common.{leb, ◌&&◌, length, rules, tests}
use Rattle.std.proofs.lemmas.Bool.{le-leb}
use Rattle.std.proofs.lemmas.Iterator.{YieldsList-from_slice}
use Rattle.std.proofs.lemmas.Iterator.Search.{all_from_yields_List}
use Rattle.fields.proofs.Cuts.{printable_all}
use Rattle.fields.proofs.line.is_text.Goals as goal

pub returns-then-line-le-LONGEST_LINE : goal.returns-then-line-le-LONGEST_LINE
returns-then-line-le-LONGEST_LINE c =
    rw (le-leb (length c.args.line.now) 64 c.if-line-le-LONGEST_LINE.true, printable_all c.args.line.now)
    (all_from_yields_List (λ b. leb 32 b && leb b 126) _ _ _ c.all.ensures.ran (YieldsList-from_slice c.args.line.now cc) (λ x b q k. search (rules, tests)))
