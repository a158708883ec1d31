use Rattle.std.proofs.Common.{◌≡◌, not, length, sym, ◌∙◌, rules, tests}
use Rattle.std.proofs.lemmas.Iterator.{YieldsList-from_slice}
use Rattle.std.proofs.lemmas.Iterator.Adapters.{option_map_id}
use Rattle.std.proofs.lemmas.Iterator.Consumers.{YieldsList-from_copied}
use Rattle.std.proofs.lemmas.Iterator.Search.{find_from_yields_List}
use Rattle.trace.specs.Lines.{row_texts, formed}
use Rattle.trace.proofs.Placing.{leftmost_is}
use Rattle.trace.proofs.row.Row.bad_column.Goals as goal

pub returns : goal.returns
returns c =
    let n : length c.args.columns.order ≡ 4 = search rules in
    let e = find_from_yields_List (λ k. not (formed (row_texts c.args.self) k)) _ _ c.find.result c.find.ensures.ran (YieldsList-from_copied (YieldsList-from_slice c.args.columns.order cc)) (λ x b q k. search (rules, tests)) in
    c.unwrap_or.ensures ∙ leftmost_is (formed (row_texts c.args.self)) c.args.columns.order c.find.result _ n (sym (option_map_id c.find.result) ∙ e)
