use Rattle.std.proofs.Common.{sym, ap, ◌∙◌, rules, tests}
use Rattle.std.proofs.lemmas.Slice.Eq.{slice_eq-Decides}
use Rattle.trace.specs.declared.column.Columns.{Columns}
use Rattle.trace.proofs.Ordering.{columns_same}
use Rattle.trace.proofs.column.Columns.is_standard.Goals as goal

pub returns : goal.returns
returns c =
    let e = slice_eq-Decides (λ a b. search (rules, tests)) c.args.self.order c.standard.result.order c.eq.result c.eq.ensures in
    ((λ t. columns_same c.args.self c.standard.result (e.0 t) ∙ c.standard.ensures), λ q. e.1 (ap (λ (cs : Columns). cs.order) (q ∙ sym c.standard.ensures)))
