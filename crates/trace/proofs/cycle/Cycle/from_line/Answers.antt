use Rattle.std.proofs.Common.{◌≡◌, None, Ok, Err, Result, sym, ap, ◌∙◌, rules}
use Rattle.trace.specs.Lines.{row_texts, by_column, cycle_in, value_line}
use Rattle.trace.specs.declared.column.Column.{Column}
use Rattle.trace.specs.declared.cycle.Cycle.{Cycle}
use Rattle.trace.specs.declared.refusal.LineRefusal.{LineRefusal}
use Rattle.trace.specs.declared.refusal.LineRefusal.TheVariants.{Value}
use Rattle.trace.proofs.Saying.{says_cycle, told_none}
use Rattle.trace.proofs.cycle.Cycle.from_line.Goals as goal

pub returns-in_err-fields_of : goal.returns-in_err-fields_of
unfolding value_line
returns-in_err-fields_of c =
    let e : c.from_residual.result ≡ value_line c.args.columns c.args.line.now = search rules in
    record { value = e; says = says_cycle c.args.columns c.args.line.now c.from_residual.result e }

pub returns-in_default : goal.returns-in_default
returns-in_default c =
    let k = c.in_ok-fields_of.ensures in
    let n : cycle_in (row_texts c.new-row.result) ≡ None = sym c.cycle.ensures ∙ c.in_default.is in
    let e = ap (λ (z : Column). Err (Value z)) c.bad_column.ensures ∙ told_none c.args.columns c.args.line.now (row_texts c.new-row.result) k.0 (c.new-row.ensures ∙ ap (by_column c.args.columns) (sym k.1)) n in
    record { value = e; says = says_cycle c.args.columns c.args.line.now (Err (Value c.bad_column.result)) e }

pub returns : goal.returns
unfolding value_line
returns c =
    let e : ◌≡◌ {A = Result Cycle LineRefusal} (Ok c.in-Some.cycle) (value_line c.args.columns c.args.line.now) = search rules in
    record { value = e; says = says_cycle c.args.columns c.args.line.now (Ok c.in-Some.cycle) e }
