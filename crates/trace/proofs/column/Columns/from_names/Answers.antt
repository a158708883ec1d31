use Rattle.std.proofs.Common.{◌≡◌, rules}
use Rattle.trace.specs.Lines.{names_line}
use Rattle.trace.proofs.Saying.{says_order}
use Rattle.trace.proofs.column.Columns.from_names.Goals as goal

pub returns-in_err-names : goal.returns-in_err-names
unfolding names_line
returns-in_err-names c =
    let e : c.from_residual.result ≡ names_line c.args.line.now = search rules in
    record { value = e; says = says_order c.args.line.now c.from_residual.result e }

pub returns : goal.returns
unfolding names_line
returns c =
    let e : c.ok_or.result ≡ names_line c.args.line.now = search rules in
    record { value = e; says = says_order c.args.line.now c.ok_or.result e }
