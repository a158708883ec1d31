use Rattle.std.proofs.Common.{ap, sym, ◌∙◌, arith}
use Rattle.std.proofs.lemmas.Bool.{lt-leb}
use Rattle.bus.specs.Codes.{begins}
use Rattle.period.proofs.Begins.{begins-zip, begins-short}
use Rattle.period.proofs.head.Head.begins.Goals as goal

pub returns-then-code-loads : goal.returns-then-code-loads
returns-then-code-loads c =
    let code = c.args.code.now in
    c.match_all.ensures ∙ begins-zip code c.as_slice-loads.result.now (omega arith) ∙ ap (begins code) c.as_slice-loads.ensures.value

pub returns-else-code-loads : goal.returns-else-code-loads
returns-else-code-loads c =
    let code = c.args.code.now in
    let loads = c.as_slice-loads.result.now in
    lt-leb _ _ c.if-code-loads.false ∙ sym (begins-short code loads c.if-code-loads.false) ∙ ap (begins code) c.as_slice-loads.ensures.value
