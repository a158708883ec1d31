use Rattle.std.proofs.Common.{◌≡◌, ◌+◌, get_or, set, None, unwrap_or, sym, ap, ◌∙◌, arith}
use Rattle.std.proofs.Math.Seq.{paste, paste-zero}
use Rattle.bus.specs.Outcomes.{programmed}
use Rattle.array.specs.Filling.{fill_from}
use Rattle.array.proofs.Sectors.{row_more, row_length, not_yet}
use Rattle.array.proofs.flash.closing.write_page.Goals as goal

pub loop-i-init : goal.loop-i-init
loop-i-init g c =
    let mem = c.args.memory.now in
    paste-zero mem c.args.base (programmed c.args.page.now (fill_from g.B.Behaviour.style.filler mem c.args.base 128))

pub loop-i-preserved : goal.loop-i-preserved
loop-i-preserved g c =
    let h = g.B.Behaviour.style.filler in
    let i = c.loop-i.i in
    let page = c.args.page.now in
    let mem = c.args.memory.now in
    let base = c.args.base in
    let v = c.loop-i.invariant in
    let old : get_or c.loop-i.memory (base + i) 0 ≡ get_or mem (base + i) 0 =
    ap (λ m. get_or m (base + i) 0) v ∙ not_yet mem base (programmed page (fill_from h mem base 128)) i (omega arith) (let e = row_length h mem base page in omega arith) in
    let w : unwrap_or (get_or page i None) (h (get_or mem (base + i) 0)) ≡ c.programmed.result =
    sym (c.programmed.ensures ∙ ap (λ b. unwrap_or (get_or page i None) (h b)) old) in
    ap (λ m. set m (base + i) c.programmed.result) v ∙ row_more h mem base page i c.programmed.result (omega arith) (omega (arith, c.requires)) w

pub returns : goal.returns
returns g c =
    let mem = c.args.memory.now in
    let e : c.loop-i.i ≡ 128 = omega arith in
    c.loop-i.invariant ∙ ap (paste mem c.args.base (programmed c.args.page.now (fill_from g.B.Behaviour.style.filler mem c.args.base 128))) e
