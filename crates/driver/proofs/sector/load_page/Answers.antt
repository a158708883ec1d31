use Rattle.std.proofs.Common.{◌≡◌, ℕ, ◌+◌, ◌*◌, get_or, refl, ◌∙◌, subst, arith}
use Rattle.bus.specs.Codes.{at}
use Rattle.bus.specs.Meaning.{DataLoads}
use Rattle.driver.specs.Loading.{Coding, first_of}
use Rattle.driver.proofs.Putting.{coding_more, data_more}
use Rattle.driver.proofs.sector.load_page.Goals as goal

pub loop-i-preserved : goal.loop-i-preserved
loop-i-preserved g c =
    let m = g.S.Socket.meaning in
    let i = c.loop-i.i in
    let r = c.args.sector in
    let bytes = c.args.page.now in
    let l = at (128 * r + i) (get_or bytes i 0) in
    let d = m c.loop-i.socket in
    let e = m c.put.new.socket in (
      c.put.ensures.sectors ∙ c.loop-i.invariant.0,
      λ k z h. subst (λ (x : DataLoads). Coding k z e x) (data_more r i (get_or bytes i 0) bytes (omega arith) c.told-page refl) (coding_more k l z d e (first_of r bytes i) (c.loop-i.invariant.1 k z h) c.put.ensures.puts),
    )

pub returns : goal.returns
returns g c =
    let m = g.S.Socket.meaning in
    let e : c.loop-i.i ≡ 128 = omega arith in
    λ k z h. subst (λ (n : ℕ). Coding k z (m c.loop-i.socket) (first_of c.args.sector c.args.page.now n)) e (c.loop-i.invariant.1 k z h)
