use Rattle.std.proofs.Common.{◌≡◌, ℕ, ◌*◌, refl, ap, ◌∙◌, subst}
use Rattle.std.proofs.lemmas.Bool.{cond-true, lt-ltb}
use Rattle.bus.specs.Meaning.{Period, opened}
use Rattle.period.specs.Meaning.{period_of, extend_inside}
use Rattle.array.specs.Filling.{settle_by}
use Rattle.chip.specs.Meaning.{count_of, stored, chip_with}
use Rattle.chip.proofs.part.Part.join.Goals as goal

pub returns : goal.returns
returns g c =
    let s = c.args.self.now in
    let l = c.args.l in
    let y = g.B.Behaviour.style in
    let grown = subst (λ (n : ℕ). period_of n c.extend.new.self ≡ extend_inside n (period_of n s.period) l) c.sectors-sectors.ensures.value c.extend.ensures
    ∙ cond-true _ _ _ (lt-ltb l.address (128 * count_of s) c.requires) in
    (ap (λ (p : Period). chip_with (record { sectors = count_of s; device = s.device; last = l; toggle = s.toggle; reads = s.reads }) (settle_by y (count_of s) (stored s) p) (opened (stored s) p 0)) grown, refl)
