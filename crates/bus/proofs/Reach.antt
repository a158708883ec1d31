-- A period of loads inside the part names sectors inside the part. Assumes nothing.
use Rattle.std.proofs.Common.{ℕ, ◌*◌, ◌/◌, ◌<◌, ◌≤◌, eqb, length, arith}
use Rattle.std.proofs.lemmas.Bool.{cond_both}
use Rattle.bus.specs.declared.load.Load.{Load}
use Rattle.bus.specs.declared.kind.Kind.{Kind}
use Rattle.bus.specs.declared.kind.Kind.TheVariants.{Coded, Lift, Low, High, Plain}
use Rattle.bus.specs.Meaning.{DataLoads, none, one, several, Period}
use Rattle.bus.specs.Codes.{kind_of, kind}
use Rattle.bus.specs.Periods.{add_data, is_lockout, data_with, head_with, more_with, extend}
use Rattle.bus.specs.Sizes.{reach}

module _ (n : ℕ) (l : Load) (within : l.address < 128 * n) where
  add_reach : (d : DataLoads) → reach d ≤ n → reach (add_data d l) ≤ n
  add_reach none h = omega arith
  add_reach (one s page) h = cond_both (eqb (l.address / 128) s) _ _ (λ d. reach d ≤ n) (λ _. h) (λ _. omega arith)
  add_reach several h = omega arith

  with_reach : (old new : Kind) (len : ℕ) (d : DataLoads) → reach d ≤ n → reach (data_with old new len d l) ≤ n
  with_reach old Coded len d h = cond_both (eqb len 2) _ _ (λ d. reach d ≤ n) (λ _. omega arith) (λ _. add_reach d h)
  with_reach old Lift len d h = cond_both (eqb len 5) _ _ (λ d. reach d ≤ n) (λ _. omega arith) (λ _. add_reach d h)
  with_reach old Low len d h = omega arith
  with_reach old High len d h = omega arith
  with_reach old Plain len d h = cond_both (is_lockout old) _ _ (λ d. reach d ≤ n) (λ _. omega arith) (λ _. add_reach d h)

  pub extend_reach : (p : Period) → reach p.loaded ≤ n → reach (extend n p l).loaded ≤ n
  extend_reach p h = with_reach (kind n p) (kind_of n (head_with p.head l) (more_with p.head p.more)) (length p.head) p.loaded h
