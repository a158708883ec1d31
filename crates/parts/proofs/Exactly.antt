-- A part's promise over a whole list of calls: its answers are those that the definitions compute. Assumes nothing.
use Rattle.std.proofs.Common.{◌≡◌, ℕ, Bool, true, false, List, [], ◌∷◌, length, IfOk, Ok, Err, Result, sym, refl, ap, ◌∙◌, ap₂, arith}
use mathlib.Core.Path.{fun_ext}
use Rattle.bus.specs.declared.call.Call.{Call}
use Rattle.chip.specs.declared.part.Part.{Part}
use Rattle.kinds.specs.Style.{Style}
use Rattle.chip.specs.Exact.{Onward, closes_in}
use Rattle.parts.specs.Runs.{times_after, answers_by, chip_by, times_by}
use Rattle.chip.specs.Meaning.{meant, Promised}
use Rattle.bus.specs.History.{Answer, Kept, history}

onward_is : (b : Bool) (ts us : ℕ → ℕ) → Onward b ts us → us ≡ times_after b ts
onward_is true ts us h = fun_ext h
onward_is false ts us h = h

module _ {B : Type 0} (y : Style) (times : B → ℕ → ℕ) where
  abbrev pub Told : List Call → List Answer → Part B → Part B → Type 0
  Told xs os p q =
      (os ≡ answers_by y xs (times p.behaviour) (meant y p))
      × (meant y q ≡ chip_by y xs (times p.behaviour) (meant y p))
      × (times q.behaviour ≡ times_by y xs (times p.behaviour) (meant y p))

  pub exact_run : (xs : List Call) (os : List Answer) (p q : Part B) → length xs ≡ length os → Kept (Promised y times) (history xs os) p q → Told xs os p q
  exact_run [] [] p q n e = (refl, ap (meant y) e, ap (λ (z : Part B). times z.behaviour) e)
  exact_run [] (o ∷ os) p q n e = absurd (omega arith)
  exact_run (x ∷ xs) [] p q n e = absurd (omega arith)
  exact_run (x ∷ xs) (o ∷ os) p q n (m, v, k) =
      let ih = exact_run xs os m q (omega arith) k in
      let ts = onward_is (closes_in x (meant y p)) (times p.behaviour) (times m.behaviour) v.2 in (
        ap₂ (λ (z : Answer) (zs : List Answer). z ∷ zs) v.1 (ih.0 ∙ ap₂ (answers_by y xs) ts v.0),
        ih.1 ∙ ap₂ (chip_by y xs) ts v.0,
        ih.2 ∙ ap₂ (times_by y xs) ts v.0,
      )

  -- of answers that found memory
  module _ {V E : Type 0} (items : V → List Answer) where
    pub exact_made : (r : Result V E) (xs : List Call) (p q : Part B) → IfOk r (λ v. length (items v) ≡ length xs) →
        IfOk r (λ v. Kept (Promised y times) (history xs (items v)) p q) → IfOk r (λ v. Told xs (items v) p q)
    exact_made (Ok v) xs p q n k = exact_run xs (items v) p q (sym n) k
    exact_made (Err e) xs p q n k = tt
