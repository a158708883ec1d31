-- From the value that the periods say to the sentences of the law. Assumes nothing.
use Rattle.std.proofs.Common.{◌≡◌, ℕ, zero, suc, List, [], ◌∷◌, get_or, Some, Option, ◌∙◌, subst, inl, inr, arith}
use Rattle.std.proofs.lemmas.Bool.{cases_Bool, cond-true, cond-false}
use Rattle.bus.specs.declared.load.Load.{Load}
use Rattle.bus.specs.Law.{Flags, flags_after, could_write, last_load_at, data_loads, CouldWrite, LatestWriter}
use Rattle.bus.proofs.Expected.{expected, Meets}

module _ (n : ℕ) (f : Flags) (a first b : ℕ) where
  -- a period more
  later_writer : (p : List Load) (ps : List (List Load)) (i : ℕ) → CouldWrite n f ps i a → CouldWrite n f (p ∷ ps) (suc i) a
  later_writer p ps i h = (omega (arith, h.0), h.1)

  -- a byte that differs was written by some period
  pub some_writer : (ps : List (List Load)) → Meets (expected n f ps a first) b → (b ≡ first → ⊥) → (i : ℕ) × CouldWrite n f ps i a
  some_writer [] m ne = absurd (ne m)
  some_writer (p ∷ ps) m ne = elim (cases_Bool (could_write n (flags_after n f ps) p a)) [
    | inl t ↦ (0, (omega arith, t))
    | inr e ↦
        let r = some_writer ps (subst (λ (o : Option ℕ). Meets o b) (cond-false _ _ _ e) m) ne in
        (suc r.0, later_writer p ps r.0 r.1)
  ]

  -- the last data load in the latest period that could write
  pub last_load : (ps : List (List Load)) (i v : ℕ) → Meets (expected n f ps a first) b → LatestWriter n f ps i a → last_load_at a (data_loads n (get_or ps i [])) ≡ Some v → b ≡ v
  last_load [] i v m w e = absurd (omega (arith, w.0.0))
  last_load (p ∷ ps) zero v m w e =
      subst (λ (o : Option ℕ). Meets o b) (cond-true _ _ _ w.0.1 ∙ e) m
  last_load (p ∷ ps) (suc i) v m w e = elim (cases_Bool (could_write n (flags_after n f ps) p a)) [
    | inl t ↦ absurd (w.1 0 (omega arith) (omega arith, t))
    | inr z ↦
        last_load ps i v (subst (λ (o : Option ℕ). Meets o b) (cond-false _ _ _ z) m)
        ((omega (arith, w.0.0), w.0.1), (λ j h c. w.1 (suc j) (omega arith) (later_writer p ps j c))) e
  ]
