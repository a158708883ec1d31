-- A line as the library cuts it.
use Rattle.std.proofs.Common.{◌≡◌, ℕ, zero, suc, ◌<◌, Bool, true, false, cond, not, ◌&&◌, eqb, leb, List, [], ◌∷◌, length, get_or, map, is_some, Some, None, Bor, Option, sym, refl, ap, subst, ◌∙◌, arith}
use Rattle.std.proofs.lemmas.Bool.{true≢false, false≢true, and_left, and_right}
use Rattle.std.proofs.lemmas.Iterator.{YieldsList}
use Rattle.std.proofs.lemmas.Iterator.Consumers.{YieldsList-turn, YieldsList-end}
use Rattle.std.proofs.lemmas.Iterator.Splits.{YieldsList-from_slice_split}
use Rattle.std.proofs.lemmas.List.Recursion.{same_from_clauses}
use Rattle.std.specs.Bool.{then_some}
use Rattle.std.specs.Option.{IfSome, MatchOption}
use Rattle.fields.specs.declared.line.Fields.{Fields}
use Rattle.std.specs.Fn.{CalledAt}
use Rattle.std.specs.Iterator.{Yields}
use Rattle.std.specs.List.{slice_split, onto_first, list_all}
use Rattle.std.specs.Slice.Iter.{split_rest, split_done, split_callee, split_steps}
use Rattle.std.specs.declared.slice.Split.{Split}
use denote.Param.Members.{Mut}
use Rattle.fields.specs.Splitting.{printable, parts, grown, filled, are_four}

pub printable_all : (s : List ℕ) → printable s ≡ list_all (λ b. leb 32 b && leb b 126) s
printable_all = same_from_clauses printable (list_all (λ b. leb 32 b && leb b 126)) (λ b r. (leb 32 b && leb b 126) && r) refl (λ _ _. refl) (λ _ _. refl)

grown_first : (b : ℕ) (ps : List (List ℕ)) → onto_first b ps ≡ grown b ps
grown_first b [] = refl
grown_first b (p ∷ ps) = refl

pub parts_split : (s : List ℕ) → slice_split (λ b. eqb b 32) s ≡ parts s
parts_split = same_from_clauses (slice_split (λ b. eqb b 32)) parts (λ b r. cond (eqb b 32) ([] ∷ r) (grown b r)) refl (λ b s. ap (cond (eqb b 32) ([] ∷ slice_split (λ c. eqb c 32) s)) (grown_first b (slice_split (λ c. eqb c 32) s))) (λ _ _. refl)

few : (ps : List (List ℕ)) → length ps < 4 → are_four ps ≡ false
few [] l = refl
few (a ∷ []) l = refl
few (a ∷ (b ∷ [])) l = refl
few (a ∷ (b ∷ (c ∷ []))) l = refl
few (a ∷ (b ∷ (c ∷ (d ∷ ps)))) l = absurd (omega arith)

too_many : (ps : List (List ℕ)) → 4 < length ps → are_four ps ≡ false
too_many [] l = absurd (omega arith)
too_many (a ∷ []) l = absurd (omega arith)
too_many (a ∷ (b ∷ [])) l = absurd (omega arith)
too_many (a ∷ (b ∷ (c ∷ []))) l = absurd (omega arith)
too_many (a ∷ (b ∷ (c ∷ (d ∷ [])))) l = absurd (omega arith)
too_many (a ∷ (b ∷ (c ∷ (d ∷ (e ∷ ps))))) l = refl

-- one of the first four is empty
unfilled : (ps : List (List ℕ)) (n : ℕ) (p : List ℕ) → n < 4 → p ≡ get_or ps n p → filled p ≡ false → are_four ps ≡ false
unfilled [] n p l e h = refl
unfilled (a ∷ []) n p l e h = refl
unfilled (a ∷ (b ∷ [])) n p l e h = refl
unfilled (a ∷ (b ∷ (c ∷ []))) n p l e h = refl
unfilled (a ∷ (b ∷ (c ∷ (d ∷ [])))) zero p l e h = and_left (filled a) (filled b && (filled c && filled d)) (ap filled (sym e) ∙ h)
unfilled (a ∷ (b ∷ (c ∷ (d ∷ [])))) (suc zero) p l e h = and_right (filled a) (filled b && (filled c && filled d)) (and_left (filled b) (filled c && filled d) (ap filled (sym e) ∙ h))
unfilled (a ∷ (b ∷ (c ∷ (d ∷ [])))) (suc (suc zero)) p l e h =
    and_right (filled a) (filled b && (filled c && filled d)) (and_right (filled b) (filled c && filled d) (and_left (filled c) (filled d) (ap filled (sym e) ∙ h)))
unfilled (a ∷ (b ∷ (c ∷ (d ∷ [])))) (suc (suc (suc zero))) p l e h =
    and_right (filled a) (filled b && (filled c && filled d)) (and_right (filled b) (filled c && filled d) (and_right (filled c) (filled d) (ap filled (sym e) ∙ h)))
unfilled (a ∷ (b ∷ (c ∷ (d ∷ [])))) (suc (suc (suc (suc n)))) p l e h = absurd (omega arith)
unfilled (a ∷ (b ∷ (c ∷ (d ∷ (e ∷ ps))))) n p l k h = refl

-- a line's parts come, one after another, from the calls that cut it: first xs, and then r
module _ {F : Type 0} {g : Mut F (Bor ℕ × Unit {0}) Bool} (s t u : Split ℕ F) (line : List ℕ) (xs : List (Bor (List ℕ))) (r : Option (Bor (List ℕ))) (came : Yields (split_steps g) s xs t) (next : split_steps g t r u) {f : F}
    (rest : split_rest s ≡ line) (done : split_done s ≡ false) (closure : split_callee s ≡ f) (tests : (x : ℕ) (b : Bool) (q : F) → CalledAt g f x b q → (q ≡ f) × (b ≡ eqb x 32)) where
  cuts : YieldsList (split_steps g) (λ x. x.now) s (parts line)
  cuts = subst (YieldsList (split_steps g) (λ x. x.now) s) (parts_split line) (YieldsList-from_slice_split g (λ b. eqb b 32) line rest done closure tests)

  ended : r ≡ None → (map (λ x. x.now) xs ≡ parts line) × (length xs ≡ length (parts line))
  ended e = YieldsList-end cuts xs t came r u e next

  turned : (p : Bor (List ℕ)) → r ≡ Some p → (length xs < length (parts line)) × (p.now ≡ get_or (parts line) (length xs) p.now)
  turned p e = YieldsList-turn cuts xs t came r u p e next

  pub no_field : length xs < 4 → IfSome r (λ p. filled p.now ≡ false) → are_four (parts line) ≡ false
  no_field l h = by r refl h
    where
      by : (o : Option (Bor (List ℕ))) → r ≡ o → IfSome o (λ p. filled p.now ≡ false) → are_four (parts line) ≡ false
      by None e k = few (parts line) (omega (arith, (ended e).1))
      by (Some p) e k = unfilled (parts line) (length xs) p.now l (turned p e).1 k

  pub told : (b : Bool) (f : Fields) → is_some r ≡ not b → f.texts ≡ xs → length xs ≡ 4 → are_four (map (λ x. x.now) xs) ≡ true
      → MatchOption (then_some b f) (are_four (parts line) ≡ false) (λ f. (are_four (parts line) ≡ true) × (parts line ≡ map (λ p. p.now) f.texts))
  told b f e same l four = by r b refl e
    where
      by : (o : Option (Bor (List ℕ))) (b : Bool) → r ≡ o → is_some o ≡ not b → MatchOption (then_some b f) (are_four (parts line) ≡ false) (λ f. (are_four (parts line) ≡ true) × (parts line ≡ map (λ p. p.now) f.texts))
      by None true e h = let w = (ended e).0 in (ap are_four (sym w) ∙ four, sym w ∙ ap (map (λ x. x.now)) (sym same))
      by None false e h = absurd (false≢true h)
      by (Some p) true e h = absurd (true≢false h)
      by (Some p) false e h = too_many (parts line) (omega (arith, (turned p e).0))
