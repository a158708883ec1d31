-- The parts of a line, and the line that they make again.
use Rattle.std.proofs.Common.{◌≡◌, ℕ, true, ◌&&◌, eqb, List, [], ◌∷◌, ◌++◌, length, sym, refl, ap, ◌∙◌, inl, inr}
use Rattle.std.proofs.lemmas.Bool.{ne_eqb, eqb-false, cases_Bool, lt-ltb, ltb-true, and_parts, and_from, false≢true}
use Rattle.std.specs.List.{join_with_byte}
use Rattle.std.proofs.lemmas.List.Splits.{join_with_byte-slice_split}
use Rattle.fields.specs.Splitting.{parts, grown, filled, are_four, NoSpace, FourFields}
use Rattle.fields.proofs.Cuts.{parts_split}

abbrev pub AllNoSpace : List (List ℕ) → Type 0
AllNoSpace [] = Unit {0}
AllNoSpace (p ∷ ps) = NoSpace p × AllNoSpace ps

-- parts with single spaces between are the line again
rejoined : (s : List ℕ) → join_with_byte 32 (parts s) ≡ s
rejoined s = ap (join_with_byte 32) (sym (parts_split s)) ∙ join_with_byte-slice_split 32 s

grown_spaceless : (b : ℕ) (ps : List (List ℕ)) → (b ≡ 32 → ⊥) → AllNoSpace ps → AllNoSpace (grown b ps)
grown_spaceless b [] ne h = ((ne, tt), tt)
grown_spaceless b (p ∷ ps) ne h = ((ne, h.0), h.1)

pub spaceless_parts : (s : List ℕ) → AllNoSpace (parts s)
spaceless_parts [] = (tt, tt)
spaceless_parts (b ∷ s) =
    elim (cases_Bool (eqb b 32)) [
      | inl y ↦ rw y (tt, spaceless_parts s)
      | inr n ↦ rw n (grown_spaceless b (parts s) (eqb-false b 32 n) (spaceless_parts s))
    ]

-- four filled parts are the four fields of their line
four_of : (s : List ℕ) (ps : List (List ℕ)) → join_with_byte 32 ps ≡ s → AllNoSpace ps → are_four ps ≡ true
    → (a : List ℕ) × (b : List ℕ) × (c : List ℕ) × (d : List ℕ) × FourFields s a b c d × (ps ≡ a ∷ (b ∷ (c ∷ (d ∷ []))))
four_of s [] w n h = absurd (false≢true h)
four_of s (a ∷ []) w n h = absurd (false≢true h)
four_of s (a ∷ (b ∷ [])) w n h = absurd (false≢true h)
four_of s (a ∷ (b ∷ (c ∷ []))) w n h = absurd (false≢true h)
four_of s (a ∷ (b ∷ (c ∷ (d ∷ [])))) w n h =
    let ha = and_parts (filled a) (filled b && (filled c && filled d)) h in
    let hb = and_parts (filled b) (filled c && filled d) ha.1 in
    let hc = and_parts (filled c) (filled d) hb.1 in (
      a,
      b,
      c,
      d,
      record {
        line = sym w;
        first = (ltb-true 0 (length a) ha.0, n.0);
        second = (ltb-true 0 (length b) hb.0, n.1.0);
        third = (ltb-true 0 (length c) hc.0, n.1.1.0);
        fourth = (ltb-true 0 (length d) hc.1, n.1.1.1.0);
      },
      refl,
    )
four_of s (a ∷ (b ∷ (c ∷ (d ∷ (e ∷ ps))))) w n h = absurd (false≢true h)

pub four_fields : (s : List ℕ) → are_four (parts s) ≡ true
    → (a : List ℕ) × (b : List ℕ) × (c : List ℕ) × (d : List ℕ) × FourFields s a b c d × (parts s ≡ a ∷ (b ∷ (c ∷ (d ∷ []))))
four_fields s h = four_of s (parts s) (rejoined s) (spaceless_parts s) h

-- a field with a space after it
parts_front : (w s : List ℕ) → NoSpace w → parts (w ++ (32 ∷ s)) ≡ w ∷ parts s
parts_front [] s p = refl
parts_front (b ∷ w) s p = rw (ne_eqb b 32 p.0, parts_front w s p.1) refl

parts_last : (w : List ℕ) → NoSpace w → parts w ≡ w ∷ []
parts_last [] p = refl
parts_last (b ∷ w) p = rw (ne_eqb b 32 p.0, parts_last w p.1) refl

-- a line has no other fields than its own
pub parts_four : (s a b c d : List ℕ) → FourFields s a b c d → parts s ≡ a ∷ (b ∷ (c ∷ (d ∷ [])))
parts_four s a b c d h =
    ap parts h.line
    ∙ parts_front a (b ++ (32 ∷ (c ++ (32 ∷ d)))) h.first.1
    ∙ ap (λ (x : List (List ℕ)). a ∷ x)
    (parts_front b (c ++ (32 ∷ d)) h.second.1
    ∙ ap (λ (x : List (List ℕ)). b ∷ x) (parts_front c d h.third.1 ∙ ap (λ (x : List (List ℕ)). c ∷ x) (parts_last d h.fourth.1)))

pub are_four_lem : (s a b c d : List ℕ) → FourFields s a b c d → are_four (parts s) ≡ true
are_four_lem s a b c d h =
    ap are_four (parts_four s a b c d h)
    ∙ and_from (filled a) (filled b && (filled c && filled d)) (lt-ltb 0 (length a) h.first.0)
    (and_from (filled b) (filled c && filled d) (lt-ltb 0 (length b) h.second.0)
    (and_from (filled c) (filled d) (lt-ltb 0 (length c) h.third.0) (lt-ltb 0 (length d) h.fourth.0)))
