-- What one period does to a byte, by its data loads. Assumes nothing.
use Rattle.std.proofs.Common.{◌≡◌, ℕ, ◌+◌, ◌-◌, ◌*◌, ◌/◌, ◌%◌, ◌<◌, ◌≤◌, Bool, true, false, cond, not, ◌&&◌, eqb, List, [], ◌∷◌, ◌++◌, length, get_or, take, drop, set, Some, None, Option, unwrap_or, sym, refl, ap, ◌∙◌, subst, inl, inr, arith}
use lib.Seq.{paste, length_paste_head}
use Rattle.std.proofs.lemmas.List.{length-take-le, get_or-set_same, get_or-set_other, length-set, get_or-replicate, get_or_append_left, get_or-append_right, get_or-take, get_or-drop}
use Rattle.std.proofs.lemmas.List.Edits.{length-paste}
use Rattle.std.proofs.lemmas.Bool.{cases_Bool, cases_lt, cases_eq, cond-true, cond-false, eq-eqb, ne_eqb, and_parts, and_left, and_right, eqb-true}
use Rattle.bus.specs.declared.load.Load.{Load}
use Rattle.bus.specs.declared.kind.Kind.{Kind}
use Rattle.bus.proofs.Summaries.{data_by, summary, kind_is, data_is}
use Rattle.bus.proofs.Expected.{expected, Meets}
use Rattle.bus.proofs.Reach.{extend_reach}
use Rattle.std.specs.List.{AllByRecursion}
use Rattle.bus.proofs.Pages.{get_or-programmed}
use Rattle.bus.specs.Meaning.{State, DataLoads, none, one, several}
use Rattle.bus.specs.Periods.{blank, add_data}
use Rattle.bus.specs.Outcomes.{in_locked, is_locked, outcome_of, programmed, with_sector, bytes_after, settle_as, settle}
use Rattle.bus.specs.History.{is_nil}
use Rattle.bus.specs.Law.{kind_of_loads, data_loads, Flags, flags_of, flags_as, flags_after, all_in, permitted, last_load_at}
use Rattle.bus.specs.Sizes.{reach, length-programmed, writes, still, still_several}

-- what a add_data matches of the data loads
abbrev Sums : DataLoads → List Load → Type 0
Sums none ls = ls ≡ []
Sums (one r page) ls =
    (is_nil ls ≡ false) × (all_in r ls ≡ true) × (length page ≡ 128) × ((i : ℕ) → i < 128 → get_or page i None ≡ last_load_at (128 * r + i) ls)
    × ((q : ℕ) → all_in q ls ≡ true → q ≡ r)
Sums several ls = (is_nil ls ≡ false) × ((q : ℕ) → all_in q ls ≡ false)

page_push : (page : List (Option ℕ)) (l : Load) (ls : List Load) (r : ℕ) → length page ≡ 128 → l.address / 128 ≡ r →
    ((i : ℕ) → i < 128 → get_or page i None ≡ last_load_at (128 * r + i) ls) →
    (i : ℕ) → i < 128 → get_or (set page (l.address % 128) (Some l.byte)) i None ≡ last_load_at (128 * r + i) (l ∷ ls)
page_push page l ls r n e h i k = elim (cases_eq i (l.address % 128)) [
  | inl x ↦
      let t : eqb l.address (128 * r + i) ≡ true = eq-eqb _ _ (omega arith) in
      ap (λ (j : ℕ). get_or (set page (l.address % 128) (Some l.byte)) j None) x
      ∙ get_or-set_same page (l.address % 128) (Some l.byte) None (omega arith) ∙ sym (cond-true _ _ _ t)
  | inr x ↦
      let f : eqb l.address (128 * r + i) ≡ false = ne_eqb _ _ (λ y. x (omega arith)) in
      get_or-set_other page (l.address % 128) i (Some l.byte) None x ∙ h i k ∙ sym (cond-false _ _ _ f)
]

sums_step : (d : DataLoads) (l : Load) (ls : List Load) → Sums d ls → Sums (add_data d l) (l ∷ ls)
sums_step none l ls e =
    let r = l.address / 128 in
    let t : eqb r r ≡ true = eq-eqb r r refl in
    let hit : all_in r (l ∷ ls) ≡ true = rw (e, t) in (
      refl,
      hit,
      simp length-set,
      page_push blank l ls r refl refl (λ i h. get_or-replicate 128 i None None h ∙ sym (ap (last_load_at (128 * r + i)) e)),
      (λ q h. sym (eqb-true r q (and_parts (eqb r q) (all_in q ls) h).0)),
    )
sums_step (one r page) l ls h = elim (cases_Bool (eqb (l.address / 128) r)) [
  | inl t ↦
      let e = eqb-true (l.address / 128) r t in
      let hit : all_in r (l ∷ ls) ≡ true = rw (t, h.1) in
      let s : Sums (one r (set page (l.address % 128) (Some l.byte))) (l ∷ ls) =
      (refl, hit, simp length-set h.2, page_push page l ls r h.2 e h.3, (λ q k. h.4 q (and_parts (eqb (l.address / 128) q) (all_in q ls) k).1)) in
      subst (λ (d : DataLoads). Sums d (l ∷ ls)) (sym (cond-true _ _ _ t)) s
  | inr f ↦
      let s : Sums several (l ∷ ls) = (
        refl,
        (λ q. elim (cases_Bool (all_in q ls)) [
          | inl t ↦ and_left _ _ (ap (eqb (l.address / 128)) (h.4 q t) ∙ f)
          | inr z ↦ and_right _ _ z
        ]),
      ) in
      subst (λ (d : DataLoads). Sums d (l ∷ ls)) (sym (cond-false _ _ _ f)) s
]
sums_step several l ls h = (refl, (λ q. and_right (eqb (l.address / 128) q) (all_in q ls) (h.1 q)))

pub sums : (ls : List Load) → Sums (data_by ls) ls
sums [] = refl
sums (l ∷ ls) = sums_step (data_by ls) l ls (sums ls)

-- a byte of a list that a row was pasted into
module _ (bytes : List ℕ) (at : ℕ) (row : List ℕ) (rl : length row ≡ 128) (fits : at + 128 ≤ length bytes) where
  front : length (take at bytes ++ take 128 row) ≡ at + 128
  front = length_paste_head bytes at row 128 (omega arith) (omega arith)

  lead : length (take at bytes) ≡ at
  lead = length-take-le at bytes (omega arith)

  paste_in : (i : ℕ) → i < 128 → get_or (paste bytes at row 128) (at + i) 0 ≡ get_or row i 0
  paste_in i h =
      let f = front in
      let e : at + i - at ≡ i = omega arith in
      get_or_append_left (take at bytes ++ take 128 row) (drop (at + 128) bytes) 0 (at + i) (omega arith)
      ∙ get_or-append_right (take at bytes) (take 128 row) at (at + i) 0 lead (omega arith)
      ∙ ap (λ (k : ℕ). get_or (take 128 row) k 0) e ∙ get_or-take 128 row i 0 h

  paste_before : (a : ℕ) → a < at → get_or (paste bytes at row 128) a 0 ≡ get_or bytes a 0
  paste_before a h =
      let f = front in
      let g = lead in
      get_or_append_left (take at bytes ++ take 128 row) (drop (at + 128) bytes) 0 a (omega arith)
      ∙ get_or_append_left (take at bytes) (take 128 row) 0 a (omega arith) ∙ get_or-take at bytes a 0 h

  paste_after : (a : ℕ) → at + 128 ≤ a → get_or (paste bytes at row 128) a 0 ≡ get_or bytes a 0
  paste_after a h =
      let e : at + 128 + (a - (at + 128)) ≡ a = omega arith in
      get_or-append_right (take at bytes ++ take 128 row) (drop (at + 128) bytes) (at + 128) a 0 front h
      ∙ get_or-drop (at + 128) bytes (a - (at + 128)) 0 ∙ ap (λ (k : ℕ). get_or bytes k 0) e

splice_in : (bytes : List ℕ) (r : ℕ) (row : List ℕ) (a : ℕ) → length row ≡ 128 → 128 * r + 128 ≤ length bytes → a / 128 ≡ r →
    get_or (with_sector bytes r row) a 0 ≡ get_or row (a % 128) 0
splice_in bytes r row a h k e =
    let x : a ≡ 128 * r + a % 128 = omega arith in
    ap (λ (j : ℕ). get_or (with_sector bytes r row) j 0) x ∙ paste_in bytes (128 * r) row h k (a % 128) (omega arith)

splice_out : (bytes : List ℕ) (r : ℕ) (row : List ℕ) (a : ℕ) → length row ≡ 128 → 128 * r + 128 ≤ length bytes → (a / 128 ≡ r → ⊥) →
    get_or (with_sector bytes r row) a 0 ≡ get_or bytes a 0
splice_out bytes r row a h k ne = elim (cases_lt a (128 * r)) [
  | inl b ↦ paste_before bytes (128 * r) row h k a b
  | inr b ↦ paste_after bytes (128 * r) row h k a (omega arith)
]

meets_or : (o : Option ℕ) (x : ℕ) → Meets o (unwrap_or o x)
meets_or None x = tt
meets_or (Some v) x = refl

-- whether a period of this kind, with these data loads, could_write write the byte at a
abbrev pub could_as : ℕ → Flags → Kind → List Load → ℕ → Bool
could_as n f k ls a = (not (is_nil ls) && all_in (a / 128) ls) && (not (in_locked n f.low_locked f.high_locked (a / 128)) && permitted k f.protected)

module _ (n : ℕ) (s : State) (k : Kind) (fill : List ℕ) (fl : length fill ≡ 128) (size : length s.bytes ≡ 128 * n) (a : ℕ) (o : Option ℕ) (was : Meets o (get_or s.bytes a 0)) where
  both : (w : Bool) (ls : List Load) (sp : List ℕ) (c : Bool) (new : List ℕ) → c ≡ w → new ≡ cond w sp s.bytes → Meets (last_load_at a ls) (get_or sp a 0) →
      Meets (cond c (last_load_at a ls) o) (get_or new a 0)
  both w ls sp c new e f h =
      let P : Bool → List ℕ → Type 0 = λ b xs. Meets (cond b (last_load_at a ls) o) (get_or xs a 0) in
      subst (λ (b : Bool). P b new) (sym e) (subst (λ (xs : List ℕ). P w xs) (sym f) (elim w as (λ v. P v (cond v sp s.bytes)) [ true ↦ h | false ↦ was ]))

  neither : (w : Bool) (ls : List Load) (sp : List ℕ) (c : Bool) (new : List ℕ) → c ≡ false → new ≡ cond w sp s.bytes → get_or sp a 0 ≡ get_or s.bytes a 0 →
      Meets (cond c (last_load_at a ls) o) (get_or new a 0)
  neither w ls sp c new e f h =
      let P : Bool → List ℕ → Type 0 = λ b xs. Meets (cond b (last_load_at a ls) o) (get_or xs a 0) in
      subst (λ (b : Bool). P b new) (sym e) (subst (λ (xs : List ℕ). P false xs) (sym f) (elim w as (λ v. P false (cond v sp s.bytes)) [ true ↦ subst (λ (x : ℕ). Meets o x) (sym h) was | false ↦ was ]))

  one_byte : (r : ℕ) (page : List (Option ℕ)) (ls : List Load) → Sums (one r page) ls → r + 1 ≤ n →
      Meets (cond (could_as n (flags_of s) k ls a) (last_load_at a ls) o) (get_or (bytes_after (outcome_of n s k (one r page)) (one r page) fill s.bytes) a 0)
  one_byte r page ls h within =
      let w = not (is_locked n s r) && permitted k s.protected in
      let row = programmed page fill in
      let rl : length row ≡ 128 = length-programmed page fill ∙ fl in
      let room : 128 * r + 128 ≤ length s.bytes = omega arith in
      let new = writes n s k r page fill in
      elim (cases_eq (a / 128) r) [
        | inl e ↦
            let c : could_as n (flags_of s) k ls a ≡ w = rw (e, h.0, h.1) in
            let got : get_or (with_sector s.bytes r row) a 0 ≡ unwrap_or (last_load_at a ls) (get_or fill (a % 128) 0) =
            splice_in s.bytes r row a rl room e ∙ get_or-programmed page fill (a % 128) 0 (omega arith)
            ∙ ap (λ (x : Option ℕ). unwrap_or x (get_or fill (a % 128) 0)) (h.3 (a % 128) (omega arith) ∙ ap (λ (j : ℕ). last_load_at j ls) (let y : 128 * r + a % 128 ≡ a = omega arith in y)) in
            both w ls (with_sector s.bytes r row) _ _ c new (subst (λ (x : ℕ). Meets (last_load_at a ls) x) (sym got) (meets_or (last_load_at a ls) (get_or fill (a % 128) 0)))
        | inr ne ↦
            let miss : all_in (a / 128) ls ≡ false = elim (cases_Bool (all_in (a / 128) ls)) [ inl t ↦ absurd (ne (h.4 (a / 128) t)) | inr z ↦ z ] in
            let c : could_as n (flags_of s) k ls a ≡ false = and_left _ _ (and_right (not (is_nil ls)) (all_in (a / 128) ls) miss) in
            neither w ls (with_sector s.bytes r row) _ _ c new (splice_out s.bytes r row a rl room ne)
      ]

  byte_step : (d : DataLoads) (ls : List Load) → Sums d ls → reach d ≤ n →
      Meets (cond (could_as n (flags_of s) k ls a) (last_load_at a ls) o) (get_or (bytes_after (outcome_of n s k d) d fill s.bytes) a 0)
  byte_step none ls h w =
      let c : could_as n (flags_of s) k ls a ≡ false = rw h in
      neither false ls s.bytes _ _ c (still (outcome_of n s k none) fill s.bytes) refl
  byte_step (one r page) ls h w = one_byte r page ls h w
  byte_step several ls h w =
      let c : could_as n (flags_of s) k ls a ≡ false = and_left _ _ (and_right (not (is_nil ls)) (all_in (a / 128) ls) (h.1 (a / 128))) in
      neither false ls s.bytes _ _ c (still_several (outcome_of n s k several) fill s.bytes) refl

  length-step : (d : DataLoads) (ls : List Load) → Sums d ls → reach d ≤ n → length (bytes_after (outcome_of n s k d) d fill s.bytes) ≡ 128 * n
  length-step none ls h w = ap length (still (outcome_of n s k none) fill s.bytes) ∙ size
  length-step several ls h w = ap length (still_several (outcome_of n s k several) fill s.bytes) ∙ size
  length-step (one r page) ls h w =
      let rl : length (programmed page fill) ≡ 128 = length-programmed page fill ∙ fl in
      let long : length (with_sector s.bytes r (programmed page fill)) ≡ 128 * n = length-paste s.bytes (128 * r) (programmed page fill) 128 (omega arith) (omega arith) ∙ size in
      ap length (writes n s k r page fill)
      ∙ elim (not (is_locked n s r) && permitted k s.protected) as (λ b. length (cond b (with_sector s.bytes r (programmed page fill)) s.bytes) ≡ 128 * n) [ true ↦ long | false ↦ size ]

-- what holds of a state after these periods: its size, its flags, and what is expected of the byte at a
abbrev pub Good : ℕ → Flags → ℕ → ℕ → State → List (List Load) → Type 0
Good n f a first s ps =
    (length s.bytes ≡ 128 * n) × (flags_of s ≡ flags_after n f ps) × Meets (expected n f ps a first) (get_or s.bytes a 0)

abbrev pub Inside : ℕ → List Load → Type 0
Inside n ls = AllByRecursion (λ (l : Load). l.address < 128 * n) ls

summary_reach : (n : ℕ) (ls : List Load) → Inside n ls → reach (summary n ls).loaded ≤ n
summary_reach n [] h = omega arith
summary_reach n (l ∷ ls) h = extend_reach n l h.0 (summary n ls) (summary_reach n ls h.1)

pub good_step : (n : ℕ) (f : Flags) (a first : ℕ) (s : State) (ps : List (List Load)) (ls : List Load) (fill : List ℕ) → length fill ≡ 128 → Inside n ls →
    Good n f a first s ps → Good n f a first (settle n fill s (summary n ls)) (ls ∷ ps)
good_step n f a first s ps ls fill fl within g =
    let k = kind_of_loads n ls in
    let d = data_by (data_loads n ls) in
    let same : settle_as n fill s k d ≡ settle n fill s (summary n ls) =
    sym (ap (λ (x : Kind). settle_as n fill s x (summary n ls).loaded) (kind_is n ls) ∙ ap (settle_as n fill s k) (data_is n ls)) in
    let r : reach d ≤ n = subst (λ (x : DataLoads). reach x ≤ n) (data_is n ls) (summary_reach n ls within) in
    let q = sums (data_loads n ls) in
    let byte = byte_step n s k fill fl g.0 a (expected n f ps a first) g.2 d (data_loads n ls) q r in
    let size = length-step n s k fill fl g.0 a (expected n f ps a first) g.2 d (data_loads n ls) q r in
    let byte' = subst (λ (x : Flags). Meets (cond (could_as n x k (data_loads n ls) a) (last_load_at a (data_loads n ls)) (expected n f ps a first)) (get_or (settle_as n fill s k d).bytes a 0)) g.1 byte in
    subst (λ (x : State). Good n f a first x (ls ∷ ps)) same (size, ap (flags_as k) g.1, byte')
