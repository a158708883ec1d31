-- A period summed up load by load is what its loads as a whole say. Assumes nothing.
use Rattle.std.proofs.Common.{◌≡◌, ℕ, suc, ◌+◌, ◌-◌, ◌*◌, ◌/◌, ◌%◌, ◌<◌, ◌≤◌, min, Bool, true, false, cond, not, ◌&&◌, ◌||◌, eqb, ltb, List, [], ◌∷◌, ◌++◌, reverse, length, take, sym, refl, ap, ◌∙◌, inl, inr, ⊎_elim, arith, length-append, length-take}
use mathlib.Core.List.{reverse_aux}
use Rattle.std.proofs.lemmas.List.{take_all, take-append-le, reverse-append, length-reverse}
use Rattle.std.proofs.lemmas.Bool.{cases_Bool, cases_lt, cases_eq, cond-true, cond-false, lt-ltb, le-ltb, eq-eqb, ne_eqb, and_parts, eqb-true, both_ways}
use Rattle.std.proofs.lemmas.Bool.Decides.{nat_tests}
use Rattle.bus.specs.declared.load.Load.{Load}
use Rattle.bus.specs.declared.kind.Kind.{Kind}
use Rattle.bus.specs.declared.kind.Kind.TheVariants.{Coded, Lift, Low, High, Plain}
use Rattle.bus.specs.Meaning.{DataLoads, none, several, Period}
use Rattle.bus.specs.Codes.{at, coded_code, six_code, matches, begins, seventh_is, kind_of, kind}
use Rattle.bus.specs.Periods.{add_data, data_with, head_with, more_with, extend, fresh}
use Rattle.bus.specs.Law.{kind_of_loads, data_as, data_loads}

abbrev pub summary : ℕ → List Load → Period
summary n [] = fresh
summary n (l ∷ ls) = extend n (summary n ls) l

reverse_push : (l : Load) (ls : List Load) → reverse (l ∷ ls) ≡ reverse ls ++ (l ∷ [])
reverse_push l ls = reverse-append (l ∷ []) ls

head_push : (xs : List Load) (l : Load) → head_with (take 7 xs) l ≡ take 7 (xs ++ (l ∷ []))
head_push xs l = ⊎_elim
    (λ (h : length xs < 7).
    let e = take_all 7 xs (omega arith) in
    let k : length (xs ++ (l ∷ [])) ≤ 7 = simp length-append (omega arith) in
    ap (λ (ys : List Load). head_with ys l) e ∙ cond-true _ _ _ (lt-ltb (length xs) 7 h) ∙ sym (take_all 7 (xs ++ (l ∷ [])) k))
    (λ (h : 7 ≤ length xs).
    let k : 7 ≤ length (take 7 xs) = simp length-take (omega arith) in
    cond-false _ _ _ (le-ltb (length (take 7 xs)) 7 k) ∙ sym (take-append-le 7 xs (l ∷ []) h))
    (cases_lt (length xs) 7)

pub head_is : (n : ℕ) (ls : List Load) → (summary n ls).head ≡ take 7 (reverse ls)
head_is n [] = refl
head_is n (l ∷ ls) = ap (λ (h : List Load). head_with h l) (head_is n ls) ∙ head_push (reverse ls) l ∙ ap (take 7) (sym (reverse_push l ls))

head_length : (n : ℕ) (ls : List Load) → length (summary n ls).head ≡ min 7 (length ls)
head_length n ls = ap length (head_is n ls) ∙ simp (length-take, length-reverse)

more_step : (m : ℕ) → (ltb 7 m || eqb (min 7 m) 7) ≡ ltb 7 (suc m)
more_step m = grind (arith, nat_tests)

pub more_is : (n : ℕ) (ls : List Load) → (summary n ls).more ≡ ltb 7 (length ls)
more_is n [] = refl
more_is n (l ∷ ls) =
    ap (λ (b : Bool). b || eqb (length (summary n ls).head) 7) (more_is n ls)
    ∙ ap (λ (k : ℕ). ltb 7 (length ls) || eqb k 7) (head_length n ls) ∙ more_step (length ls)

pub kind_is : (n : ℕ) (ls : List Load) → kind n (summary n ls) ≡ kind_of_loads n ls
kind_is n ls = ap (λ (h : List Load). kind_of n h (summary n ls).more) (head_is n ls) ∙ ap (kind_of n (take 7 (reverse ls))) (more_is n ls)

abbrev pub data_by : List Load → DataLoads
data_by [] = none
data_by (l ∷ ls) = add_data (data_by ls) l

-- a code at the head, as loads join
begins_grows : (code xs ys : List Load) → begins code xs ≡ true → begins code (xs ++ ys) ≡ true
begins_grows [] xs ys e = refl
begins_grows (c ∷ cs) [] ys e = absurd (let z : ◌≡◌ {A = Bool} true false = sym e in let q : ◌≡◌ {A = ℕ} 0 1 = cc in omega arith)
begins_grows (c ∷ cs) (x ∷ xs) ys e =
    let p = and_parts (matches c x) (begins cs xs) e in
    rw p.0 (begins_grows cs xs ys p.1)

begins_prefix : (code xs ys : List Load) → length code ≤ length xs → begins code (xs ++ ys) ≡ begins code xs
begins_prefix [] xs ys h = refl
begins_prefix (c ∷ cs) [] ys h = absurd (omega arith)
begins_prefix (c ∷ cs) (x ∷ xs) ys h = ap (λ (b : Bool). matches c x && b) (begins_prefix cs xs ys (omega arith))

begins_long : (code xs : List Load) → begins code xs ≡ true → length code ≤ length xs
begins_long [] xs e = omega arith
begins_long (c ∷ cs) [] e = absurd (let q : ◌≡◌ {A = ℕ} 0 1 = cc in omega arith)
begins_long (c ∷ cs) (x ∷ xs) e = let p = begins_long cs xs (and_parts (matches c x) (begins cs xs) e).1 in omega arith

module _ (code h : List Load) (l : Load) where
  grows_head : begins code h ≡ true → begins code (head_with h l) ≡ true
  grows_head e = elim (cases_Bool (ltb (length h) 7)) [
    | inl t ↦ ap (begins code) (cond-true _ _ _ t) ∙ begins_grows code h (l ∷ []) e
    | inr f ↦ ap (begins code) (cond-false _ _ _ f) ∙ e
  ]

  prefix_head : length code ≤ length h → begins code (head_with h l) ≡ begins code h
  prefix_head k = elim (cases_Bool (ltb (length h) 7)) [
    | inl t ↦ ap (begins code) (cond-true _ _ _ t) ∙ begins_prefix code h (l ∷ []) k
    | inr f ↦ ap (begins code) (cond-false _ _ _ f)
  ]

  long_head : begins code (head_with h l) ≡ true → length code ≤ length h + 1
  long_head e = elim (cases_Bool (ltb (length h) 7)) [
    | inl t ↦ let k = begins_long code (h ++ (l ∷ [])) (sym (ap (begins code) (cond-true _ _ _ t)) ∙ e) in omega (arith, length-append h (l ∷ []))
    | inr f ↦ let k = begins_long code h (sym (ap (begins code) (cond-false _ _ _ f)) ∙ e) in omega arith
  ]

-- the kind by its five tests, and back
kind_from : Bool → Bool → Bool → Bool → Bool → Kind
kind_from c f k a b = cond c Coded (cond f Lift (cond k (cond a Low (cond b High Plain)) Plain))

-- what each kind tells of the tests
abbrev Tests : Kind → Bool → Bool → Bool → Type 0
Tests Coded c f k = c ≡ true
Tests Lift c f k = (c ≡ false) × (f ≡ true)
Tests Low c f k = (c ≡ false) × (f ≡ false) × (k ≡ true)
Tests High c f k = (c ≡ false) × (f ≡ false) × (k ≡ true)
Tests Plain c f k = (c ≡ false) × (f ≡ false)

tests : (c f k a b : Bool) → Tests (kind_from c f k a b) c f k
unfolding kind_from
tests true f k a b = refl
tests false true k a b = (refl, refl)
tests false false true true b = (refl, refl, refl)
tests false false true false true = (refl, refl, refl)
tests false false true false false = (refl, refl)
tests false false false a b = (refl, refl)

tells_kind : (n : ℕ) (h : List Load) (m : Bool) → Tests (kind_of n h m) (begins coded_code h) (begins (six_code 0x20) h) (begins (six_code 0x40) h && not m)
unfolding kind_from
tells_kind n h m = tests (begins coded_code h) (begins (six_code 0x20) h) (begins (six_code 0x40) h && not m) (seventh_is h (at 0 0)) (seventh_is h (at (128 * n - 1) 0xFF))

only_coded : (k : Kind) (c f b : Bool) → Tests k c f b → c ≡ true → k ≡ Coded
only_coded Coded c f b t e = refl
only_coded Lift c f b t e = absurd (both_ways c t.0 e)
only_coded Low c f b t e = absurd (both_ways c t.0 e)
only_coded High c f b t e = absurd (both_ways c t.0 e)
only_coded Plain c f b t e = absurd (both_ways c t.0 e)

only_lift : (k : Kind) (c f b : Bool) → Tests k c f b → c ≡ false → f ≡ true → k ≡ Lift
only_lift Coded c f b t d e = absurd (both_ways c d t)
only_lift Lift c f b t d e = refl
only_lift Low c f b t d e = absurd (both_ways f t.1 e)
only_lift High c f b t d e = absurd (both_ways f t.1 e)
only_lift Plain c f b t d e = absurd (both_ways f t.1 e)

-- loads that begin a locking code name two sectors
data_in : DataLoads → List Load → DataLoads
data_in d [] = d
data_in d (x ∷ xs) = data_in (add_data d x) xs

several_stays : (xs : List Load) → data_in several xs ≡ several
unfolding data_in
several_stays [] = refl
several_stays (x ∷ xs) = several_stays xs

data_reverse : (ms r : List Load) → data_in none (reverse_aux ms r) ≡ data_in (data_by ms) r
unfolding data_in
data_reverse [] r = refl
data_reverse (m ∷ ms) r = data_reverse ms (m ∷ r)

apart : (x y : ℕ) → x % 32768 ≡ 0x5555 → y % 32768 ≡ 0x2AAA → (y / 128 ≡ x / 128) → ⊥
apart x y e f g = omega arith

lock_names : (xs : List Load) → begins (six_code 0x40) (take 7 xs) ≡ true → data_in none xs ≡ several
unfolding data_in
lock_names [] e = absurd (let q : ◌≡◌ {A = ℕ} 0 1 = cc in omega arith)
lock_names (x ∷ []) e = absurd (both_ways _ refl (and_parts (matches (at 0x5555 0xAA) x) false e).1)
lock_names (x ∷ (y ∷ zs)) e =
    let p = and_parts (matches (at 0x5555 0xAA) x) _ e in
    let q = and_parts (matches (at 0x2AAA 0x55) y) _ p.1 in
    let a = eqb-true (x.address % 32768) 0x5555 (and_parts (eqb (x.address % 32768) 0x5555) _ p.0).0 in
    let b = eqb-true (y.address % 32768) 0x2AAA (and_parts (eqb (y.address % 32768) 0x2AAA) _ q.0).0 in
    let f : eqb (y.address / 128) (x.address / 128) ≡ false = ne_eqb _ _ (apart x.address y.address a b) in
    ap (λ (d : DataLoads). data_in d zs) (cond-false _ _ _ f) ∙ several_stays zs

pub lock_several : (ms : List Load) → begins (six_code 0x40) (take 7 (reverse ms)) ≡ true → data_by ms ≡ several
unfolding data_in
lock_several ms e = sym (data_reverse ms []) ∙ lock_names (reverse ms) e

module _ (h : List Load) (l : Load) (ms : List Load) (hl : length h ≡ min 7 (length ms)) (lk : begins (six_code 0x40) h ≡ true → data_by ms ≡ several) where
  -- a complete code stays, and its data grow by the load
  push_data : (k : ℕ) → k ≤ length ms → add_data (data_by (take (length ms - k) ms)) l ≡ data_by (take (suc (length ms) - k) (l ∷ ms))
  push_data k le = let e : suc (length ms) - k ≡ suc (length ms - k) = omega arith in rw e

  first_data : (k : ℕ) → suc (length ms) ≡ k → none ≡ data_by (take (suc (length ms) - k) (l ∷ ms))
  first_data k e = let z : suc (length ms) - k ≡ 0 = omega arith in rw z

  data_step : (old new : Kind) (m : Bool)
      → Tests old (begins coded_code h) (begins (six_code 0x20) h) (begins (six_code 0x40) h && not m)
      → (k : Bool) → Tests new (begins coded_code (head_with h l)) (begins (six_code 0x20) (head_with h l)) k
      → data_with old new (length h) (data_by (data_as old ms)) l ≡ data_by (data_as new (l ∷ ms))
  data_step old Low m t k u = refl
  data_step old High m t k u = refl
  data_step Coded Plain m t k u = absurd (both_ways _ u.0 (grows_head coded_code h l t))
  data_step Lift Plain m t k u = absurd (both_ways _ u.1 (grows_head (six_code 0x20) h l t.1))
  data_step Low Plain m t k u = sym (ap (λ (d : DataLoads). add_data d l) (lk (and_parts (begins (six_code 0x40) h) _ t.2).0))
  data_step High Plain m t k u = sym (ap (λ (d : DataLoads). add_data d l) (lk (and_parts (begins (six_code 0x40) h) _ t.2).0))
  data_step Plain Plain m t k u = refl
  data_step old Coded m t k u =
      let long = long_head coded_code h l u in
      elim (cases_eq (length h) 2) [
        | inl e ↦ cond-true _ _ _ (eq-eqb (length h) 2 e) ∙ first_data 3 (omega arith)
        | inr ne ↦
            let room : 3 ≤ length h = omega arith in
            let c : begins coded_code h ≡ true = sym (prefix_head coded_code h l room) ∙ u in
            let o = only_coded old _ _ _ t c in
            cond-false _ _ _ (ne_eqb (length h) 2 ne) ∙ ap (λ (q : Kind). add_data (data_by (data_as q ms)) l) o ∙ push_data 3 (omega arith)
      ]
  data_step old Lift m t k u =
      let long = long_head (six_code 0x20) h l u.1 in
      elim (cases_eq (length h) 5) [
        | inl e ↦ cond-true _ _ _ (eq-eqb (length h) 5 e) ∙ first_data 6 (omega arith)
        | inr ne ↦
            let room : 6 ≤ length h = omega arith in
            let more : 3 ≤ length h = omega arith in
            let c : begins coded_code h ≡ false = sym (prefix_head coded_code h l more) ∙ u.0 in
            let f : begins (six_code 0x20) h ≡ true = sym (prefix_head (six_code 0x20) h l room) ∙ u.1 in
            let o = only_lift old _ _ _ t c f in
            cond-false _ _ _ (ne_eqb (length h) 5 ne) ∙ ap (λ (q : Kind). add_data (data_by (data_as q ms)) l) o ∙ push_data 6 (omega arith)
      ]

-- the data loads that a summary tells are those of the whole list
pub data_is : (n : ℕ) (ls : List Load) → (summary n ls).loaded ≡ data_by (data_loads n ls)
data_is n [] = refl
data_is n (l ∷ ms) =
    let h = (summary n ms).head in
    let lk : begins (six_code 0x40) h ≡ true → data_by ms ≡ several = λ e. lock_several ms (sym (ap (begins (six_code 0x40)) (head_is n ms)) ∙ e) in
    let old = kind n (summary n ms) in
    let new = kind n (summary n (l ∷ ms)) in
    ap (λ (d : DataLoads). data_with old new (length h) d l) (data_is n ms ∙ ap (λ (k : Kind). data_by (data_as k ms)) (sym (kind_is n ms)))
    ∙ data_step h l ms (head_length n ms) lk old new (summary n ms).more (tells_kind n h (summary n ms).more) _ (tells_kind n (head_with h l) (more_with h (summary n ms).more))
    ∙ ap (λ (k : Kind). data_by (data_as k (l ∷ ms))) (kind_is n (l ∷ ms))
