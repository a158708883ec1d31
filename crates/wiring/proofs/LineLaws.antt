-- Lines that name each of 0 to 7 once, their reverse, and bytes through them.
use Rattle.std.proofs.Common.{Bor, reverse, ◌*◌, ◌≡◌, ℕ, zero, suc, ◌+◌, ◌-◌, ◌/◌, ◌%◌, ◌^◌, ◌<◌, ◌≤◌, cond, eqb, ltb, ◌⊎◌, List, [], ◌∷◌, ◌++◌, map, length, get_or, sym, Bool, true, false, Option, Some, None, refl, ap, ◌∙◌, subst, inl, inr, ⊎_elim, zero-add, one-add, arith, pow_mono}
use Rattle.std.proofs.lemmas.List.Sums.{prefix_len-le-length}
use native.Mathlib.Nat.{pow-succ', div-div-eq-div-mul}
use Rattle.std.specs.Array.{MapsFrom, IsMapOf}
use Rattle.std.specs.Fn.{Called}
use Rattle.std.specs.List.{position_or_len, list_all, range_with_len}
use denote.Param.Members.{Mut}
use Rattle.std.proofs.lemmas.List.Recursion.{is_position_or_len}
use Rattle.std.specs.Bool.{MatchBool}
use Rattle.std.specs.Option.{unwrap_or}
use Rattle.std.proofs.lemmas.List.Sums.{AllPass-from_list_all, list_all-from_AllPass}
use Rattle.std.proofs.lemmas.List.FromFn.{get_or-range_with_len, length-map-range_with_len, get_or-map-range_with_len, fill_by_all}
use Rattle.std.proofs.lemmas.List.{same_lists, length-map, get_or-map, get_or-reverse, get_or_default, length-reverse, reverse-append}
use Rattle.std.proofs.lemmas.Bool.{cases_eq, cases_lt, eq-eqb, eqb-true, ne_eqb, lt-ltb, le-ltb}
use Rattle.std.proofs.lemmas.Bool.Decides.{nat_tests}
use Rattle.wiring.specs.Lines.{occurrences, EachOnce, bit, crossed, position, reversed, Shows}

abbrev one : ℕ → ℕ → ℕ
one x v = cond (eqb x v) 1 0

-- the library's words for where a line is named
position-or_len : (v : ℕ) (ls : List ℕ) → position v ls ≡ position_or_len (λ x. eqb x v) ls
position-or_len v ls = is_position_or_len (position v) (λ x. eqb x v) refl (λ x xs. refl) ls

-- a test of each of 0 to 7
pub each_once_all : (ls : List ℕ) (r : Bool) → length ls ≡ 8 → r ≡ list_all (λ v. eqb (occurrences v ls) 1) (range_with_len 0 8) → MatchBool r (EachOnce ls) (EachOnce ls → ⊥)
each_once_all ls true l e = (
  l,
  λ v h.
      let all = AllPass-from_list_all (λ w. eqb (occurrences w ls) 1) (range_with_len 0 8) (sym e) in
      subst (λ w. occurrences w ls ≡ 1) (get_or-range_with_len 0 8 v 0 h ∙ zero-add v) (eqb-true _ 1 (all v 0 h)),
)
each_once_all ls false l e = λ once.
    let all = list_all-from_AllPass (λ w. eqb (occurrences w ls) 1) (range_with_len 0 8)
    (λ v d h. eq-eqb _ 1 (subst (λ w. occurrences w ls ≡ 1) (sym (get_or-range_with_len 0 8 v d h ∙ zero-add v)) (once.1 v h))) in
    let z : false ≡ true = e ∙ all in
    cc

-- where a line is, or how many there are
pub found_or : (v : ℕ) (ls : List ℕ) (r : Option ℕ) (n : ℕ) → length ls ≡ n → r ≡ cond (ltb (position_or_len (λ x. eqb x v) ls) (length ls)) (Some (position_or_len (λ x. eqb x v) ls)) None → unwrap_or r n ≡ position v ls
found_or v ls r n l e =
    let at = position_or_len (λ x. eqb x v) ls in
    let most : at ≤ length ls = prefix_len-le-length _ ls in
    ⊎_elim
    (λ h. rw (e, lt-ltb at (length ls) h) (sym (position-or_len v ls)))
    (λ h. let n_is : n ≡ at = omega arith in rw (e, le-ltb at (length ls) h) (n_is ∙ sym (position-or_len v ls)))
    (cases_lt at (length ls))

-- a line that is there occurs
occurrences_at : (ls : List ℕ) (i : ℕ) → i < length ls → 1 ≤ occurrences (get_or ls i 0) ls
occurrences_at [] i h = absurd (omega arith)
occurrences_at (x ∷ ls) zero h = rw (eq-eqb x x refl) (omega arith)
occurrences_at (x ∷ ls) (suc i) h = let u = occurrences_at ls i (omega arith) in omega arith

-- a line that occurs once has its place as its position
position_at : (ls : List ℕ) (i : ℕ) → i < length ls → occurrences (get_or ls i 0) ls ≡ 1 → position (get_or ls i 0) ls ≡ i
position_at [] i h e = absurd (omega arith)
position_at (x ∷ ls) zero h e = rw (eq-eqb x x refl)
position_at (x ∷ ls) (suc i) h e =
    let v = get_or ls i 0 in
    let u : 1 ≤ occurrences v ls = occurrences_at ls i (omega arith) in
    ⊎_elim
    (λ q. let s : one x v ≡ 1 = rw (eq-eqb x v q) in absurd (omega arith))
    (λ n.
    let s : one x v ≡ 0 = rw (ne_eqb x v n) in
    rw (ne_eqb x v n) (ap (λ k. 1 + k) (position_at ls i (omega arith) (omega arith)) ∙ omega arith))
    (cases_eq x v)

position_lt : (v : ℕ) (ls : List ℕ) → 1 ≤ occurrences v ls → position v ls < length ls
position_lt v [] h = absurd (omega arith)
position_lt v (x ∷ ls) h =
    ⊎_elim
    (λ q. rw (eq-eqb x v q) (omega arith))
    (λ n.
    let s : one x v ≡ 0 = rw (ne_eqb x v n) in
    let u = position_lt v ls (omega arith) in
    rw (ne_eqb x v n) (omega arith))
    (cases_eq x v)

-- how many lines are below n
abbrev under : ℕ → List ℕ → ℕ
under n [] = 0
under n (x ∷ ls) = cond (ltb x n) 1 0 + under n ls

under_le : (n : ℕ) (ls : List ℕ) → under n ls ≤ length ls
under_le n [] = omega arith
under_le n (x ∷ ls) = let u = under_le n ls in grind (arith, nat_tests)

-- where all are below n, each is
under_all : (n : ℕ) (ls : List ℕ) (i : ℕ) → under n ls ≡ length ls → i < length ls → get_or ls i 0 < n
under_all n [] i e h = absurd (omega arith)
under_all n (x ∷ ls) zero e h = let u = under_le n ls in grind (arith, nat_tests)
under_all n (x ∷ ls) (suc i) e h =
    let u = under_le n ls in
    under_all n ls i (grind (arith, nat_tests)) (omega arith)

under_zero : (ls : List ℕ) → under 0 ls ≡ 0
under_zero [] = refl
under_zero (x ∷ ls) = let u = under_zero ls in grind (arith, nat_tests)

under_next : (n : ℕ) (ls : List ℕ) → under (suc n) ls ≡ under n ls + occurrences n ls
under_next n [] = omega arith
under_next n (x ∷ ls) = let u = under_next n ls in grind (arith, nat_tests)

under_once : (n : ℕ) (ls : List ℕ) → ((v : ℕ) → v < n → occurrences v ls ≡ 1) → under n ls ≡ n
under_once zero ls once = under_zero ls
under_once (suc n) ls once =
    let u : under n ls ≡ n = under_once n ls (λ v h. once v (omega arith)) in
    let o : occurrences n ls ≡ 1 = once n (omega arith) in
    let e = under_next n ls in
    omega arith

-- each line of eight that name 0 to 7 once is below 8
pub line_lt : (ls : List ℕ) (i : ℕ) → EachOnce ls → i < 8 → get_or ls i 0 < 8
line_lt ls i once h =
    let u = under_once 8 ls once.1 in
    let e = once.0 in
    under_all 8 ls i (omega arith) (omega arith)

pub back_at : (ls : List ℕ) (i : ℕ) → EachOnce ls → i < 8 → get_or (reversed ls) (get_or ls i 0) 0 ≡ i
unfolding reversed
back_at ls i once h =
    let e = once.0 in
    let l = line_lt ls i once h in
    get_or-map-range_with_len (λ j. position j ls) 0 8 (get_or ls i 0) (get_or ls i 0) 0 l (omega arith) ∙ position_at ls i (omega arith) (once.1 (get_or ls i 0) l)

pub back_length : (ls : List ℕ) → length (reversed ls) ≡ 8
unfolding reversed
back_length ls = length-map-range_with_len (λ j. position j ls) 0 8

pub back_lt : (ls : List ℕ) (j : ℕ) → EachOnce ls → j < 8 → get_or (reversed ls) j 0 < 8
unfolding reversed
back_lt ls j once h =
    let e : length ls ≡ 8 = once.0 in
    let o : occurrences j ls ≡ 1 = once.1 j h in
    let l : position j ls < length ls = position_lt j ls (omega arith) in
    rw (get_or-map-range_with_len (λ j. position j ls) 0 8 j j 0 h (omega arith)) (omega arith)

-- bits
bit_next : (i x : ℕ) → bit (suc i) x ≡ bit i (x / 2)
bit_next i x = ap (λ p. (x / p) % 2) (pow-succ' 2 i) ∙ ap (λ y. y % 2) (sym (div-div-eq-div-mul x 2 (2 ^ i)))

pub bit_crossed : (ls : List ℕ) (b i : ℕ) → i < length ls → bit i (crossed ls b) ≡ bit (get_or ls i 0) b
bit_crossed [] b i h = absurd (omega arith)
bit_crossed (l ∷ ls) b zero h = omega arith
bit_crossed (l ∷ ls) b (suc i) h =
    let half : crossed (l ∷ ls) b / 2 ≡ crossed ls b = omega arith in
    bit_next i (crossed (l ∷ ls) b) ∙ ap (bit i) half ∙ bit_crossed ls b i (omega arith)

pub crossed_lt : (ls : List ℕ) (b : ℕ) → crossed ls b < 2 ^ length ls
crossed_lt [] b = omega arith
crossed_lt (l ∷ ls) b = let u = crossed_lt ls b in let e = pow-succ' 2 (length ls) in omega arith

same_bits : (n x y : ℕ) → x < 2 ^ n → y < 2 ^ n → ((i : ℕ) → i < n → bit i x ≡ bit i y) → x ≡ y
same_bits zero x y h k same = omega arith
same_bits (suc n) x y h k same =
    let e = pow-succ' 2 n in
    let low : bit 0 x ≡ bit 0 y = same 0 (omega arith) in
    let high : x / 2 ≡ y / 2 = same_bits n (x / 2) (y / 2) (omega arith) (omega arith) (λ i l. sym (bit_next i x) ∙ same (suc i) (omega arith) ∙ bit_next i y) in
    omega arith

-- the reverse undoes a wiring
pub crossed_back : (ls : List ℕ) (c : ℕ) → EachOnce ls → c < 256 → crossed ls (crossed (reversed ls) c) ≡ c
crossed_back ls c once h =
    let e : length ls ≡ 8 = once.0 in
    let l = crossed_lt ls (crossed (reversed ls) c) in
    same_bits 8 _ c (rw e at l) (omega arith)
    (λ i k.
    let p = line_lt ls i once k in
    bit_crossed ls (crossed (reversed ls) c) i (omega arith)
    ∙ bit_crossed (reversed ls) c (get_or ls i 0) (let f = back_length ls in omega arith)
    ∙ ap (λ j. bit j c) (back_at ls i once k))

-- and a wiring undoes its reverse
position_names : (v : ℕ) (ls : List ℕ) → 1 ≤ occurrences v ls → get_or ls (position v ls) 0 ≡ v
position_names v [] h = absurd (omega arith)
position_names v (x ∷ ls) h =
    ⊎_elim
    (λ q. rw (eq-eqb x v q) q)
    (λ n.
    let s : one x v ≡ 0 = rw (ne_eqb x v n) in
    rw (ne_eqb x v n, one-add) (position_names v ls (omega arith)))
    (cases_eq x v)

line_back : (ls : List ℕ) (j : ℕ) → EachOnce ls → j < 8 → get_or ls (get_or (reversed ls) j 0) 0 ≡ j
unfolding reversed
line_back ls j once h =
    let o : occurrences j ls ≡ 1 = once.1 j h in
    ap (λ i. get_or ls i 0) (get_or-map-range_with_len (λ j. position j ls) 0 8 j j 0 h (omega arith)) ∙ position_names j ls (omega arith)

pub back_crossed : (ls : List ℕ) (c : ℕ) → EachOnce ls → c < 256 → crossed (reversed ls) (crossed ls c) ≡ c
back_crossed ls c once h =
    let e : length ls ≡ 8 = once.0 in
    let f = back_length ls in
    let l = crossed_lt (reversed ls) (crossed ls c) in
    same_bits 8 _ c (rw f at l) (omega arith)
    (λ j k.
    let p = back_lt ls j once k in
    bit_crossed (reversed ls) (crossed ls c) j (omega arith)
    ∙ bit_crossed ls c (get_or (reversed ls) j 0) (omega arith)
    ∙ ap (λ i. bit i c) (line_back ls j once k))

-- the reverse names each line once too: f names v at k alone
only_there : (f : ℕ → ℕ) (v k a n : ℕ) → ((j : ℕ) → a ≤ j → j < a + n → f j ≡ v → j ≡ k) → (k < a) ⊎ (a + n ≤ k) → occurrences v (map f (range_with_len a n)) ≡ 0
only_there f v k a zero only out = refl
only_there f v k a (suc n) only out =
    let n0 : f a ≡ v → ⊥ = λ e. let q = only a (omega arith) (omega arith) e in ⊎_elim (λ h. omega arith) (λ h. omega arith) out in
    let rest = only_there f v k (a + 1) n (λ j h l e. only j (omega arith) (omega arith) e) (⊎_elim (λ h. inl (omega arith)) (λ h. inr (omega arith)) out) in
    rw (ne_eqb (f a) v n0) (omega arith)

once_there : (f : ℕ → ℕ) (v k a n : ℕ) → ((j : ℕ) → a ≤ j → j < a + n → f j ≡ v → j ≡ k) → f k ≡ v → a ≤ k → k < a + n → occurrences v (map f (range_with_len a n)) ≡ 1
once_there f v k a zero only at low high = absurd (omega arith)
once_there f v k a (suc n) only at low high = ⊎_elim
    (λ (e : a ≡ k).
    let rest = only_there f v k (a + 1) n (λ j h l q. only j (omega arith) (omega arith) q) (inl (omega arith)) in
    rw (eq-eqb (f a) v (ap f e ∙ at)) (omega arith))
    (λ (e : a ≡ k → ⊥).
    let n0 : f a ≡ v → ⊥ = λ q. e (only a (omega arith) (omega arith) q) in
    let rest = once_there f v k (a + 1) n (λ j h l q. only j (omega arith) (omega arith) q) at (omega arith) (omega arith) in
    rw (ne_eqb (f a) v n0) (omega arith))
    (cases_eq a k)

pub reversed_once : (ls : List ℕ) → EachOnce ls → EachOnce (reversed ls)
unfolding reversed
reversed_once ls once = (
  refl,
  λ v h.
      let e : length ls ≡ 8 = once.0 in
      let l = line_lt ls v once h in
      once_there (λ j. position j ls) v (get_or ls v 0) 0 8
      (λ j low high q.
      let o : occurrences j ls ≡ 1 = once.1 j (omega arith) in
      sym (position_names j ls (omega arith)) ∙ ap (λ i. get_or ls i 0) q)
      (position_at ls v (omega arith) (once.1 (get_or ls v 0) l)) (omega arith) (omega arith),
)

-- what the loop over the bytes gives, which has come to n
pub shows_all : (ls xs ys : List ℕ) (n : ℕ) → EachOnce ls → length ys ≡ length xs → length xs ≤ n → ((k : ℕ) → k < n → get_or ys k 0 ≡ crossed ls (get_or xs k 0)) → Shows ls xs ys
shows_all ls xs ys n once long all shown = record {
  crosses = same_lists _ _ (long ∙ sym (length-map xs (crossed ls)))
      (λ k d h. get_or_default ys k d 0 h ∙ shown k (omega arith) ∙ sym (get_or-map (crossed ls) xs k 0 d (omega arith)));
  bits = λ k i h l.
      ap (bit i) (shown k (omega arith)) ∙ bit_crossed ls (get_or xs k 0) i (let f : length ls ≡ 8 = once.0 in omega arith);
}

-- one more line, gone through from the last to the first: the bits so far leave room for its own
pub record NextBit (x out : ℕ) : Type 0 where
  pub names : x < 8
  pub room : out < 128

pub next_bit : (ls : List ℕ) (b : ℕ) (xs : List (Bor ℕ)) (x : Bor ℕ) (out : ℕ) → EachOnce ls → (length xs < length (reverse ls)) × (x.now ≡ get_or (reverse ls) (length xs) x.now) →
    out ≡ crossed (reverse (map (λ y. y.now) xs)) b → NextBit x.now out
next_bit ls b xs x out once turn e =
    let k = length xs in
    let l : length ls ≡ 8 = once.0 in
    let h : k < length ls = rw (length-reverse ls) at turn.0 in
    let seen : List ℕ = map (λ (y : Bor ℕ). y.now) xs in
    let n : length (reverse seen) ≡ k = length-reverse seen ∙ length-map xs (λ (y : Bor ℕ). y.now) in
    let small : crossed (reverse seen) b < 2 ^ length (reverse seen) = crossed_lt (reverse seen) b in
    let most : 2 ^ length (reverse seen) ≤ 2 ^ 7 = pow_mono {i = length (reverse seen)} {j = 7} (omega arith) in
    let is : x.now ≡ get_or ls (length ls - 1 - k) 0 = turn.1 ∙ get_or-reverse ls k x.now h ∙ get_or_default ls (length ls - 1 - k) x.now 0 (omega arith) in
    record { names = rw is (line_lt ls (length ls - 1 - k) once (omega arith)); room = omega arith }

pub bits_more : (ls : List ℕ) (b l out : ℕ) → out ≡ crossed (reverse ls) b → 2 * out + bit l b ≡ crossed (reverse (ls ++ l ∷ [])) b
bits_more ls b l out e = let more : 2 * out + bit l b ≡ crossed (l ∷ reverse ls) b = rw (← e) (omega arith) in more ∙ ap (λ xs. crossed xs b) (sym (reverse-append ls (l ∷ [])))

-- what a closure that changes nothing gave for each of 0 to 7
module _ {F : Type 0} (g : Mut F (ℕ × Unit {0}) ℕ) (h : ℕ → ℕ) (f : F) (calls : (x y : ℕ) (q : F) → Called g f (x, tt) y q → (q ≡ f) × (y ≡ h x)) where
  mapped_at : (xs ys : List ℕ) (i n : ℕ) (p : F) → p ≡ f → MapsFrom g p xs ys i n → (k : ℕ) → i ≤ k → k < i + n → get_or ys k 0 ≡ h (get_or xs k 0)
  mapped_at xs ys i zero p e m k low high = absurd (omega arith)
  mapped_at xs ys i (suc n) p e (q, x, y, from, to, call, rest) k low high =
      let u = calls x y q (subst (λ v. Called g v (x, tt) y q) e call) in
      ⊎_elim
      (λ (s : k ≡ i). rw s (to.1 0 ∙ u.1 ∙ ap h (sym (from.1 0))))
      (λ (s : k ≡ i → ⊥). mapped_at xs ys (i + 1) n q u.0 rest k (omega arith) (omega arith))
      (cases_eq k i)

  pub mapped_all : (ys : List ℕ) → IsMapOf g f (range_with_len 0 8) ys 8 → ys ≡ map h (range_with_len 0 8)
  mapped_all ys m = fill_by_all h ys 8 0 m.long (λ k l. mapped_at (range_with_len 0 8) ys 0 8 f refl m.each k (omega arith) (omega arith) ∙ ap h (get_or-range_with_len 0 8 k 0 l ∙ zero-add k))

-- lists of bytes through a wiring and back
undone : (f g : ℕ → ℕ) → ((b : ℕ) → b < 256 → f (g b) ≡ b) → (bs : List ℕ) → ((i : ℕ) → get_or bs i 0 < 256) → map f (map g bs) ≡ bs
undone f g undo [] small = refl
undone f g undo (b ∷ bs) small =
    ap (λ x. x ∷ map f (map g bs)) (undo b (small 0)) ∙ ap (λ xs. b ∷ xs) (undone f g undo bs (λ i. small (suc i)))

pub map_back : (ls bs : List ℕ) → EachOnce ls → ((i : ℕ) → get_or bs i 0 < 256) → map (crossed ls) (map (crossed (reversed ls)) bs) ≡ bs
map_back ls bs once small = undone (crossed ls) (crossed (reversed ls)) (λ b h. crossed_back ls b once h) bs small

pub back_map : (ls bs : List ℕ) → EachOnce ls → ((i : ℕ) → get_or bs i 0 < 256) → map (crossed (reversed ls)) (map (crossed ls) bs) ≡ bs
back_map ls bs once small = undone (crossed (reversed ls)) (crossed ls) (λ b h. back_crossed ls b once h) bs small

-- eight lines make bytes
pub map_small : (ls bs : List ℕ) (i : ℕ) → length ls ≡ 8 → get_or (map (crossed ls) bs) i 0 < 256
map_small ls [] i e = omega arith
map_small ls (b ∷ bs) zero e = let l = crossed_lt ls b in rw e at l
map_small ls (b ∷ bs) (suc i) e = map_small ls bs i e
