-- What a copy out of a memory gives, and what a write to a part of it does to its rows.
use Rattle.std.proofs.Common.{◌≡◌, ℕ, suc, ◌+◌, ◌*◌, ◌%◌, ◌<◌, ◌≤◌, ◌⊎◌, Fits, w8, List, [], ◌∷◌, ◌++◌, length, get_or, take, drop, sym, refl, ap, ◌∙◌, inl, inr, ⊎_elim, arith}
use borrow.Rule.Slice.PartMut.{put_mid}
use Rattle.std.proofs.lemmas.List.{length-take, length-drop, length-append, get_or-take, get_or-drop, same_lists, places}
use Rattle.std.proofs.lemmas.Bool.{cases_lt}
use Rattle.memory.specs.Memory.{row_of, as_bytes, memory_rows, rows_in, RowSet}
use Rattle.rows.specs.Rows.{Stored}

-- bytes in front of a list are as they are
pub as_bytes_front : (xs d : List ℕ) → ((i : ℕ) → get_or (xs ++ d) i 0 < 256) → as_bytes xs ++ d ≡ xs ++ d
as_bytes_front [] d small = refl
as_bytes_front (x ∷ xs) d small =
    let h = small 0 in
    let e : x % 256 ≡ x = omega arith in
    rw e (ap (λ ys. x ∷ ys) (as_bytes_front xs d (λ i. small (suc i))))

-- what was copied into a place of bytes
pub bytes_shown : (xs d ys : List ℕ) → ys ≡ xs ++ d → ((i : ℕ) → Fits w8 (get_or ys i 0)) → ys ≡ as_bytes xs ++ d
bytes_shown xs d ys e fits = e ∙ sym (as_bytes_front xs d (λ i. rw e at (fits i).fits))

pub as_bytes_same : (xs : List ℕ) → ((i : ℕ) → get_or xs i 0 < 256) → as_bytes xs ≡ xs
as_bytes_same [] small = refl
as_bytes_same (x ∷ xs) small =
    let h = small 0 in
    let e : x % 256 ≡ x = omega arith in
    rw e (ap (λ ys. x ∷ ys) (as_bytes_same xs (λ i. small (suc i))))

-- a write of k bytes at a, over any width k
module _ (xs b : List ℕ) (a k : ℕ) (e : length b ≡ k) (h : a + k ≤ length xs) where
  length-mid : length (put_mid a k xs b) ≡ length xs
  length-mid = simp (length-append, length-take, length-drop) (omega arith)

  mid_same : take k (drop a (put_mid a k xs b)) ≡ b
  mid_same = same_lists _ _ (simp (length-append, length-take, length-drop) (omega arith)) (λ j d l. grind (arith, places))

  -- a byte outside the part is as it was
  get_or-mid : (i d : ℕ) → (i < a) ⊎ (a + k ≤ i) → get_or (put_mid a k xs b) i d ≡ get_or xs i d
  get_or-mid i d (inl l) = grind (arith, places)
  get_or-mid i d (inr l) = grind (arith, places)

pub row_set : (xs b last : List ℕ) (row k : ℕ) → 128 * row + 128 ≤ length xs → k ≡ 128 → last ≡ b → length b ≡ 128 → RowSet xs (put_mid (128 * row) k xs last) row b
row_set xs b last row k f e l w =
    rw (e, l) (record {
      long = length-mid xs b (128 * row) 128 w f;
      here = mid_same xs b (128 * row) 128 w f;
      outside = λ i d out. get_or-mid xs b (128 * row) 128 w f i d
          (⊎_elim (λ q. inl q) (λ q. ⊎_elim (λ p. absurd (out q p)) (λ p. inr p) (cases_lt i (128 * row + 128))) (cases_lt i (128 * row)));
    })

-- another row is as it was
row_other : (xs ys b : List ℕ) (row r : ℕ) → RowSet xs ys row b → (r ≡ row → ⊥) → row_of ys r ≡ row_of xs r
row_other xs ys b row r s n =
    let l = s.long in
    same_lists _ _ (simp (length-take, length-drop) (omega arith)) (λ j d m.
    let m' : j < 128 = omega (arith, length-take 128 (drop (128 * r) ys)) in
    get_or-take 128 _ j d m' ∙ get_or-drop (128 * r) _ j d
    ∙ s.outside (128 * r + j) d (λ p q. n (omega arith))
    ∙ sym (get_or-take 128 _ j d m' ∙ get_or-drop (128 * r) _ j d))

pub row_stored : (xs ys b : List ℕ) (row : ℕ) → RowSet xs ys row b → ((i : ℕ) → get_or b i 0 < 256) → Stored (memory_rows xs) (memory_rows ys) row b
row_stored xs ys b row s small =
    let here : as_bytes (row_of ys row) ≡ b = ap as_bytes s.here ∙ as_bytes_same b small in
    record {
      count = ap rows_in s.long;
      here = ap (λ v. record { shown = v; locked = mathlib.Core.Bool.false; home = row; laid = λ x. x }) here;
      other = λ r n. ap (λ v. record { shown = as_bytes v; locked = mathlib.Core.Bool.false; home = r; laid = λ x. x }) (row_other xs ys b row r s n);
      landed = here;
      apart = λ a n. ap as_bytes (row_other xs ys b row a s n);
    }

-- the same of a page that was copied over a row
pub row_put_stored : (xs b last : List ℕ) (row k : ℕ) → 128 * row + 128 ≤ length xs → k ≡ 128 → last ≡ b → length b ≡ 128 → ((i : ℕ) → Fits w8 (get_or b i 0)) →
    Stored (memory_rows xs) (memory_rows (put_mid (128 * row) k xs last)) row b
row_put_stored xs b last row k f e l w fits =
    row_stored xs (put_mid (128 * row) k xs last) b row (row_set xs b last row k f e l w) (λ i. (fits i).fits)
