-- The rows that lie in a memory.
use Rattle.std.specs.Prelude.{◌≡◌, ℕ, ◌+◌, ◌*◌, ◌/◌, ◌%◌, ◌<◌, ◌≤◌, min, false, List, [], ◌∷◌, ◌++◌, length, IfOk, MatchResult, OnOk, take, drop, slice_index, slice_index_or}
use mathlib.Core.Path.{◌∙◌}
use Rattle.std.proofs.Common.{arith}
use Rattle.std.proofs.lemmas.List.{length-take, length-drop}
use Rattle.rows.specs.Exchanges.{Asked, ask_count, ask_read, ask_write, ask_lock, Given, give_count, give_read, give_write, give_lock}
use Rattle.rows.specs.Rows.{Rows, Lawful}

-- so many whole rows, up to the most that a store has
abbrev pub rows_in : ℕ → ℕ
rows_in len = min (len / 128) 1048576

abbrev pub row_of : List ℕ → ℕ → List ℕ
row_of xs r = take 128 (drop (128 * r) xs)

-- numbers as bytes: those of a memory are below 256, and so as they are
abbrev pub as_bytes : List ℕ → List ℕ
as_bytes [] = []
as_bytes (x ∷ xs) = x % 256 ∷ as_bytes xs

-- no locks, and each row lies where it is
abbrev pub memory_rows : List ℕ → Rows
memory_rows xs = record {
  count = rows_in (length xs);
  row = λ r. record { shown = as_bytes (row_of xs r); locked = false; home = r; laid = λ b. b };
  bottom = λ a. as_bytes (row_of xs a);
}

length-as_bytes : (xs : List ℕ) → length (as_bytes xs) ≡ length xs
length-as_bytes [] = omega arith
length-as_bytes (x ∷ xs) = let u = length-as_bytes xs in omega arith

as_bytes_lt : (xs : List ℕ) (i : ℕ) → slice_index (as_bytes xs) i < 256
as_bytes_lt [] i = omega arith
as_bytes_lt (x ∷ xs) Prim.Native.Nat.zero = omega arith
as_bytes_lt (x ∷ xs) (Prim.Native.Nat.suc i) = as_bytes_lt xs i

pub memory_lawful : (xs : List ℕ) → Lawful (memory_rows xs)
memory_lawful xs = record {
  few = omega arith;
  whole = λ r h. length-as_bytes (row_of xs r) ∙ simp (length-take, length-drop) (omega arith);
  bytes = λ r i h. as_bytes_lt (row_of xs r) i;
  apart = λ r s h k e. e;
  lies = λ r h. mathlib.Core.Path.refl;
}

-- ys is xs with the bytes of one row changed to b
pub record RowSet (xs ys : List ℕ) (row : ℕ) (b : List ℕ) : Type 0 where
  pub long : length ys ≡ length xs
  pub here : row_of ys row ≡ b
  pub outside : (i d : ℕ) → (128 * row ≤ i → i < 128 * row + 128 → ⊥) → slice_index_or ys i d ≡ slice_index_or xs i d

-- a store that holds the rows of xs: its count, the bytes that each row shows, and no locks
pub record Holds (m : Rows) (xs : List ℕ) : Type 0 where
  pub count : m.count ≡ rows_in (length xs)
  pub shown : (r : ℕ) → (m.row r).shown ≡ as_bytes (row_of xs r)
  pub unlocked : (r : ℕ) → (m.row r).locked ≡ false

-- What a call leaves in the memory, from its bytes xs before to ys after: only an accepted write changes them, and of them only
-- those of its row. A read copies the bytes of its row, and no row is locked.
abbrev pub Leaves : List ℕ → List ℕ → Asked → Given → Type 0
Leaves xs ys ask_count (give_count n) = ys ≡ xs
Leaves xs ys (ask_read row p) (give_read p' r) = OnOk r (p' ≡ row_of xs row ++ drop 128 p) × (ys ≡ xs)
Leaves xs ys (ask_write row b) (give_write r) = MatchResult r (λ _. RowSet xs ys row b) (λ _. ys ≡ xs)
Leaves xs ys (ask_lock row) (give_lock r) = IfOk r (λ locked. locked ≡ false) × (ys ≡ xs)
Leaves xs ys asked given = ⊥
