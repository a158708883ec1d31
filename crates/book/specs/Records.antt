-- What a book holds, and what a record more does to it.
use Rattle.std.specs.Prelude.{◌≡◌, ℕ, ◌<◌, ◌≤◌, List, [], ◌∷◌, ◌++◌, length, take, Some, None, Ok, Err, Option, Result, slice_index_or}
use Rattle.std.specs.Borrow.{Bor}
use Rattle.book.specs.declared.Book.{Book}
use Rattle.book.specs.declared.BookRefusal.{BookRefusal}
use Rattle.book.specs.declared.BookRefusal.TheVariants.{Full}

-- the records of a book, in the order added
abbrev pub records : {T : Type 0} → Book T → List T
records b = take b.used b.places.now

-- how many records it can hold: one in each place
abbrev pub capacity : {T : Type 0} → Book T → ℕ
capacity b = length b.places.now

-- a book without a free place is refusal 10
abbrev pub number_of : BookRefusal → ℕ
number_of Full = 10

-- one record more: it stands after the others where a place was free;
-- a book without a free place refuses it, and holds what it held
abbrev pub Added : {T : Type 0} → Book T → T → Result (Unit {0}) BookRefusal → Book T → Type 0
Added b x (Ok _) c = (length (records b) < capacity b) × (records c ≡ records b ++ (x ∷ [])) × (capacity c ≡ capacity b)
Added b x (Err e) c = (number_of e ≡ 10) × (capacity b ≤ length (records b)) × (records c ≡ records b) × (capacity c ≡ capacity b)

-- the record at an index, none past the last
abbrev pub Found : {T : Type 0} → List T → ℕ → Option (Bor T) → Type 0
Found xs i None = length xs ≤ i
Found xs i (Some x) = (i < length xs) × (x.now ≡ slice_index_or xs i x.now)
