-- The row calls and their answers as values.
use Rattle.std.specs.Prelude.{ℕ, Bool, List, Result}
use Rattle.rows.specs.declared.refusal.RowRefusal.{RowRefusal}

-- What is asked of a store.
pub data Asked : Type 0 where
  ask_count : Asked
  -- a row, and what the place for its bytes holds before
  ask_read : ℕ → List ℕ → Asked
  -- a row, and the bytes for it
  ask_write : ℕ → List ℕ → Asked
  ask_lock : ℕ → Asked

-- What it gives back.
pub data Given : Type 0 where
  give_count : ℕ → Given
  -- what the place holds after, and the result
  give_read : List ℕ → Result (Unit {0}) RowRefusal → Given
  give_write : Result (Unit {0}) RowRefusal → Given
  give_lock : Result Bool RowRefusal → Given
