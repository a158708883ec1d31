-- The row calls, from the meaning m before to m' after.
use Rattle.std.specs.Prelude.{◌≡◌, ℕ, Bool, cond, List, ◌++◌, length, drop, IfOk, Result, MatchResult, ◌==◌, nat_le, nat_lt}
use Rattle.rows.specs.Refusals.{answered}
use Rattle.rows.specs.Rows.{Rows, Kept, Stored}
use Rattle.rows.specs.declared.refusal.RowRefusal.{RowRefusal}

-- The number of the first check that fails, or 0:
-- 4 the row does not exist; 5 the place has under 128 bytes, or the write not exactly 128; 6 the row is locked.
abbrev pub read_check : Rows → ℕ → ℕ → ℕ
read_check m row len = cond (nat_lt row m.count) (cond (nat_le 128 len) 0 5) 4

abbrev pub write_check : Rows → ℕ → ℕ → ℕ
write_check m row len = cond (nat_lt row m.count) (cond (len == 128) (cond (m.row row).locked 6 0) 5) 4

abbrev pub lock_check : Rows → ℕ → ℕ
lock_check m row = cond (nat_lt row m.count) 0 4

-- a read into a place that holds p before and p' after
pub record Reads {X : Type 0} (m m' : Rows) (row : ℕ) (p p' : List ℕ) (r : Result X RowRefusal) : Type 0 where
  pub checked : answered r ≡ read_check m row (length p)
  pub fills : MatchResult r (λ _. p' ≡ (m.row row).shown ++ drop 128 p) (λ _. p' ≡ p)
  pub kept : Kept m m'

-- what an answered write left: the bytes in their row, or everything as it was
abbrev pub Wrote : {X : Type 0} → Rows → Rows → ℕ → List ℕ → Result X RowRefusal → Type 0
Wrote m m' row b r = MatchResult r (λ _. Stored m m' row b) (λ _. Kept m m')

pub record Writes {X : Type 0} (m m' : Rows) (row : ℕ) (b : List ℕ) (r : Result X RowRefusal) : Type 0 where
  pub checked : answered r ≡ write_check m row (length b)
  pub wrote : Wrote m m' row b r

-- the lock question
pub record Asks (m m' : Rows) (row : ℕ) (r : Result Bool RowRefusal) : Type 0 where
  pub checked : answered r ≡ lock_check m row
  pub tells : IfOk r (λ b. b ≡ (m.row row).locked)
  pub kept : Kept m m'
