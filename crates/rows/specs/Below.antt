-- What a call on a layer leaves in the store below it, from the meaning m before to m' after.
use Rattle.std.specs.Prelude.{ℕ, List}
use Rattle.rows.specs.Exchanges.{Asked, ask_write, Given, give_write}
use Rattle.rows.specs.RowCalls.{Wrote}
use Rattle.rows.specs.Rows.{Rows, Kept}

-- Only an accepted write changes the store below, and of it only the one row. A row of the layer is the row `under` it there,
-- and bytes lie there as `lay` has them.
abbrev pub LeavesBelow : (ℕ → ℕ) → (List ℕ → List ℕ) → Rows → Rows → Asked → Given → Type 0
LeavesBelow under lay m m' (ask_write row b) (give_write r) = Wrote m m' (under row) (lay b) r
LeavesBelow under lay m m' (ask_write row b) given = ⊥
LeavesBelow under lay m m' asked given = Kept m m'
