-- The data loads that a page buffer means, on a part of n sectors. Assumes nothing.
use Rattle.std.specs.Prelude.{ℕ, cond, List, Option, nat_le}
use Rattle.period.specs.declared.page.PageBuffer.{PageBuffer}
use Rattle.period.specs.declared.page.Target.{Target}
use Rattle.period.specs.declared.page.Target.TheVariants.{Nothing, Sector, Several}
use Rattle.bus.specs.Meaning.{DataLoads, none, one, several}

-- a sector outside the part is none
abbrev pub target_of : ℕ → Target → Target
target_of n Nothing = Nothing
target_of n (Sector s) = cond (nat_le n s) Nothing (Sector s)
target_of n Several = Several

abbrev pub data_at : Target → List (Option ℕ) → DataLoads
data_at Nothing page = none
data_at (Sector s) page = one s page
data_at Several page = several

abbrev pub data_of : ℕ → PageBuffer → DataLoads
data_of n b = data_at (target_of n b.target) b.page
