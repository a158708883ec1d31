-- Where a row of a pair lies.
use Rattle.std.specs.Prelude.{◌≡◌, ℕ, ◌-◌, ◌<◌, ◌≤◌, Ok, Err, Result}
use Rattle.layers.specs.Pairs.{paired}
use Rattle.layers.specs.declared.pair.calls.Place.{Place}
use Rattle.layers.specs.declared.pair.calls.Place.TheVariants.{Front, Back}
use Rattle.rows.specs.Rows.{Rows}
use Rattle.rows.specs.declared.refusal.RowRefusal.{RowRefusal}
use Rattle.rows.specs.declared.refusal.RowRefusal.TheVariants.{Absent}

abbrev pub LiesAt : Rows → Rows → ℕ → Place → Type 0
LiesAt f b row (Front at) = (row < f.count) × (at ≡ row)
LiesAt f b row (Back at) = (f.count ≤ row) × (at ≡ row - f.count)

-- the place of a row that the pair shows, or that it shows no such row
abbrev pub Finds : Rows → Rows → ℕ → Result Place RowRefusal → Type 0
Finds f b row (Ok at) = (row < (paired f b).count) × LiesAt f b row at
Finds f b row (Err e) = ((paired f b).count ≤ row) × (e ≡ Absent)
