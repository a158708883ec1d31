-- The number of each refusal of a row call, and its words.
use Rattle.std.specs.Prelude.{ℕ, List, Ok, Err, codes, Result}
use Rattle.rows.specs.declared.refusal.RowRefusal.{RowRefusal}
use Rattle.rows.specs.declared.refusal.RowRefusal.TheVariants.{Absent, Length, Locked}

abbrev pub number : RowRefusal → ℕ
number Absent = 4
number Length = 5
number Locked = 6

abbrev pub words : RowRefusal → List ℕ
words Absent = codes "no such row"
words Length = codes "not 128 bytes"
words Locked = codes "row locked"

-- the number that a call answers: 0 where it is accepted
abbrev pub answered : {X : Type 0} → Result X RowRefusal → ℕ
answered (Ok x) = 0
answered (Err e) = number e
