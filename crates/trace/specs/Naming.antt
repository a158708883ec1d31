-- The order of the columns.
use Rattle.std.specs.Prelude.{◌≡◌, List, [], ◌∷◌}
use Rattle.trace.specs.Names.{times}
use Rattle.trace.specs.declared.column.Column.{Column}
use Rattle.trace.specs.declared.column.Column.TheVariants.{Op, Gap, Addr, Data}
use Rattle.trace.specs.declared.column.Columns.{Columns}

-- the columns from left to right
abbrev pub column_order : Columns → List Column
column_order cs = cs.order

-- each column once, as a fact of each
abbrev pub EachOnce : Columns → Type 0
EachOnce cs = (k : Column) → times k (column_order cs) ≡ 1

-- the order in which cycles are written
abbrev pub standard_order : Columns
standard_order = record { order = Op ∷ (Gap ∷ (Addr ∷ (Data ∷ []))) }
