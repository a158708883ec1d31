-- The numbers of the refusals.
use Rattle.std.specs.Prelude.{ℕ, Some, None, Option}
use Rattle.trace.specs.declared.column.Column.{Column}
use Rattle.trace.specs.declared.refusal.LineRefusal.{LineRefusal}
use Rattle.trace.specs.declared.refusal.LineRefusal.TheVariants.{Bytes, Fields, Names, Value}

-- a line: its bytes, its four fields, the names in it, a value in it
abbrev pub line_number : LineRefusal → ℕ
line_number Bytes = 11
line_number Fields = 12
line_number Names = 13
line_number (Value c) = 14

-- only a bad value names a column
abbrev pub bad_column : LineRefusal → Option Column
bad_column Bytes = None
bad_column Fields = None
bad_column Names = None
bad_column (Value c) = Some c
