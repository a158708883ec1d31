-- What a line says, in words of its fields.
use Rattle.std.specs.Prelude.{◌≡◌, ℕ, Bool, true, false, ◌⊎◌, List, [], ◌∷◌, Some, Ok, Err, Result, map}
use Rattle.std.specs.List.{join_with_byte}
use Rattle.trace.specs.Names.{name_of}
use Rattle.trace.specs.Naming.{column_order, EachOnce}
use Rattle.fields.specs.Splitting.{is_text, FourFields}
use Rattle.fields.specs.Forms.{op_in, gap_in, address_in, data_in, is_dash}
use Rattle.trace.specs.Lines.{Texts, by_column, formed}
use Rattle.trace.specs.declared.column.Column.{Column}
use Rattle.trace.specs.declared.column.Columns.{Columns}
use Rattle.trace.specs.declared.cycle.Cycle.{Cycle}
use Rattle.trace.specs.declared.cycle.Cycle.TheVariants.{Load, Read, Wait}
use Rattle.trace.specs.declared.refusal.LineRefusal.{LineRefusal}
use Rattle.trace.specs.declared.refusal.LineRefusal.TheVariants.{Bytes, Fields, Names, Value}
use Rattle.fields.specs.declared.values.Op.TheVariants.{Load as L, Read as R, Wait as W}

-- a line that is text, and has four fields of which P holds
abbrev pub Splits : List ℕ → (List ℕ → List ℕ → List ℕ → List ℕ → Type 0) → Type 0
Splits s P = (is_text s ≡ true) × (a : List ℕ) × (b : List ℕ) × (c : List ℕ) × (d : List ℕ) × FourFields s a b c d × P a b c d

-- a line that is text, and is no four fields
abbrev pub Unsplit : List ℕ → Type 0
Unsplit s = (is_text s ≡ true) × ((a b c d : List ℕ) → FourFields s a b c d → ⊥)

-- the names of columns with single spaces between
abbrev pub names_text : List Column → List ℕ
names_text ks = join_with_byte 32 (map name_of ks)

-- the line is the names of these columns, each column once
abbrev pub NamesAre : List ℕ → Columns → Type 0
NamesAre s cs = (s ≡ names_text (column_order cs)) × EachOnce cs

-- what a line of names says: the order of its names;
-- 11 where it is no text, 12 where it has not four fields, 13 where they are not each name once
unfoldable pub SaysOrder : List ℕ → Result Columns LineRefusal → Type 0
SaysOrder s (Ok cs) = (is_text s ≡ true) × NamesAre s cs
SaysOrder s (Err Bytes) = is_text s ≡ false
SaysOrder s (Err Fields) = Unsplit s
SaysOrder s (Err Names) = Splits s (λ a b c d. (cs : Columns) → NamesAre s cs → ⊥)
SaysOrder s (Err (Value k)) = ⊥

-- the texts under the columns are the values of a cycle
abbrev pub Tells : Texts → Cycle → Type 0
Tells t (Load g a d) = (op_in t.op ≡ Some L) × (gap_in t.gap ≡ Some g) × (address_in t.addr ≡ Some a) × (data_in t.«data» ≡ Some d)
Tells t (Read g a) = (op_in t.op ≡ Some R) × (gap_in t.gap ≡ Some g) × (address_in t.addr ≡ Some a) × (is_dash t.«data» ≡ true)
Tells t (Wait g) = (op_in t.op ≡ Some W) × (gap_in t.gap ≡ Some g) × (is_dash t.addr ≡ true) × (is_dash t.«data» ≡ true)

-- k is the leftmost of the columns whose value has not its form
abbrev pub Leftmost : List Column → (Column → Bool) → Column → Type 0
Leftmost [] f k = ⊥
Leftmost (c ∷ cs) f k = ((c ≡ k) × (f c ≡ false)) ⊎ ((f c ≡ true) × Leftmost cs f k)

-- what a line of values says: the cycle whose values stand in its fields;
-- 11 where it is no text, 12 where it has not four fields, 14 with the leftmost bad column where a value has not its form
unfoldable pub SaysCycle : Columns → List ℕ → Result Cycle LineRefusal → Type 0
SaysCycle cs s (Ok x) = Splits s (λ a b c d. Tells (by_column cs (a ∷ (b ∷ (c ∷ (d ∷ []))))) x)
SaysCycle cs s (Err Bytes) = is_text s ≡ false
SaysCycle cs s (Err Fields) = Unsplit s
SaysCycle cs s (Err Names) = ⊥
SaysCycle cs s (Err (Value k)) = Splits s (λ a b c d. Leftmost (column_order cs) (formed (by_column cs (a ∷ (b ∷ (c ∷ (d ∷ [])))))) k)
