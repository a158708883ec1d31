-- What a line says: the columns' order, or a cycle, or a refusal.
use Rattle.std.specs.Prelude.{◌≡◌, ℕ, Bool, true, cond, ◌&&◌, List, [], ◌∷◌, map, is_some, Some, None, Ok, Err, Option, Result}
use Rattle.std.specs.Borrow.{Bor}
use Rattle.trace.specs.Names.{column_named, only_once}
use Rattle.trace.specs.Naming.{column_order}
use Rattle.fields.specs.Splitting.{is_text, parts, are_four}
use Rattle.fields.specs.Forms.{op_in, gap_in, address_in, data_in, is_dash}
use Rattle.trace.specs.declared.column.Column.{Column}
use Rattle.trace.specs.declared.column.Column.TheVariants.{Op, Gap, Addr, Data}
use Rattle.trace.specs.declared.column.Columns.{Columns}
use Rattle.trace.specs.declared.cycle.Cycle.{Cycle}
use Rattle.trace.specs.declared.cycle.Cycle.TheVariants.{Load, Read, Wait}
use Rattle.fields.specs.declared.line.Fields.{Fields}
use Rattle.trace.specs.declared.refusal.LineRefusal.{LineRefusal}
use Rattle.trace.specs.declared.refusal.LineRefusal.TheVariants.{Bytes, Fields as NoFields, Names, Value}
use Rattle.trace.specs.declared.row.Field.{Field}
use Rattle.trace.specs.declared.row.Field.TheVariants.{Op as OpField, Gap as GapField, Addr as AddrField, Data as DataField}
use Rattle.trace.specs.declared.row.Row.{Row}
use Rattle.fields.specs.declared.values.Op.TheVariants.{Load as L, Read as R, Wait as W}
use Rattle.fields.specs.declared.values.Op.{Op as OpKind}

-- ---- any line

-- the fault of a line as text: 11 its bytes, then 12 its fields
abbrev pub line_fault : List ℕ → Option LineRefusal
line_fault s = cond (is_text s) (cond (are_four (parts s)) None (Some NoFields)) (Some Bytes)

abbrev pub unless_fault : {X : Type 0} → Option LineRefusal → Result X LineRefusal → Result X LineRefusal
unless_fault None r = r
unless_fault (Some e) r = Err e

-- ---- a line of names

-- the order of four columns that each stand once
abbrev pub ordered : List Column → Option Columns
ordered ks = cond (only_once ks) (Some (record { order = ks })) None

abbrev pub order_of : Option Column → Option Column → Option Column → Option Column → Option Columns
order_of None b c d = None
order_of (Some a) None c d = None
order_of (Some a) (Some b) None d = None
order_of (Some a) (Some b) (Some c) None = None
order_of (Some a) (Some b) (Some c) (Some d) = ordered (a ∷ (b ∷ (c ∷ (d ∷ []))))

-- the order that four names give
abbrev pub order_named : List (List ℕ) → Option Columns
order_named [] = None
order_named (a ∷ []) = None
order_named (a ∷ (b ∷ [])) = None
order_named (a ∷ (b ∷ (c ∷ []))) = None
order_named (a ∷ (b ∷ (c ∷ (d ∷ ps)))) = order_of (column_named a) (column_named b) (column_named c) (column_named d)

abbrev pub or_refuse : {X : Type 0} → Option X → LineRefusal → Result X LineRefusal
or_refuse None e = Err e
or_refuse (Some x) e = Ok x

-- the first refusal that applies, or the order
abbrev pub order_in : List ℕ → Result Columns LineRefusal
order_in s = unless_fault (line_fault s) (or_refuse (order_named (parts s)) Names)

-- what a line of names says; it stays shut where it is cited
unfoldable pub names_line : List ℕ → Result Columns LineRefusal
names_line s = order_in s

-- ---- a line of values

-- the texts of a line by column
pub record Texts : Type 0 where
  pub op : List ℕ
  pub gap : List ℕ
  pub addr : List ℕ
  pub «data» : List ℕ

-- a text under its column
abbrev pub under : Texts → Column → List ℕ → Texts
under t Op p = record { op = p; gap = t.gap; addr = t.addr; «data» = t.«data» }
under t Gap p = record { op = t.op; gap = p; addr = t.addr; «data» = t.«data» }
under t Addr p = record { op = t.op; gap = t.gap; addr = p; «data» = t.«data» }
under t Data p = record { op = t.op; gap = t.gap; addr = t.addr; «data» = p }

abbrev pub no_texts : Texts
no_texts = record { op = []; gap = []; addr = []; «data» = [] }

abbrev pub under_each : Texts → List Column → List (List ℕ) → Texts
under_each t [] ps = t
under_each t (c ∷ cs) [] = t
under_each t (c ∷ cs) (p ∷ ps) = under_each (under t c p) cs ps

-- the fields of a line, each under the column of its place
abbrev pub by_column : Columns → List (List ℕ) → Texts
by_column cs ps = under_each no_texts (column_order cs) ps

-- a load has an address and data
abbrev pub load : ℕ → Option ℕ → Option ℕ → Option Cycle
load g None d = None
load g (Some a) None = None
load g (Some a) (Some d) = Some (Load g a d)

abbrev pub load_of : ℕ → Texts → Option Cycle
load_of g t = load g (address_in t.addr) (data_in t.«data»)

-- a read has an address, and a dash for data
abbrev pub read : ℕ → Option ℕ → Bool → Option Cycle
read g None d = None
read g (Some a) d = cond d (Some (Read g a)) None

abbrev pub read_of : ℕ → Texts → Option Cycle
read_of g t = read g (address_in t.addr) (is_dash t.«data»)

-- a wait has a dash for both
abbrev pub wait_of : ℕ → Texts → Option Cycle
wait_of g t = cond (is_dash t.addr && is_dash t.«data») (Some (Wait g)) None

abbrev pub cycle_of : Option ℕ → Option OpKind → Texts → Option Cycle
cycle_of None o t = None
cycle_of (Some g) None t = None
cycle_of (Some g) (Some L) t = load_of g t
cycle_of (Some g) (Some R) t = read_of g t
cycle_of (Some g) (Some W) t = wait_of g t

-- the cycle of the texts, where every one has its form
abbrev pub cycle_in : Texts → Option Cycle
cycle_in t = cycle_of (gap_in t.gap) (op_in t.op) t

-- has addr its form under this op? Under a bad op it counts as good
abbrev pub addr_formed : Option OpKind → List ℕ → Bool
addr_formed None p = true
addr_formed (Some L) p = is_some (address_in p)
addr_formed (Some R) p = is_some (address_in p)
addr_formed (Some W) p = is_dash p

abbrev pub data_formed : Option OpKind → List ℕ → Bool
data_formed None p = true
data_formed (Some L) p = is_some (data_in p)
data_formed (Some R) p = is_dash p
data_formed (Some W) p = is_dash p

-- has the text under a column its form?
abbrev pub formed : Texts → Column → Bool
formed t Op = is_some (op_in t.op)
formed t Gap = is_some (gap_in t.gap)
formed t Addr = addr_formed (op_in t.op) t.addr
formed t Data = data_formed (op_in t.op) t.«data»

-- the leftmost of four columns without its form: the fourth where the others have theirs
abbrev pub leftmost_of : List Column → (Column → Bool) → Column
leftmost_of [] f = Op
leftmost_of (c ∷ []) f = c
leftmost_of (c ∷ (d ∷ ks)) f = cond (f c) (leftmost_of (d ∷ ks) f) c

-- the column that a bad line names: the leftmost without its form
abbrev pub named : Columns → (Column → Bool) → Column
named cs f = leftmost_of (column_order cs) f

abbrev pub judged : Columns → Texts → Result Cycle LineRefusal
judged cs t = or_refuse (cycle_in t) (Value (named cs (formed t)))

-- the first refusal that applies, or the cycle
abbrev pub cycle_under : Columns → List ℕ → Result Cycle LineRefusal
cycle_under cs s = unless_fault (line_fault s) (judged cs (by_column cs (parts s)))

-- what a line of values says under columns in this order; it stays shut where it is cited
unfoldable pub value_line : Columns → List ℕ → Result Cycle LineRefusal
value_line cs s = cycle_under cs s

-- ---- what the code holds

abbrev pub field_texts : Fields → List (List ℕ)
field_texts f = map (λ p. p.now) f.texts

-- the fields of a line, or its fault
abbrev pub FieldsOf : List ℕ → Result Fields LineRefusal → Type 0
FieldsOf s (Ok f) = (line_fault s ≡ None) × (parts s ≡ field_texts f)
FieldsOf s (Err e) = line_fault s ≡ Some e

abbrev pub row_texts : Row → Texts
row_texts r = record { op = r.op.now; gap = r.gap.now; addr = r.addr.now; «data» = r.«data».now }

abbrev pub field_of : Column → Bor (List ℕ) → Field
field_of Op p = OpField p
field_of Gap p = GapField p
field_of Addr p = AddrField p
field_of Data p = DataField p

abbrev pub placed : Texts → Field → Texts
placed t (OpField p) = under t Op p.now
placed t (GapField p) = under t Gap p.now
placed t (AddrField p) = under t Addr p.now
placed t (DataField p) = under t Data p.now
