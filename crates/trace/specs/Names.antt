-- The columns of a trace: their names, and how often each stands.
use Rattle.std.specs.Prelude.{ℕ, ◌+◌, Bool, true, false, cond, ◌&&◌, List, [], ◌∷◌, Some, None, codes, Option, ◌==◌}
use Rattle.trace.specs.declared.column.Column.{Column}
use Rattle.trace.specs.declared.column.Column.TheVariants.{Op, Gap, Addr, Data}

-- the name of a column, in small letters
abbrev pub name_of : Column → List ℕ
name_of Op = codes "op"
name_of Gap = codes "gap"
name_of Addr = codes "addr"
name_of Data = codes "data"

-- are two texts the same?
abbrev pub same_text : List ℕ → List ℕ → Bool
same_text [] [] = true
same_text [] (b ∷ u) = false
same_text (a ∷ t) [] = false
same_text (a ∷ t) (b ∷ u) = a == b && same_text t u

-- the column that a text names
abbrev pub column_named : List ℕ → Option Column
column_named t =
    cond (same_text t (name_of Op)) (Some Op)
    (cond (same_text t (name_of Gap)) (Some Gap)
    (cond (same_text t (name_of Addr)) (Some Addr)
    (cond (same_text t (name_of Data)) (Some Data) None)))

-- are two columns the same?
abbrev pub same_column : Column → Column → Bool
same_column c d = same_text (name_of c) (name_of d)

-- how often a column stands among others
abbrev pub times : Column → List Column → ℕ
times c [] = 0
times c (d ∷ ds) = cond (same_column d c) 1 0 + times c ds

-- each of the four columns, and each once
abbrev pub only_once : List Column → Bool
only_once cs = times Op cs == 1 && (times Gap cs == 1 && (times Addr cs == 1 && times Data cs == 1))
