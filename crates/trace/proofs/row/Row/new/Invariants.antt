use Rattle.std.proofs.Common.{◌≡◌, map}
use Rattle.std.specs.Slice.Iter.{iter_rest}
use Rattle.trace.specs.Lines.{under_each, row_texts, by_column, field_texts}
use Rattle.trace.proofs.row.Row.new.Given as goal

-- the fields that are left go under their columns
abbrev pub invariant-loop-column : goal.invariant-loop-column
invariant-loop-column l =
    by_column l.fn.columns (field_texts l.fn.fields) ≡ under_each (row_texts l.row) (iter_rest l.column-iterator.a) (map (λ p. p.now) (iter_rest l.column-iterator.b))
