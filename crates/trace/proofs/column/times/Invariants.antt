use Rattle.std.proofs.Common.{◌≡◌, ◌+◌, ◌≤◌, drop}
use Rattle.trace.specs.Names.{times}
use Rattle.trace.proofs.column.times.Given as goal

-- no more than the columns seen so far, and with those that are left all of them
abbrev pub invariant-loop-other : goal.invariant-loop-other
invariant-loop-other l = (l.n ≤ l.other-index) × (l.n + times l.fn.column (drop l.other-index l.fn.order) ≡ times l.fn.column l.fn.order)
