use Rattle.std.proofs.Common.{◌≡◌, ◌+◌, ◌≤◌, drop}
use Rattle.wiring.specs.Lines.{occurrences}
use Rattle.wiring.proofs.lines.occurrences.Given as goal

-- no more than the lines seen so far, and with those that are left all of them
abbrev pub invariant-loop-line : goal.invariant-loop-line
invariant-loop-line l = (l.n ≤ l.line-index) × (l.n + occurrences l.fn.v (drop l.line-index l.fn.lines) ≡ occurrences l.fn.v l.fn.lines)
