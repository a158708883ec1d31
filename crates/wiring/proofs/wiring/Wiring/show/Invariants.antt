use Rattle.std.proofs.Common.{◌≡◌, ℕ, ◌<◌, ◌≤◌, length, get_or}
use Rattle.wiring.specs.Lines.{crossed}
use Rattle.wiring.proofs.wiring.Wiring.show.Given as goal

-- the bytes gone through show, and the others are as they were
abbrev pub invariant-loop-b : goal.invariant-loop-b
invariant-loop-b l = record {
  long : length l.bytes ≡ length l.initial.bytes;
  shown : (k : ℕ) → k < l.b-index → get_or l.bytes k 0 ≡ crossed l.self.lines (get_or l.initial.bytes k 0);
  rest : (k : ℕ) → l.b-index ≤ k → get_or l.bytes k 0 ≡ get_or l.initial.bytes k 0;
}
