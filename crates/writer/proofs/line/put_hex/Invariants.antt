use Rattle.std.proofs.Common.{ℕ, ◌+◌, ◌-◌, ◌*◌, ◌/◌, ◌^◌, List, ◌++◌}
use Rattle.writer.specs.Writing.{hex_text, Fronts}
use Rattle.writer.proofs.line.put_hex.Given as goal

-- the digits above `digit`
abbrev pub invariant-loop-digit : goal.invariant-loop-digit
invariant-loop-digit l =
    (p w : List ℕ) → Fronts p w l.at l.initial.place → Fronts p (w ++ hex_text (l.digits - l.digit) (l.number / 2 ^ (4 * l.digit))) (l.at + (l.digits - l.digit)) l.place
