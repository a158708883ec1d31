-- How time passes for a part. Assumes nothing.
use Rattle.std.specs.Prelude.{ℕ, ◌+◌, ◌-◌, Bool, true, false, cond, nat_le, nat_lt}
use Rattle.bus.specs.Meaning.{Phase, rest, opened, cycle, Chip, with_phase}

-- a cycle ends when the elapsed time reaches its cycle time
abbrev pub running : ℕ → ℕ → Phase
running time elapsed = cond (nat_lt elapsed time) (cycle elapsed time) rest

-- The gap passes. A period closes when its age exceeds 150, and its cycle, which takes this time, has then run for the age less 150.
abbrev pub passed_phase : ℕ → ℕ → Phase → Phase
passed_phase time gap rest = rest
passed_phase time gap (opened s p age) = cond (nat_le (age + gap) 150) (opened s p (age + gap)) (running time (age + gap - 150))
passed_phase time gap (cycle elapsed t) = running t (elapsed + gap)

abbrev pub passed : ℕ → ℕ → Chip → Chip
passed time gap c = with_phase c (passed_phase time gap c.phase)

abbrev pub is_rest : Phase → Bool
is_rest rest = true
is_rest (opened s p age) = false
is_rest (cycle e t) = false
