-- What a load period comes to when it closes, and which period a gap closes. Assumes nothing.
use Rattle.std.specs.Prelude.{ℕ, ◌+◌, cond, Some, None, Option, nat_le}
use Rattle.bus.specs.declared.closed.Closed.{Closed}
use Rattle.bus.specs.Meaning.{State, Period, Phase, rest, opened, cycle, Chip}
use Rattle.bus.specs.Codes.{kind}
use Rattle.bus.specs.Outcomes.{outcome_of}

-- a period that opened in the state s and closes as it stands, on a part of n sectors
abbrev pub closed_as : ℕ → State → Period → Closed
closed_as n s p = record { kind = kind n p; outcome = outcome_of n s (kind n p) p.loaded }

abbrev pub due_in : ℕ → ℕ → Phase → Option Closed
due_in n gap rest = None
due_in n gap (opened s p age) = cond (nat_le (age + gap) 150) None (Some (closed_as n s p))
due_in n gap (cycle e t) = None

-- the period that a gap closes
abbrev pub due : ℕ → Chip → Option Closed
due gap c = due_in c.sectors gap c.phase
