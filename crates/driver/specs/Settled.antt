-- What the driver's calls leave in the settled state. Assumes nothing.
use Rattle.std.specs.Prelude.{ℕ, true, false, List}
use Rattle.bus.specs.Meaning.{State}
use Rattle.bus.specs.Outcomes.{with_sector}

-- a write: the bytes of the sector, and protection on
abbrev pub after_write : State → ℕ → List ℕ → State
after_write s r b = record { bytes = with_sector s.bytes r b; protected = true; low_locked = s.low_locked; high_locked = s.high_locked }

abbrev pub after_protect : State → State
after_protect s = record { bytes = s.bytes; protected = true; low_locked = s.low_locked; high_locked = s.high_locked }

-- a lift: the sector that was read and loaded back holds what it held, and protection is off
abbrev pub after_lift : State → State
after_lift s = record { bytes = s.bytes; protected = false; low_locked = s.low_locked; high_locked = s.high_locked }

abbrev pub after_lock_low : State → State
after_lock_low s = record { bytes = s.bytes; protected = s.protected; low_locked = true; high_locked = s.high_locked }

abbrev pub after_lock_high : State → State
after_lock_high s = record { bytes = s.bytes; protected = s.protected; low_locked = s.low_locked; high_locked = true }
