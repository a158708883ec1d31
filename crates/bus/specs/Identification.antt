-- What identification answers. Assumes nothing.
use Rattle.std.specs.Prelude.{ℕ, Bool, cond}
use Rattle.bus.specs.declared.identity.Identity.{Identity}
use Rattle.bus.specs.Meaning.{Chip}

-- the byte of a boot block: FF locked, FE open
abbrev pub lock_byte : Bool → ℕ
lock_byte b = cond b 0xFF 0xFE

-- maker 1F, the device code, and the two blocks once the open period has closed
abbrev pub identity : Chip → Identity
identity c = record { maker = 0x1F; device = c.device; low = lock_byte c.settled.low_locked; high = lock_byte c.settled.high_locked }
