-- The rows that a part shows. Assumes nothing.
use Rattle.std.specs.Prelude.{ℕ, refl}
use Rattle.std.proofs.Common.{arith}
use Rattle.bus.specs.Lawful as Bus
use Rattle.bus.specs.Meaning.{Chip, State}
use Rattle.bus.specs.Outcomes.{is_locked}
use Rattle.memory.specs.Memory.{row_of, as_bytes, memory_lawful}
use Rattle.rows.specs.Rows.{Row, Rows, Lawful}

-- Sector r is row r, with its settled bytes and its lock, and lies where it is. The bytes of a part are below 256, and so
-- as they are.
abbrev pub sector_row : ℕ → State → ℕ → Row
sector_row n s r = record { shown = as_bytes (row_of s.bytes r); locked = is_locked n s r; home = r; laid = λ b. b }

-- the rows of n sectors in a settled state
abbrev pub sector_rows : ℕ → State → Rows
sector_rows n s = record { count = n; row = sector_row n s; bottom = λ a. as_bytes (row_of s.bytes a) }

abbrev pub driver_rows : Chip → Rows
driver_rows c = sector_rows c.sectors c.settled

pub driver_lawful : (c : Chip) → Bus.Lawful c → Lawful (driver_rows c)
driver_lawful c l =
    let most = l.most in
    let size = l.sized in
    let m = memory_lawful c.settled.bytes in
    record {
      few = omega arith;
      whole = λ r h. m.whole r (omega arith);
      bytes = λ r i h. m.bytes r i (omega arith);
      apart = λ r s h k e. e;
      lies = λ r h. refl;
    }
