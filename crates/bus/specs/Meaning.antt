-- The meaning of a part: what it holds, its open load period, and where it stands in time. Assumes nothing.
use Rattle.std.specs.Prelude.{ℕ, Bool, List, Option}
use Rattle.bus.specs.declared.load.Load.{Load}

-- the bytes of the array, software data protection, and the lockout of the lower and of the upper boot block
pub record State : Type 0 where
  pub bytes : List ℕ
  pub protected : Bool
  pub low_locked : Bool
  pub high_locked : Bool

-- The data loads of a period: there are none; or all name one sector, and this is its page, the last value that each of
-- the 128 bytes was loaded with, if it was loaded at all; or they name several sectors.
pub data DataLoads : Type 0 where
  none : DataLoads
  one : ℕ → List (Option ℕ) → DataLoads
  several : DataLoads

-- a load period: its first seven loads, whether there were more, and its data loads
pub record Period : Type 0 where
  pub head : List Load
  pub more : Bool
  pub loaded : DataLoads

-- At rest; in an open period, with the state before it, the period and its age, the time since its last load; or in a
-- program cycle, with the elapsed time and the cycle time. Times are in microseconds.
pub data Phase : Type 0 where
  rest : Phase
  opened : State → Period → ℕ → Phase
  cycle : ℕ → ℕ → Phase

-- The number of sectors, the device code, the settled state (the state once the open period has closed with its present
-- loads and its cycle has ended), the phase, the load that came last, bit 6 of the last status, and the number of
-- answered reads.
pub record Chip : Type 0 where
  pub sectors : ℕ
  pub device : ℕ
  pub settled : State
  pub phase : Phase
  pub last : Load
  pub toggle : Bool
  pub reads : ℕ

abbrev pub with_phase : Chip → Phase → Chip
with_phase c f = record { sectors = c.sectors; device = c.device; settled = c.settled; phase = f; last = c.last; toggle = c.toggle; reads = c.reads }
