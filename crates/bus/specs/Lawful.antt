-- What holds of the meaning of every part, in every state. Assumes nothing.
use Rattle.std.specs.Prelude.{◌≡◌, ◌-◌, ◌*◌, ◌^◌, ◌<◌, ◌≤◌, length}
use Rattle.bus.specs.Meaning.{Phase, rest, opened, cycle, Chip}

-- an open period has not closed, a running cycle has not ended, and a cycle time is at most 10,000
abbrev pub Timely : Phase → Type 0
Timely rest = Unit {0}
Timely (opened s p age) = age ≤ 150
Timely (cycle e t) = (e < t) × (t ≤ 10000)

-- the bytes fill the sectors, of which there are none or 256 to 8,192
pub record Lawful (c : Chip) : Type 0 where
  pub sized : length c.settled.bytes ≡ 128 * c.sectors
  pub most : c.sectors ≤ 8192
  pub least : 0 < c.sectors → 256 ≤ c.sectors
  pub counts : c.reads ≤ 2 ^ 64 - 1
  pub timely : Timely c.phase
