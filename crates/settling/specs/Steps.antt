-- What the steps of settling leave. Assumes nothing.
use Rattle.std.specs.Prelude.{◌≡◌, ℕ, ◌-◌, ◌*◌, ◌^◌, ◌<◌, ◌≤◌}
use Rattle.bus.specs.Meaning.{Chip, Phase, rest, opened, cycle}
use Rattle.bus.specs.Steps.{Waits}
use Rattle.settling.specs.Settling.{reads_after, Same, Waited}

-- where a part stands after the wait and n polls: in its cycle, for more than 100 n microseconds, or at rest
abbrev pub Stage : Phase → ℕ → Type 0
Stage rest n = n ≤ 100
Stage (opened s p age) n = ⊥
Stage (cycle e t) n = (100 * n < e) × (e < t) × (t ≤ 10000)

-- a wait of 151: no period is open any more
pub record Closed (c d : Chip) : Type 0 where
  pub same : Same c d
  pub reads : d.reads ≡ c.reads
  pub counts : d.reads ≤ 2 ^ 64 - 1
  pub stage : Stage d.phase 0
  pub waits : Waits 151 c d
  pub none : c.sectors ≡ 0 → Waited c d 0

-- n polls, until two in succession agreed, from d on
pub record Agreement (d e : Chip) (n : ℕ) : Type 0 where
  pub same : Same d e
  pub reads : e.reads ≡ reads_after d.reads n
  pub most : n ≤ 101
  pub least : 2 ≤ n
  pub rests : e.phase ≡ rest
  pub polled : (c : Chip) → Waits 151 c d → Waited c e n
