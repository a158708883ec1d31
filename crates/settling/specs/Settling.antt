-- How a part is waited for. Assumes nothing.
use Rattle.std.specs.Prelude.{◌≡◌, ℕ, ◌+◌, ◌-◌, ◌/◌, ◌%◌, ◌^◌, ◌<◌, ◌≤◌, min, List, [], ◌∷◌, length, ◌≢◌}
use Rattle.bus.specs.Choices.{Choice}
use Rattle.bus.specs.Meaning.{Chip, rest}
use Rattle.bus.specs.Status.{after_read, read_byte}
use Rattle.bus.specs.Steps.{Waits}
use Rattle.bus.specs.Time.{passed}

-- the count of answered reads after n more, which stays at its 64-bit top
abbrev pub reads_after : ℕ → ℕ → ℕ
reads_after reads n = min (reads + n) (2 ^ 64 - 1)

-- what neither time nor reads change
pub record Same (c d : Chip) : Type 0 where
  pub sectors : d.sectors ≡ c.sectors
  pub device : d.device ≡ c.device
  pub settled : d.settled ≡ c.settled
  pub last : d.last ≡ c.last

-- the toggle bit of a byte
abbrev pub toggle_bit : ℕ → ℕ
toggle_bit byte = byte / 64 % 2

-- one poll: a read of address 0 with gap 100, that gave the toggle bit b
abbrev pub Polls : Chip → Chip → ℕ → Type 0
Polls c d b = (w : Choice) × (d ≡ after_read (passed w.time 100 c)) × (b ≡ toggle_bit (read_byte w (passed w.time 100 c) 0))

-- successive polls from c to d gave these bits, the newest first
abbrev pub Sees : Chip → List ℕ → Chip → Type 0
Sees c [] d = d ≡ c
Sees c (b ∷ bits) d = (m : Chip) × Sees c bits m × Polls m d b

-- no two in succession agree
abbrev pub Toggling : List ℕ → Type 0
Toggling [] = Unit {0}
Toggling (b ∷ []) = Unit {0}
Toggling (b ∷ (a ∷ bits)) = (b ≢ a) × Toggling (a ∷ bits)

-- the newest two agree, and none before
abbrev pub Agreed : List ℕ → Type 0
Agreed [] = ⊥
Agreed (b ∷ []) = ⊥
Agreed (b ∷ (a ∷ bits)) = (b ≡ a) × Toggling (a ∷ bits)

-- a wait of 151, and then n polls until two in succession agree
pub record Polling (c d : Chip) (n : ℕ) : Type 0 where
  pub waited : Chip
  pub wait : Waits 151 c waited
  pub bits : List ℕ
  pub sees : Sees waited bits d
  pub agreed : Agreed bits
  pub long : length bits ≡ n

-- A part with sectors is polled; one without is only waited for. Shut, so that no search goes into it.
unfoldable pub Waited : Chip → Chip → ℕ → Type 0
Waited c d n = (0 < c.sectors → Polling c d n) × (c.sectors ≡ 0 → Waits 151 c d)

-- The part has settled by n reads: 2 to 101, or none on a part without sectors. One with sectors is at rest. The settled state
-- is what it was, and the count of reads has risen by n.
pub record Settles (c d : Chip) (n : ℕ) : Type 0 where
  pub same : Same c d
  pub reads : d.reads ≡ reads_after c.reads n
  pub most : n ≤ 101
  pub least : 0 < c.sectors → 2 ≤ n
  pub none : c.sectors ≡ 0 → n ≡ 0
  pub rests : 0 < c.sectors → d.phase ≡ rest
  pub waited : Waited c d n
