-- What a part chooses: the filling of unloaded bytes, the free bits of a status, the first bit 6, and cycle times.
-- Assumes nothing.
use Rattle.std.specs.Prelude.{ℕ, ◌+◌, ◌-◌, ◌%◌, ◌<◌, ◌≤◌, min, max, Bool, true, false, List, [], ◌∷◌, length, slice_index}
use Rattle.std.proofs.Common.{arith, lit<}

-- what an unloaded byte becomes, bits 5 to 0 of every status, and bit 6 of the first
pub record Style : Type 0 where
  pub filler : ℕ → ℕ
  pub filler_byte : (b : ℕ) → filler b < 256
  pub free : ℕ
  pub free_small : free < 64
  pub first : Bool

-- FF, and zeros
abbrev pub steady_style : Style
steady_style = record { filler = λ b. 255; filler_byte = λ b. lit< tt; free = 0; free_small = lit< tt; first = false }

pub inverted_byte : (b : ℕ) → 255 - b < 256
inverted_byte b = omega arith

-- the inverted byte, and ones
abbrev pub uneven_style : Style
uneven_style = record { filler = λ b. 255 - b; filler_byte = inverted_byte; free = 63; free_small = lit< tt; first = true }

-- cycle times, by the number of cycles before
abbrev pub Timely : (ℕ → ℕ) → Type 0
Timely ts = (k : ℕ) → (1 ≤ ts k) × (ts k ≤ 10000)

-- the nearest of 1 to 10,000
abbrev pub nearest : ℕ → ℕ
nearest t = min (max t 1) 10000

-- one cycle time always; one that the check passes is its own nearest
abbrev pub steady_times : ℕ → ℕ → ℕ
steady_times t k = nearest t

pub steady_timely : (t : ℕ) → Timely (steady_times t)
steady_timely t k = (omega arith, omega arith)

-- the list over and over; an empty list counts as 10,000
abbrev pub in_turn : List ℕ → ℕ → ℕ
in_turn [] k = 10000
in_turn (t ∷ ts) k = nearest (slice_index (t ∷ ts) (k % length (t ∷ ts)))

-- the list in turn, from this place on
abbrev pub uneven_times : List ℕ → ℕ → ℕ → ℕ
uneven_times ts at k = in_turn ts (at + k)

turn_timely : (ts : List ℕ) (k : ℕ) → (1 ≤ in_turn ts k) × (in_turn ts k ≤ 10000)
turn_timely [] k = (omega arith, omega arith)
turn_timely (t ∷ ts) k = (omega arith, omega arith)

pub uneven_timely : (ts : List ℕ) (at : ℕ) → Timely (uneven_times ts at)
uneven_timely ts at k = turn_timely ts (at + k)
