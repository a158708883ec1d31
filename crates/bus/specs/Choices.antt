-- What the rules leave to the part. Assumes nothing.
use Rattle.std.specs.Prelude.{◌≡◌, ℕ, ◌<◌, ◌≤◌, List, length, All}

-- the time of the cycle that begins next, what goes into the unloaded bytes of a written sector, and the free bits of a status:
-- bit 7 at other addresses than the last loaded, and bits 5 to 0
pub record Choice : Type 0 where
  pub time : ℕ
  pub fill : List ℕ
  pub top : ℕ
  pub low_bits : ℕ
  pub time_least : 1 ≤ time
  pub time_most : time ≤ 10000
  pub fill_length : length fill ≡ 128
  pub fill_bytes : All (λ b. b < 256) fill
  pub top_bit : top ≤ 1
  pub low_bits_fit : low_bits < 64
