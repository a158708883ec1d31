-- What a flash array means: its number of sectors and its state. Assumes nothing.
use Rattle.std.specs.Prelude.{ℕ, ◌*◌, false, cond, ◌&&◌, List, length, take, nat_le}
use Rattle.array.specs.declared.flash.FlashArray.{FlashArray}
use Rattle.bus.specs.Meaning.{State}

-- as many sectors as stated, if a part can have so many and the memory has room for them
abbrev pub count_for : ℕ → ℕ → ℕ
count_for n room = cond (nat_le 256 n && (nat_le n 8192 && nat_le (128 * n) room)) n 0

abbrev pub count_of : FlashArray → ℕ
count_of a = a.sectors

abbrev pub state_of : FlashArray → State
state_of a = record { bytes = take (128 * count_of a) a.memory.now; protected = a.protected; low_locked = a.low_locked; high_locked = a.high_locked }

-- these bytes, unprotected and unlocked
abbrev pub new_state : List ℕ → State
new_state bytes = record { bytes = bytes; protected = false; low_locked = false; high_locked = false }
