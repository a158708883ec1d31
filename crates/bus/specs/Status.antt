-- What a read gives, and what it leaves. Assumes nothing.
use Rattle.std.specs.Prelude.{ℕ, ◌+◌, ◌-◌, ◌*◌, ◌/◌, ◌^◌, min, Bool, cond, not, ◌==◌, slice_index}
use Rattle.bus.specs.Meaning.{Chip}
use Rattle.bus.specs.Time.{is_rest}
use Rattle.bus.specs.Choices.{Choice}

abbrev pub bit : Bool → ℕ
bit b = cond b 1 0

-- The status that a read gives in an open period or a cycle. Bit 6 toggles from one status to the next. Bit 7 at the address last
-- loaded is the complement of the loaded bit 7, and elsewhere the part's choice, as bits 5 to 0 are.
abbrev pub status : Choice → Chip → ℕ → ℕ
status w c a =
    128 * cond (a == c.last.address) (1 - c.last.byte / 128) w.top + (64 * bit (not c.toggle) + w.low_bits)

-- at rest a read gives the stored byte
abbrev pub read_byte : Choice → Chip → ℕ → ℕ
read_byte w c a = cond (is_rest c.phase) (slice_index c.settled.bytes a) (status w c a)

-- the count of answered reads stays at its 64-bit top
abbrev pub counted : ℕ → ℕ
counted n = min (n + 1) (2 ^ 64 - 1)

-- a read counts, and a status moves the toggle bit; nothing else changes
abbrev pub after_read : Chip → Chip
after_read c = record {
  sectors = c.sectors;
  device = c.device;
  settled = c.settled;
  phase = c.phase;
  last = c.last;
  toggle = cond (is_rest c.phase) c.toggle (not c.toggle);
  reads = counted c.reads;
}
