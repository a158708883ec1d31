-- What closing a load period does to the state of a part, with its own choice for unloaded bytes. Assumes nothing.
use Rattle.std.specs.Prelude.{ℕ, zero, suc, ◌+◌, ◌*◌, List, [], ◌∷◌, Option, slice_index}
use Rattle.bus.specs.Meaning.{State, DataLoads, none, one, several, Period}
use Rattle.bus.specs.Outcomes.{settle, with_sector, programmed}
use Rattle.kinds.specs.Style.{Style}

-- what `count` bytes from `at` on become where they are not loaded
unfoldable pub fill_from : (ℕ → ℕ) → List ℕ → ℕ → ℕ → List ℕ
fill_from h bytes at zero = []
fill_from h bytes at (suc count) = h (slice_index bytes at) ∷ fill_from h bytes (at + 1) count

abbrev pub fill_sector : Style → List ℕ → ℕ → List ℕ
fill_sector y bytes r = fill_from y.filler bytes (128 * r) 128

abbrev pub sector_of : DataLoads → ℕ
sector_of none = 0
sector_of (one r page) = r
sector_of several = 0

abbrev pub fill_for : Style → List ℕ → DataLoads → List ℕ
fill_for y bytes d = fill_sector y bytes (sector_of d)

-- sector r takes the page, and its other bytes what the style makes of them
abbrev pub programmed_by : Style → State → ℕ → List (Option ℕ) → State
programmed_by y s r page = record {
  bytes = with_sector s.bytes r (programmed page (fill_sector y s.bytes r));
  protected = s.protected;
  low_locked = s.low_locked;
  high_locked = s.high_locked;
}

-- the state once the period has closed and its cycle has ended
abbrev pub settle_by : Style → ℕ → State → Period → State
settle_by y n s p = settle n (fill_for y s.bytes p.loaded) s p
