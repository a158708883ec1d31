-- How each bus call moves the meaning of a part. A call holds by some choice of the part's. Assumes nothing.
use Rattle.std.specs.Prelude.{◌≡◌, ℕ, cond, List, Some, Ok, Err, MatchBool, Option, Result}
use Rattle.bus.specs.declared.load.Load.{Load}
use Rattle.bus.specs.declared.identity.Identity.{Identity}
use Rattle.bus.specs.declared.refusal.BusRefusal.{BusRefusal}
use Rattle.bus.specs.declared.refusal.BusRefusal.TheVariants.{Outside}
use Rattle.bus.specs.Meaning.{State, Period, Phase, rest, opened, cycle, Chip, with_phase}
use Rattle.bus.specs.Codes.{completes_reserved}
use Rattle.bus.specs.Periods.{extend, fresh}
use Rattle.bus.specs.Outcomes.{settle}
use Rattle.bus.specs.Time.{passed}
use Rattle.bus.specs.Choices.{Choice}
use Rattle.bus.specs.Status.{after_read, read_byte}
use Rattle.bus.specs.Identification.{identity}
use Rattle.bus.specs.Refusals.{inside, load_refusal}

-- A load has joined the period p, which opened in the state s: the settled state is what the period would now leave.
abbrev pub with_load : List ℕ → State → Period → Load → Chip → Chip
with_load fill s p l c = record {
  sectors = c.sectors;
  device = c.device;
  settled = settle c.sectors fill s (extend c.sectors p l);
  phase = opened s (extend c.sectors p l) 0;
  last = l;
  toggle = c.toggle;
  reads = c.reads;
}

-- a load at rest opens a period, a load in an open period joins it, and a refused load does nothing
abbrev pub loaded_in : List ℕ → Load → Chip → Phase → Chip
loaded_in fill l c rest = with_load fill c.settled fresh l c
loaded_in fill l c (opened s p age) = cond (completes_reserved p.head l) c (with_load fill s p l c)
loaded_in fill l c (cycle e t) = c

abbrev pub loaded : List ℕ → Load → Chip → Chip
loaded fill l c = loaded_in fill l c c.phase

abbrev pub LoadsInside : Load → ℕ → Chip → Chip → Option BusRefusal → Type 0
LoadsInside l gap c d refusal =
    (w : Choice) × (d ≡ loaded w.fill l (passed w.time gap c)) × (refusal ≡ load_refusal (passed w.time gap c).phase l)

-- a load: outside the part not even time passes
abbrev pub Loads : Load → ℕ → Chip → Chip → Option BusRefusal → Type 0
Loads l gap c d refusal =
    MatchBool (inside c l.address) (LoadsInside l gap c d refusal) ((d ≡ c) × (refusal ≡ Some Outside))

abbrev pub ReadsInside : ℕ → ℕ → Chip → Chip → Result ℕ BusRefusal → Type 0
ReadsInside a gap c d r =
    (w : Choice) × (d ≡ after_read (passed w.time gap c)) × (r ≡ Ok (read_byte w (passed w.time gap c) a))

-- a read: outside the part not even time passes
abbrev pub Reads : ℕ → ℕ → Chip → Chip → Result ℕ BusRefusal → Type 0
Reads a gap c d r = MatchBool (inside c a) (ReadsInside a gap c d r) ((d ≡ c) × (r ≡ Err Outside))

abbrev pub Waits : ℕ → Chip → Chip → Type 0
Waits gap c d = (w : Choice) × (d ≡ passed w.time gap c)

-- identification lets the period close and the cycle end
abbrev pub Identifies : Chip → Chip → Identity → Type 0
Identifies c d r = (d ≡ with_phase c rest) × (r ≡ identity c)
