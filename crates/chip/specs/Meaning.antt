-- What a part means. Assumes nothing.
use Rattle.std.specs.Prelude.{◌≡◌, ℕ, ◌-◌, ◌*◌, ◌^◌, ◌<◌, min, Bool, false, cond, not, Some, None, Ok, Err, Option, Result, nat_lt}
use Rattle.chip.specs.declared.phase.Phase.{Phase as Stage}
use Rattle.chip.specs.declared.phase.Phase.TheVariants.{Rest, Open, Cycle}
use Rattle.chip.specs.declared.phase.Event.{Event}
use Rattle.chip.specs.declared.phase.Event.TheVariants.{Gap, Load, Read, Identify}
use Rattle.chip.specs.declared.part.Part.{Part}
use Rattle.bus.specs.declared.load.Load as Bus
use Rattle.bus.specs.declared.refusal.BusRefusal.{BusRefusal}
use Rattle.bus.specs.declared.call.Call.{Call}
use Rattle.bus.specs.declared.refusal.BusRefusal.TheVariants.{Outside}
use Rattle.bus.specs.Meaning.{State, Period, Phase, rest, opened, cycle, Chip, with_phase}
use Rattle.bus.specs.Codes.{at}
use Rattle.bus.specs.Periods.{extend}
use Rattle.bus.specs.Time.{running, passed}
use Rattle.bus.specs.Status.{after_read}
use Rattle.bus.specs.Refusals.{inside, load_refusal}
use Rattle.bus.specs.History.{Answer}
use Rattle.period.specs.Meaning.{period_of}
use Rattle.kinds.specs.Style.{Style, nearest}
use Rattle.array.specs.Meaning as array
use Rattle.array.specs.Filling.{settle_by}
use Rattle.chip.specs.Exact.{loaded_by, byte_by, closes, is_open, Onward, Exactly}

-- the number of sectors, and the state in the array: before the open period, while there is one
abbrev pub count_of : {B : Type 0} → Part B → ℕ
count_of p = array.count_of p.array

abbrev pub stored : {B : Type 0} → Part B → State
stored p = array.state_of p.array

-- the settled state and the phase, by the state in the cells and the open period
abbrev pub settled_at : Style → Stage → ℕ → State → Period → State
settled_at y Rest n s p = s
settled_at y (Open age) n s p = settle_by y n s p
settled_at y (Cycle e t) n s p = s

abbrev pub phase_at : Stage → State → Period → Phase
phase_at Rest s p = rest
phase_at (Open age) s p = opened s p (min age 150)
phase_at (Cycle e t) s p = cycle (min e (nearest t - 1)) (nearest t)

-- what closing a period leaves alone
pub record Frame : Type 0 where
  pub sectors : ℕ
  pub device : ℕ
  pub last : Bus.Load
  pub toggle : Bool
  pub reads : ℕ

abbrev pub frame : {B : Type 0} → Part B → Frame
frame p = record { sectors = count_of p; device = p.device; last = p.last; toggle = p.toggle; reads = p.reads }

abbrev pub chip_with : Frame → State → Phase → Chip
chip_with f s q = record {
  sectors = f.sectors;
  device = f.device;
  settled = s;
  phase = q;
  last = f.last;
  toggle = f.toggle;
  reads = min f.reads (2 ^ 64 - 1);
}

abbrev pub meant : {B : Type 0} → Style → Part B → Chip
meant y p =
    chip_with (frame p) (settled_at y p.phase (count_of p) (stored p) (period_of (count_of p) p.period)) (phase_at p.phase (stored p) (period_of (count_of p) p.period))

-- the part now means this, and its behaviour is as it was
abbrev pub MovesTo : {B : Type 0} → Style → Part B → Part B → Chip → Type 0
MovesTo y p q c = (meant y q ≡ c) × (q.behaviour ≡ p.behaviour)

-- the address lies inside the part
abbrev pub Within : Event → ℕ → Type 0
Within (Gap g) n = Unit {0}
Within (Load l) n = l.address < 128 * n
Within (Read a) n = a < 128 * n
Within Identify n = Unit {0}

-- what an event gets: a read its byte, and nothing else anything
abbrev pub Reply : Type 0
Reply = Result (Option ℕ) BusRefusal

abbrev pub reply_to : Option BusRefusal → Reply
reply_to None = Ok None
reply_to (Some e) = Err e

-- what an event does: to the part's meaning, to its cycle times to come, and the reply
abbrev pub Stepped : Style → Event → (ℕ → ℕ) → (ℕ → ℕ) → Chip → Chip → Reply → Type 0
Stepped y (Gap g) ts us c d r = (d ≡ passed (ts 0) g c) × (r ≡ Ok None) × Onward (closes g c.phase) ts us
Stepped y (Load l) ts us c d r = (d ≡ loaded_by y l c) × (r ≡ reply_to (load_refusal c.phase l)) × (us ≡ ts)
Stepped y (Read a) ts us c d r = (d ≡ after_read c) × (r ≡ Ok (Some (byte_by y c a))) × (us ≡ ts)
Stepped y Identify ts us c d r = (d ≡ with_phase c rest) × (r ≡ Ok None) × Onward (is_open c.phase) ts us

-- the gap has passed, if the address lies inside the part; else nothing has happened
abbrev pub Reached : Style → ℕ → ℕ → (ℕ → ℕ) → (ℕ → ℕ) → Chip → Chip → Option BusRefusal → Type 0
Reached y a g ts us c d None = (a < 128 * c.sectors) × (d ≡ passed (ts 0) g c) × Onward (closes g c.phase) ts us
Reached y a g ts us c d (Some e) = (e ≡ Outside) × (inside c a ≡ false) × (d ≡ c) × (us ≡ ts)

-- the part once its open period has grown to this age, its next cycle taking this time
abbrev pub grown : {B : Type 0} → Style → Part B → ℕ → ℕ → Chip
grown y p time age =
    cond (nat_lt 150 age) (chip_with (frame p) (settle_by y (count_of p) (stored p) (period_of (count_of p) p.period)) (running time (age - 150)))
    (chip_with (frame p) (settle_by y (count_of p) (stored p) (period_of (count_of p) p.period)) (opened (stored p) (period_of (count_of p) p.period) age))

-- the part with one load more in the period q
abbrev pub joined_to : {B : Type 0} → Style → Part B → Period → Bus.Load → Chip
joined_to y p q l = record {
  sectors = count_of p;
  device = p.device;
  settled = settle_by y (count_of p) (stored p) (extend (count_of p) q l);
  phase = opened (stored p) (extend (count_of p) q l) 0;
  last = l;
  toggle = p.toggle;
  reads = min p.reads (2 ^ 64 - 1);
}

-- a part's own promise, its cycle times being told by its behaviour
abbrev pub Promised : {B : Type 0} → Style → (B → ℕ → ℕ) → Part B → Call → Answer → Part B → Type 0
Promised y times p x a q = Exactly y x a (times p.behaviour) (times q.behaviour) (meant y p) (meant y q)

-- at rest, with no reads yet; the first status shows the style's first bit 6
abbrev pub new_chip : Style → ℕ → ℕ → State → Chip
new_chip y n device state = record {
  sectors = n;
  device = device;
  settled = state;
  phase = rest;
  last = at 0 0;
  toggle = not y.first;
  reads = 0;
}
