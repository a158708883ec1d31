-- What each bus call does to a part of a given style: the rules with the part's choices put in. Assumes nothing.
use Rattle.std.specs.Prelude.{◌≡◌, ℕ, ◌+◌, ◌-◌, ◌*◌, ◌/◌, Bool, true, false, cond, not, ◌&&◌, List, Ok, Err, nat_lt, slice_index}
use Rattle.bus.specs.declared.call.Call.{Call}
use Rattle.bus.specs.declared.call.Call.TheVariants as Calls
use Rattle.bus.specs.declared.call.Response.TheVariants.{Byte, Waited, Identified}
use Rattle.bus.specs.declared.refusal.BusRefusal.TheVariants.{Outside}
use Rattle.bus.specs.declared.load.Load.{Load}
use Rattle.bus.specs.Meaning.{none, Phase, rest, opened, cycle, Chip, with_phase}
use Rattle.bus.specs.Periods.{extend, fresh}
use Rattle.bus.specs.Time.{passed, is_rest}
use Rattle.bus.specs.Status.{bit, after_read}
use Rattle.bus.specs.Identification.{identity}
use Rattle.bus.specs.Refusals.{inside, load_refusal}
use Rattle.bus.specs.Steps.{loaded}
use Rattle.bus.specs.History.{Answer, load_answer}
use Rattle.kinds.specs.Style.{Style}
use Rattle.array.specs.Filling.{fill_for}

-- what the sector that a load leaves named would be filled with
abbrev pub fill_at : Style → Load → Chip → Phase → List ℕ
fill_at y l c rest = fill_for y c.settled.bytes (extend c.sectors fresh l).loaded
fill_at y l c (opened s p age) = fill_for y s.bytes (extend c.sectors p l).loaded
fill_at y l c (cycle e t) = fill_for y c.settled.bytes none

abbrev pub loaded_by : Style → Load → Chip → Chip
loaded_by y l c = loaded (fill_at y l c c.phase) l c

-- every address is treated as the one last loaded
abbrev pub status_by : Style → Chip → ℕ
status_by y c = 128 * (1 - c.last.byte / 128) + (64 * bit (not c.toggle) + y.free)

abbrev pub byte_by : Style → Chip → ℕ → ℕ
byte_by y c a = cond (is_rest c.phase) (slice_index c.settled.bytes a) (status_by y c)

-- whether the open period closes as the gap passes
abbrev pub closes : ℕ → Phase → Bool
closes gap rest = false
closes gap (opened s p age) = nat_lt 150 (age + gap)
closes gap (cycle e t) = false

abbrev pub is_open : Phase → Bool
is_open rest = false
is_open (opened s p age) = true
is_open (cycle e t) = false

-- A whole bus call on a part of this style whose next cycle takes this time: the meaning after it, the answer, and whether a period
-- closes in it, whose cycle takes the next cycle time.
abbrev pub after_call : Style → ℕ → Call → Chip → Chip
after_call y t (Calls.Load l gap) c = cond (inside c l.address) (loaded_by y l (passed t gap c)) c
after_call y t (Calls.Read a gap) c = cond (inside c a) (after_read (passed t gap c)) c
after_call y t (Calls.Wait gap) c = passed t gap c
after_call y t Calls.Identify c = with_phase c rest

abbrev pub answer_of : Style → ℕ → Call → Chip → Answer
answer_of y t (Calls.Load l gap) c =
    cond (inside c l.address) (load_answer (load_refusal (passed t gap c).phase l)) (Err Outside)
answer_of y t (Calls.Read a gap) c = cond (inside c a) (Ok (Byte (byte_by y (passed t gap c) a))) (Err Outside)
answer_of y t (Calls.Wait gap) c = Ok Waited
answer_of y t Calls.Identify c = Ok (Identified (identity c))

abbrev pub closes_in : Call → Chip → Bool
closes_in (Calls.Load l gap) c = inside c l.address && closes gap c.phase
closes_in (Calls.Read a gap) c = inside c a && closes gap c.phase
closes_in (Calls.Wait gap) c = closes gap c.phase
closes_in Calls.Identify c = is_open c.phase

-- from the cycle times ts to us: each period that closes takes one
abbrev pub Onward : Bool → (ℕ → ℕ) → (ℕ → ℕ) → Type 0
Onward true ts us = (k : ℕ) → us k ≡ ts (k + 1)
Onward false ts us = us ≡ ts

-- what a part promises of a call beyond the rules of every socket: its own choices
abbrev pub Exactly : Style → Call → Answer → (ℕ → ℕ) → (ℕ → ℕ) → Chip → Chip → Type 0
Exactly y x a ts us c d = (d ≡ after_call y (ts 0) x c) × (a ≡ answer_of y (ts 0) x c) × Onward (closes_in x c) ts us
