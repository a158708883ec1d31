-- Histories of bus calls with their answers, and the load periods that they tell. Assumes nothing.
-- The periods are told by the calls and answers alone. Lists of periods, and of the loads of a period, have the newest first.
use Rattle.std.specs.Prelude.{◌≡◌, ℕ, ◌+◌, Bool, true, false, cond, not, ◌&&◌, List, [], ◌∷◌, Some, None, Ok, Err, Option, Result, nat_le}
use Rattle.bus.specs.declared.load.Load.{Load}
use Rattle.bus.specs.declared.identity.Identity.{Identity}
use Rattle.bus.specs.declared.call.Call.{Call}
use Rattle.bus.specs.declared.call.Call.TheVariants as Calls
use Rattle.bus.specs.declared.call.Response.{Response}
use Rattle.bus.specs.declared.call.Response.TheVariants.{Loaded, Byte, Waited, Identified}
use Rattle.bus.specs.declared.refusal.BusRefusal.{BusRefusal}
use Rattle.bus.specs.declared.refusal.BusRefusal.TheVariants.{Outside, Busy, ReservedCode}
use Rattle.bus.specs.Meaning.{Chip}
use Rattle.bus.specs.Steps.{Loads, Reads, Waits, Identifies}

-- what a bus call answers: what it gives, or why it is refused
abbrev pub Answer : Type 0
Answer = Result Response BusRefusal

-- a call with its answer
pub record Step : Type 0 where
  pub call : Call
  pub answer : Answer

-- calls beside their answers
abbrev pub history : List Call → List Answer → List Step
history [] os = []
history (x ∷ xs) [] = []
history (x ∷ xs) (o ∷ os) = record { call = x; answer = o } ∷ history xs os

-- what the results of load and read are as answers
abbrev pub load_answer : Option BusRefusal → Answer
load_answer None = Ok Loaded
load_answer (Some e) = Err e

abbrev pub read_answer : Result ℕ BusRefusal → Answer
read_answer (Ok b) = Ok (Byte b)
read_answer (Err e) = Err e

-- the call moves the meaning from c to d by the rules, and this is its answer
abbrev pub Answered : Call → Answer → Chip → Chip → Type 0
Answered (Calls.Load l gap) a c d = (refusal : Option BusRefusal) × Loads l gap c d refusal × (a ≡ load_answer refusal)
Answered (Calls.Read p gap) a c d = (r : Result ℕ BusRefusal) × Reads p gap c d r × (a ≡ read_answer r)
Answered (Calls.Wait gap) a c d = Waits gap c d × (a ≡ Ok Waited)
Answered Calls.Identify a c d = (r : Identity) × Identifies c d r × (a ≡ Ok (Identified r))

-- every call of the history, one after the other
abbrev pub Run : List Step → Chip → Chip → Type 0
Run [] c d = d ≡ c
Run (x ∷ xs) c d = (m : Chip) × Answered x.call x.answer c m × Run xs m d

-- a socket's own promise, kept at every call
abbrev pub Kept : {S : Type 0} → (S → Call → Answer → S → Type 0) → List Step → S → S → Type 0
Kept R [] s t = t ≡ s
Kept {S = S} R (x ∷ xs) s t = (m : S) × R s x.call x.answer m × Kept R xs m t

abbrev pub refusal_of : Answer → Option BusRefusal
refusal_of (Ok r) = None
refusal_of (Err e) = Some e

-- the time that passes in a call with this gap: none where its address lay outside the part
abbrev pub time_of : Option BusRefusal → ℕ → ℕ
time_of None gap = gap
time_of (Some Outside) gap = 0
time_of (Some Busy) gap = gap
time_of (Some ReservedCode) gap = gap

-- The periods so far: the earlier ones, the loads of the latest that a load may still join (none after an identify), and the time
-- since the last load.
pub record Told : Type 0 where
  pub earlier : List (List Load)
  pub latest : List Load
  pub since : ℕ

abbrev pub is_nil : List Load → Bool
is_nil [] = true
is_nil (l ∷ ls) = false

abbrev pub with_period : List (List Load) → List Load → List (List Load)
with_period ps [] = ps
with_period ps (l ∷ ls) = (l ∷ ls) ∷ ps

abbrev pub all : Told → List (List Load)
all t = with_period t.earlier t.latest

abbrev pub later : ℕ → Told → Told
later time t = record { earlier = t.earlier; latest = t.latest; since = t.since + time }

-- An accepted load belongs to the latest period if at most 150 microseconds lie between it and the load before, else it
-- begins a period. A refused load only lets its time pass.
abbrev pub tell_load : Load → ℕ → Option BusRefusal → Told → Told
tell_load l gap None t =
    cond (not (is_nil t.latest) && nat_le (t.since + gap) 150)
    (record { earlier = t.earlier; latest = l ∷ t.latest; since = 0 })
    (record { earlier = all t; latest = l ∷ []; since = 0 })
tell_load l gap (Some e) t = later (time_of (Some e) gap) t

abbrev pub tell : Call → Option BusRefusal → Told → Told
tell (Calls.Load l gap) refusal t = tell_load l gap refusal t
tell (Calls.Read a gap) refusal t = later (time_of refusal gap) t
tell (Calls.Wait gap) refusal t = later gap t
tell Calls.Identify refusal t = record { earlier = all t; latest = []; since = 0 }

abbrev pub tell_all : List Step → Told → Told
tell_all [] t = t
tell_all (x ∷ xs) t = tell_all xs (tell x.call (refusal_of x.answer) t)

-- the periods of a history; the latest counts as it stands
abbrev pub periods_of : List Step → List (List Load)
periods_of xs = all (tell_all xs (record { earlier = []; latest = []; since = 0 }))
