-- Reads and loads on a part at rest, as the driver makes them. Assumes nothing.
use Rattle.std.specs.Prelude.{◌≡◌, ℕ, ◌<◌, ◌≤◌, Bool, false, cond, List, [], ◌∷◌, ◌++◌, map, length, Some, ◌==◌, slice_index}
use Rattle.std.proofs.Math.Seq.{paste}
use Rattle.bus.specs.declared.load.Load.{Load}
use Rattle.bus.specs.declared.kind.Kind.{Kind}
use Rattle.bus.specs.declared.kind.Kind.TheVariants.{Coded, Lift}
use Rattle.bus.specs.Choices.{Choice}
use Rattle.bus.specs.Codes.{coded_code, six_code, completes_reserved}
use Rattle.bus.specs.Meaning.{State, Chip, rest, opened, Period, DataLoads, none, one}
use Rattle.bus.specs.Outcomes.{settle}
use Rattle.bus.specs.Periods.{extend, blank, head_with}
use Rattle.bus.specs.Steps.{loaded}
use Rattle.bus.specs.Time.{passed}
use Rattle.settling.specs.Settling.{Same, reads_after}
use Rattle.rows.specs.Rows.{Stored}
use Rattle.driver.specs.DriverRows.{sector_rows}
use Rattle.driver.specs.Settled.{after_write}

-- A part with sectors, at rest. A record and no type of the code with this as its invariant: what the driver then loads ends the rest,
-- so the type would have to be taken apart in the middle of each call.
pub record Ready (c : Chip) : Type 0 where
  pub rests : c.phase ≡ rest
  pub some : 256 ≤ c.sectors
  pub few : c.sectors ≤ 8192

-- such a part, with the sector r
pub record Present (c : Chip) (r : ℕ) : Type 0 where
  pub ready : Ready c
  pub within : r < c.sectors

-- n reads at rest
pub record Quiet (c d : Chip) (n : ℕ) : Type 0 where
  pub same : Same c d
  pub rests : d.phase ≡ rest
  pub reads : d.reads ≡ reads_after c.reads n

-- a read at rest gave the byte x at a
pub record Gave (c d : Chip) (a x : ℕ) : Type 0 where
  pub quiet : Quiet c d 1
  pub byte : x ≡ slice_index c.settled.bytes a

-- one load with gap 1, accepted or not
abbrev pub Puts : Load → Chip → Chip → Type 0
Puts l c d = (w : Choice) × (d ≡ loaded w.fill l (passed w.time 1 c))

-- d is c with the period p open, its last load just made
pub record Opened (c d : Chip) (p : Period) : Type 0 where
  pub sectors : d.sectors ≡ c.sectors
  pub device : d.device ≡ c.device
  pub reads : d.reads ≡ c.reads
  pub fill : List ℕ
  pub filled : length fill ≡ 128
  pub phase : d.phase ≡ opened c.settled p 0
  pub settled : d.settled ≡ settle c.sectors fill c.settled p

-- a period with more loads
abbrev pub extend_all : ℕ → Period → List Load → Period
extend_all n p [] = p
extend_all n p (l ∷ ls) = extend_all n (extend n p l) ls

-- Loads that may follow those of a head: none completes a reserved code, and each address lies in every part that has sectors.
abbrev pub Following : List Load → List Load → Type 0
Following head [] = Unit {0}
Following head (l ∷ ls) = (l.address < 32768) × (completes_reserved head l ≡ false) × Following (head_with head l) ls

-- loads that may open a period
abbrev pub Opening : List Load → Type 0
Opening ls = (0 < length ls) × Following [] ls

-- the codes that data loads follow
pub data Code : Type 0 where
  coded : Code
  lift : Code

abbrev pub code_loads : Code → List Load
code_loads coded = coded_code
code_loads lift = six_code 0x20

abbrev pub code_kind : Code → Kind
code_kind coded = Coded
code_kind lift = Lift

-- a period of this code: its first loads, whether there were more than seven, and its data loads
abbrev pub code_period : Code → List Load → Bool → DataLoads → Period
code_period k ls more d = record { head = code_loads k ++ ls; more = more; loaded = d }

-- d is c with a period of this code open, that has these data loads
abbrev pub Coding : Code → Chip → Chip → DataLoads → Type 0
Coding k c d x = (ls : List Load) × (more : Bool) × Opened c d (code_period k ls more x)

-- the data loads of the first i bytes of sector r
abbrev pub first_of : ℕ → List ℕ → ℕ → DataLoads
first_of r bytes i = cond (i == 0) none (one r (paste blank 0 (map Some bytes) i))

-- d will settle so, and all else is as it was
pub record Sent (c d : Chip) (s : State) : Type 0 where
  pub sectors : d.sectors ≡ c.sectors
  pub device : d.device ≡ c.device
  pub reads : d.reads ≡ c.reads
  pub settled : d.settled ≡ s

-- Each such step from a part at rest sends: the settled state will change so. A step goes between sockets, and these are their parts.
abbrev pub Sends : {S : Type 0} → (S → Chip) → (S → S → Type 0) → (State → State) → Type 0
Sends meaning step after = (s t : _) → Ready (meaning s) → step s t → Sent (meaning s) (meaning t) (after (meaning s).settled)

-- the same after 128 reads
pub record SentBack (c d : Chip) (s : State) : Type 0 where
  pub sectors : d.sectors ≡ c.sectors
  pub device : d.device ≡ c.device
  pub reads : d.reads ≡ reads_after c.reads 128
  pub settled : d.settled ≡ s

-- d will settle with the bytes in sector r, as rows tell it too
pub record Programs (c d : Chip) (r : ℕ) (bytes : List ℕ) : Type 0 where
  pub sent : Sent c d (after_write c.settled r bytes)
  pub stored : Stored (sector_rows c.sectors c.settled) (sector_rows c.sectors (after_write c.settled r bytes)) r bytes
