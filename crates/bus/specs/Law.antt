-- The law of a part: what the load periods of a history say of the settled state. Assumes nothing.
-- Lists of periods, and of the loads of a period, have the newest first.
use Rattle.std.specs.Prelude.{◌≡◌, ℕ, suc, ◌-◌, ◌*◌, ◌/◌, ◌<◌, Bool, true, false, cond, not, ◌&&◌, List, [], ◌∷◌, reverse, length, take, drop, Some, None, Option, ◌==◌, ◌≢◌, nat_lt, slice_index, slice_index_or}
use Rattle.bus.specs.declared.load.Load.{Load}
use Rattle.bus.specs.declared.kind.Kind.{Kind}
use Rattle.bus.specs.declared.kind.Kind.TheVariants.{Coded, Lift, Low, High, Plain}
use Rattle.bus.specs.Meaning.{State, Chip}
use Rattle.bus.specs.Codes.{kind_of}
use Rattle.bus.specs.Outcomes.{in_locked, protected_after, low_after, high_after}
use Rattle.bus.specs.History.{Step, is_nil, periods_of}

-- the kind of a period with these loads, on a part of n sectors
abbrev pub kind_of_loads : ℕ → List Load → Kind
kind_of_loads n ls = kind_of n (take 7 (reverse ls)) (nat_lt 7 (length ls))

-- the data loads: those after the code, and all loads of a plain period
abbrev pub data_as : Kind → List Load → List Load
data_as Coded ls = take (length ls - 3) ls
data_as Lift ls = take (length ls - 6) ls
data_as Low ls = []
data_as High ls = []
data_as Plain ls = ls

abbrev pub data_loads : ℕ → List Load → List Load
data_loads n ls = data_as (kind_of_loads n ls) ls

-- data protection and the lockout of the two boot blocks
pub record Flags : Type 0 where
  pub protected : Bool
  pub low_locked : Bool
  pub high_locked : Bool

abbrev pub flags_of : State → Flags
flags_of s = record { protected = s.protected; low_locked = s.low_locked; high_locked = s.high_locked }

abbrev pub flags_as : Kind → Flags → Flags
flags_as k f = record { protected = protected_after k f.protected; low_locked = low_after k f.low_locked; high_locked = high_after k f.high_locked }

-- the flags after these periods: each coded period, lift, low and high moves them
abbrev pub flags_after : ℕ → Flags → List (List Load) → Flags
flags_after n f [] = f
flags_after n f (p ∷ ps) = flags_as (kind_of_loads n p) (flags_after n f ps)

-- whether the loads all name sector r
abbrev pub all_in : ℕ → List Load → Bool
all_in r [] = true
all_in r (l ∷ ls) = l.address / 128 == r && all_in r ls

-- coded, or a lift, or plain and opened unprotected
abbrev pub permitted : Kind → Bool → Bool
permitted Coded protected = true
permitted Lift protected = true
permitted Low protected = false
permitted High protected = false
permitted Plain protected = not protected

-- A period that opened under these flags could write the byte at a: it has data loads, all naming that byte's sector, which lies
-- in no locked block, and protection did not keep it out.
abbrev pub could_write : ℕ → Flags → List Load → ℕ → Bool
could_write n f p a =
    (not (is_nil (data_loads n p)) && all_in (a / 128) (data_loads n p))
    && (not (in_locked n f.low_locked f.high_locked (a / 128)) && permitted (kind_of_loads n p) f.protected)

-- the data of the last load at the address, if there is one
abbrev pub last_load_at : ℕ → List Load → Option ℕ
last_load_at a [] = None
last_load_at a (l ∷ ls) = cond (l.address == a) (Some l.byte) (last_load_at a ls)

-- On a part of n sectors with these first flags, the period at place i of the list could write the byte at a. The periods before it
-- stand after it in the list.
abbrev pub CouldWrite : ℕ → Flags → List (List Load) → ℕ → ℕ → Type 0
CouldWrite n f ps i a = (i < length ps) × (could_write n (flags_after n f (drop (suc i) ps)) (slice_index_or ps i []) a ≡ true)

-- it is the latest that could: none of those that stand before it in the list, the later ones, could
abbrev pub LatestWriter : ℕ → Flags → List (List Load) → ℕ → ℕ → Type 0
LatestWriter n f ps i a = CouldWrite n f ps i a × ((j : ℕ) → j < i → CouldWrite n f ps j a → ⊥)

-- the settled byte at a
abbrev pub byte_at : Chip → ℕ → ℕ
byte_at c a = slice_index c.settled.bytes a

-- From c to d, over a history with these periods: a settled byte that differs could be written by some period; if some period could
-- write a byte, and the latest such period has a data load there, the byte is the data of its last data load there; and
-- protection and locks are those that the periods give.
pub record FollowsPeriods (ps : List (List Load)) (c d : Chip) : Type 0 where
  pub changed : (a : ℕ) → a < 128 * c.sectors → (byte_at d a ≢ byte_at c a) → (i : ℕ) × CouldWrite c.sectors (flags_of c.settled) ps i a
  pub written : (a i v : ℕ) → a < 128 * c.sectors → LatestWriter c.sectors (flags_of c.settled) ps i a →
      last_load_at a (data_loads c.sectors (slice_index_or ps i [])) ≡ Some v → byte_at d a ≡ v
  pub protection : d.settled.protected ≡ (flags_after c.sectors (flags_of c.settled) ps).protected
  pub low_lock : d.settled.low_locked ≡ (flags_after c.sectors (flags_of c.settled) ps).low_locked
  pub high_lock : d.settled.high_locked ≡ (flags_after c.sectors (flags_of c.settled) ps).high_locked

-- the law of a whole history
abbrev pub Law : List Step → Chip → Chip → Type 0
Law xs c d = FollowsPeriods (periods_of xs) c d
