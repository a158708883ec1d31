-- The result of a load period, and the state that it leaves. Assumes nothing.
use Rattle.std.specs.Prelude.{ℕ, ◌-◌, ◌*◌, Bool, true, false, cond, ◌&&◌, ◌||◌, List, [], ◌∷◌, Some, None, Option, nat_le, nat_lt}
use Rattle.std.proofs.Math.Seq.{paste}
use Rattle.std.specs.Option.{unwrap_or}
use Rattle.bus.specs.declared.kind.Kind.{Kind}
use Rattle.bus.specs.declared.kind.Kind.TheVariants.{Coded, Lift, Low, High, Plain}
use Rattle.bus.specs.declared.outcome.Outcome.{Outcome}
use Rattle.bus.specs.declared.outcome.Outcome.TheVariants.{Set, Barred, Empty, Mixed, Locked, Written}
use Rattle.bus.specs.Meaning.{State, DataLoads, none, one, several, Period}
use Rattle.bus.specs.Codes.{kind}

-- The boot blocks are the first and the last 8,192 bytes: of n sectors the first and the last 64.
abbrev pub in_locked : ℕ → Bool → Bool → ℕ → Bool
in_locked n low high r = (low && nat_lt r 64) || (high && nat_le (n - 64) r)

abbrev pub is_locked : ℕ → State → ℕ → Bool
is_locked n s r = in_locked n s.low_locked s.high_locked r

-- the result by the data loads: there are none, or the one sector lies in a locked block or does not, or they name several sectors
abbrev pub outcome_by_data : ℕ → State → DataLoads → Outcome
outcome_by_data n s none = Empty
outcome_by_data n s (one r page) = cond (is_locked n s r) (Locked r) (Written r)
outcome_by_data n s several = Mixed

-- the result of a period that opened in the state s: only plain periods are barred by protection
abbrev pub outcome_of : ℕ → State → Kind → DataLoads → Outcome
outcome_of n s Low d = Set
outcome_of n s High d = Set
outcome_of n s Plain d = cond s.protected Barred (outcome_by_data n s d)
outcome_of n s Coded d = outcome_by_data n s d
outcome_of n s Lift d = outcome_by_data n s d

-- the sector is told of a locked or a written period
abbrev pub sector_told : Outcome → Option ℕ
sector_told Set = None
sector_told Barred = None
sector_told Empty = None
sector_told Mixed = None
sector_told (Locked r) = Some r
sector_told (Written r) = Some r

-- the sector as it is programmed: of each byte the last load, or else what the part chose for it
abbrev pub programmed : List (Option ℕ) → List ℕ → List ℕ
programmed page [] = []
programmed [] (f ∷ fill) = f ∷ fill
programmed (o ∷ page) (f ∷ fill) = unwrap_or o f ∷ programmed page fill

-- the bytes with 128 of them, those of sector r, replaced
abbrev pub with_sector : List ℕ → ℕ → List ℕ → List ℕ
with_sector bytes r row = paste bytes (128 * r) row 128

abbrev pub bytes_with : DataLoads → List ℕ → List ℕ → List ℕ
bytes_with none fill bytes = bytes
bytes_with (one r page) fill bytes = with_sector bytes r (programmed page fill)
bytes_with several fill bytes = bytes

-- only a written period changes bytes
abbrev pub bytes_after : Outcome → DataLoads → List ℕ → List ℕ → List ℕ
bytes_after Set d fill bytes = bytes
bytes_after Barred d fill bytes = bytes
bytes_after Empty d fill bytes = bytes
bytes_after Mixed d fill bytes = bytes
bytes_after (Locked r) d fill bytes = bytes
bytes_after (Written r) d fill bytes = bytes_with d fill bytes

-- a coded period turns protection on, and a lift turns it off, whatever the result
abbrev pub protected_after : Kind → Bool → Bool
protected_after Coded b = true
protected_after Lift b = false
protected_after Low b = b
protected_after High b = b
protected_after Plain b = b

-- low and high lock their block, and nothing unlocks it
abbrev pub low_after : Kind → Bool → Bool
low_after Coded b = b
low_after Lift b = b
low_after Low b = true
low_after High b = b
low_after Plain b = b

abbrev pub high_after : Kind → Bool → Bool
high_after Coded b = b
high_after Lift b = b
high_after Low b = b
high_after High b = true
high_after Plain b = b

abbrev pub settle_as : ℕ → List ℕ → State → Kind → DataLoads → State
settle_as n fill s k d = record {
  bytes = bytes_after (outcome_of n s k d) d fill s.bytes;
  protected = protected_after k s.protected;
  low_locked = low_after k s.low_locked;
  high_locked = high_after k s.high_locked;
}

-- the state once the period, which opened in the state s, has closed and its cycle has ended
abbrev pub settle : ℕ → List ℕ → State → Period → State
settle n fill s p = settle_as n fill s (kind n p) p.loaded
