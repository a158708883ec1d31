-- How a load joins a load period. Assumes nothing.
use Rattle.std.specs.Prelude.{ℕ, ◌/◌, ◌%◌, Bool, true, false, cond, ◌||◌, List, [], ◌∷◌, ◌++◌, length, replicate, Some, None, Option, ◌==◌, nat_lt, slice_set}
use Rattle.bus.specs.declared.load.Load.{Load}
use Rattle.bus.specs.declared.kind.Kind.{Kind}
use Rattle.bus.specs.declared.kind.Kind.TheVariants.{Coded, Lift, Low, High, Plain}
use Rattle.bus.specs.Meaning.{DataLoads, none, one, several, Period}
use Rattle.bus.specs.Codes.{kind, kind_of}

-- a page of which no byte is loaded
abbrev pub blank : List (Option ℕ)
blank = replicate 128 None

-- One data load more. The address a lies in sector a div 128.
abbrev pub add_data : DataLoads → Load → DataLoads
add_data none l = one (l.address / 128) (slice_set blank (l.address % 128) (Some l.byte))
add_data (one s page) l = cond (l.address / 128 == s) (one s (slice_set page (l.address % 128) (Some l.byte))) several
add_data several l = several

abbrev pub is_lockout : Kind → Bool
is_lockout Coded = false
is_lockout Lift = false
is_lockout Low = true
is_lockout High = true
is_lockout Plain = false

-- The data loads once a load has joined, by the kind before it, the kind with it, and the number of loads before it.
-- The loads of a complete code are no data loads. A load too many after a lockout code makes the period plain, so that all its
-- loads are data loads, and those of the code name two sectors.
abbrev pub data_with : Kind → Kind → ℕ → DataLoads → Load → DataLoads
data_with old Coded before d l = cond (before == 2) none (add_data d l)
data_with old Lift before d l = cond (before == 5) none (add_data d l)
data_with old Low before d l = none
data_with old High before d l = none
data_with old Plain before d l = cond (is_lockout old) several (add_data d l)

abbrev pub head_with : List Load → Load → List Load
head_with head l = cond (nat_lt (length head) 7) (head ++ (l ∷ [])) head

abbrev pub more_with : List Load → Bool → Bool
more_with head more = more || length head == 7

-- the period with one load more, on a part of n sectors
abbrev pub extend : ℕ → Period → Load → Period
extend n p l = record {
  head = head_with p.head l;
  more = more_with p.head p.more;
  loaded = data_with (kind n p) (kind_of n (head_with p.head l) (more_with p.head p.more)) (length p.head) p.loaded l;
}

-- a period that has no loads yet
abbrev pub fresh : Period
fresh = record { head = []; more = false; loaded = none }
