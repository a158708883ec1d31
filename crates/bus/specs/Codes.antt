-- The codes at the head of a load period, and the kind that they give it. Assumes nothing.
use Rattle.std.specs.Prelude.{ℕ, ◌-◌, ◌*◌, ◌%◌, Bool, true, false, cond, not, ◌&&◌, ◌||◌, List, [], ◌∷◌, ◌++◌, length, ◌==◌, slice_index_or}
use Rattle.bus.specs.declared.load.Load.{Load}
use Rattle.bus.specs.declared.kind.Kind.{Kind}
use Rattle.bus.specs.declared.kind.Kind.TheVariants.{Coded, Lift, Low, High, Plain}
use Rattle.bus.specs.Meaning.{Period}

abbrev pub at : ℕ → ℕ → Load
at a b = record { address = a; byte = b }

-- the two loads that every code begins with
abbrev pub unlock : List Load
unlock = at 0x5555 0xAA ∷ (at 0x2AAA 0x55 ∷ [])

-- what every code of six loads begins with
abbrev pub unlock_twice : List Load
unlock_twice = unlock ++ (at 0x5555 0x80 ∷ unlock)

-- the code of protected programming
abbrev pub coded_code : List Load
coded_code = unlock ++ (at 0x5555 0xA0 ∷ [])

-- the codes of six loads, by the data of the last: 20 lifts protection, 40 locks a boot block
abbrev pub six_code : ℕ → List Load
six_code b = unlock_twice ++ (at 0x5555 b ∷ [])

-- a load of a code: its address is compared in the low 15 bits
abbrev pub matches : Load → Load → Bool
matches c l = l.address % 32768 == c.address && l.byte == c.byte

-- whether the loads begin with the code
abbrev pub begins : List Load → List Load → Bool
begins [] ls = true
begins (c ∷ cs) [] = false
begins (c ∷ cs) (l ∷ ls) = matches c l && begins cs ls

-- whether the loads are the code and no more
abbrev pub exactly : List Load → List Load → Bool
exactly code ls = length ls == length code && begins code ls

-- Reserved codes: identification ends with 90 after the unlock, chip erase with 10 after both unlocks. A load completes
-- one if the period so far is what goes before it.
abbrev pub completes_reserved : List Load → Load → Bool
completes_reserved head l =
    (matches (at 0x5555 0x90) l && exactly unlock head) || (matches (at 0x5555 0x10) l && exactly unlock_twice head)

-- whether the head has seven loads and the last of them is this one, compared in full
abbrev pub seventh_is : List Load → Load → Bool
seventh_is head l = length head == 7 && ((slice_index_or head 6 (at 0 0)).address == l.address && (slice_index_or head 6 (at 0 0)).byte == l.byte)

-- The kind of a period with this head on a part of n sectors. A lockout code is six loads and a seventh, 00 at address 0
-- for the lower boot block or FF at the last address for the upper one, and no more.
abbrev pub kind_of : ℕ → List Load → Bool → Kind
kind_of n head more =
    cond (begins coded_code head) Coded
    (cond (begins (six_code 0x20) head) Lift
    (cond (begins (six_code 0x40) head && not more)
    (cond (seventh_is head (at 0 0)) Low (cond (seventh_is head (at (128 * n - 1) 0xFF)) High Plain))
    Plain))

abbrev pub kind : ℕ → Period → Kind
kind n p = kind_of n p.head p.more
