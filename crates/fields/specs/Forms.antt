-- The forms of the values in a line.
use Rattle.std.specs.Prelude.{ℕ, ◌+◌, ◌*◌, Bool, false, cond, ◌&&◌, ◌||◌, List, [], ◌∷◌, length, Some, None, Option, ◌==◌, nat_le, nat_lt}
use Rattle.std.specs.Char.{digit_value}
use Rattle.fields.specs.declared.values.Op.{Op}
use Rattle.fields.specs.declared.values.Op.TheVariants.{Load, Read, Wait}

-- the digit of a base that a byte writes; a letter may be capital or small
abbrev pub digit_in : ℕ → ℕ → Option ℕ
digit_in base b = cond (nat_lt (digit_value b) base) (Some (digit_value b)) None

-- the number that digits write after the digits of a number n; none where a byte is no digit
abbrev pub number_after : ℕ → ℕ → List ℕ → Option ℕ
number_after base n [] = Some n
number_after base n (b ∷ t) = elim (digit_in base b) [ None ↦ None | Some d ↦ number_after base (n * base + d) t ]

-- a number of at least `fewest` and at most `most` digits
abbrev pub number_in : ℕ → ℕ → ℕ → List ℕ → Option ℕ
number_in base fewest most t = cond (nat_le fewest (length t) && nat_le (length t) most) (number_after base 0 t) None

abbrev pub at_most : ℕ → Option ℕ → Option ℕ
at_most top None = None
at_most top (Some n) = cond (nat_le n top) (Some n) None

-- how many digits a gap has at most, and how high it goes
abbrev pub gap_digits : ℕ
gap_digits = 5

abbrev pub gap_top : ℕ
gap_top = 65535

-- how many digits an address has at most, and the highest that they write
abbrev pub address_digits : ℕ
address_digits = 5

abbrev pub address_top : ℕ
address_top = 1048575

-- how many digits data has
abbrev pub data_digits : ℕ
data_digits = 2

-- the bytes of the longest line that is written: op, gap, addr and data with single spaces between
abbrev pub longest : ℕ
longest = 1 + 1 + gap_digits + 1 + address_digits + 1 + data_digits

-- op: one letter, L, R or W, capital or small
abbrev pub op_letter : ℕ → Option Op
op_letter b =
    cond (b == 76 || b == 108) (Some Load)
    (cond (b == 82 || b == 114) (Some Read)
    (cond (b == 87 || b == 119) (Some Wait) None))

abbrev pub op_in : List ℕ → Option Op
op_in [] = None
op_in (b ∷ []) = op_letter b
op_in (b ∷ (c ∷ t)) = None

-- gap: one to `gap_digits` decimal digits, and not above the top
abbrev pub gap_in : List ℕ → Option ℕ
gap_in t = at_most gap_top (number_in 10 1 gap_digits t)

-- addr: one to `address_digits` hexadecimal digits
abbrev pub address_in : List ℕ → Option ℕ
address_in t = number_in 16 1 address_digits t

-- data: just `data_digits` hexadecimal digits
abbrev pub data_in : List ℕ → Option ℕ
data_in t = number_in 16 data_digits data_digits t

-- the dash that stands where a cycle has no address or no data
abbrev pub is_dash : List ℕ → Bool
is_dash [] = false
is_dash (b ∷ []) = b == 45
is_dash (b ∷ (c ∷ t)) = false
