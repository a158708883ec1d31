-- The line that is written of a cycle, and the place that it is written into.
use Rattle.std.specs.Prelude.{◌≡◌, ℕ, zero, suc, ◌+◌, ◌/◌, ◌%◌, ◌≤◌, Bool, false, cond, List, [], ◌∷◌, ◌++◌, length, take, drop, Some, None, Ok, Err, decimal, Option, Result, nat_lt}
use Rattle.fields.specs.Forms.{address_digits, address_top, data_digits, longest}
use Rattle.writer.specs.Refusals.{write_number}
use Rattle.trace.specs.Naming.{standard_order}
use Rattle.trace.specs.Lines.{value_line}
use Rattle.fields.specs.Splitting.{joined}
use Rattle.trace.specs.declared.cycle.Cycle.{Cycle}
use Rattle.trace.specs.declared.cycle.Cycle.TheVariants.{Load, Read, Wait}
use Rattle.writer.specs.declared.refusal.WriteRefusal.{WriteRefusal}

-- the capital digit of a number below 16
abbrev pub hex_char : ℕ → ℕ
hex_char d = cond (nat_lt d 10) (48 + d) (55 + d)

-- a number in this many hexadecimal digits
abbrev pub hex_text : ℕ → ℕ → List ℕ
hex_text zero n = []
hex_text (suc k) n = hex_text k (n / 16) ++ (hex_char (n % 16) ∷ [])

-- the letter of an op: L, R or W
abbrev pub letter_of : Cycle → ℕ
letter_of (Load g a d) = 76
letter_of (Read g a) = 82
letter_of (Wait g) = 87

abbrev pub gap_of : Cycle → ℕ
gap_of (Load g a d) = g
gap_of (Read g a) = g
gap_of (Wait g) = g

-- the data; 0 where there is none
abbrev pub data_of : Cycle → ℕ
data_of (Load g a d) = d
data_of (Read g a) = 0
data_of (Wait g) = 0

-- the address, and the data, where there is one
abbrev pub address_of : Cycle → Option ℕ
address_of (Load g a d) = Some a
address_of (Read g a) = Some a
address_of (Wait g) = None

abbrev pub byte_of : Cycle → Option ℕ
byte_of (Load g a d) = Some d
byte_of (Read g a) = None
byte_of (Wait g) = None

-- a value in this many hexadecimal digits, or a dash
abbrev pub value_text : ℕ → Option ℕ → List ℕ
value_text k None = 45 ∷ []
value_text k (Some n) = hex_text k n

-- the address in all its digits, or a dash
abbrev pub addr_text : Cycle → List ℕ
addr_text (Load g a d) = hex_text address_digits a
addr_text (Read g a) = hex_text address_digits a
addr_text (Wait g) = 45 ∷ []

-- the data, or a dash
abbrev pub data_text : Cycle → List ℕ
data_text (Load g a d) = hex_text data_digits d
data_text (Read g a) = 45 ∷ []
data_text (Wait g) = 45 ∷ []

-- the line of a cycle: op, gap, addr and data; the gap has no leading zeros
unfoldable pub text_of : Cycle → List ℕ
text_of x = joined (letter_of x ∷ []) (decimal (gap_of x)) (addr_text x) (data_text x)

-- an address above what the digits can write; a wait has none
abbrev pub too_high : Cycle → Bool
too_high (Load g a d) = nat_lt address_top a
too_high (Read g a) = nat_lt address_top a
too_high (Wait g) = false

-- the number of the first check that fails, for a place of n bytes: 1 the address, then 5 the place
abbrev pub first_failed : Cycle → ℕ → Option ℕ
first_failed x n = cond (too_high x) (Some 1) (cond (nat_lt n longest) (Some 5) None)

-- a text w of n bytes at the front of a place, which was p and is q: behind it the place is as it was
pub record Fronts (p w : List ℕ) (n : ℕ) (q : List ℕ) : Type 0 where
  pub count : n ≡ length w
  pub within : n ≤ length q
  pub front : take n q ≡ w
  pub back : drop n q ≡ drop n p

-- a cycle written into a place: its line at the front; a cycle that is refused leaves the place as it was
abbrev pub Wrote : Cycle → List ℕ → Result ℕ WriteRefusal → List ℕ → Type 0
Wrote x p (Ok n) q = (first_failed x (length p) ≡ None) × Fronts p (text_of x) n q
Wrote x p (Err e) q = (first_failed x (length p) ≡ Some (write_number e)) × (q ≡ p)

-- the line of a cycle that was written reads as that cycle, in the order in which it is written
abbrev pub ReadsBack : Cycle → Result ℕ WriteRefusal → Type 0
ReadsBack x (Ok n) = value_line standard_order (text_of x) ≡ Ok x
ReadsBack x (Err e) = Unit {0}

-- a cycle that is written and read back: the line at the front of the place is read, and it is that cycle
abbrev pub RoundTrip : Cycle → List ℕ → Result Cycle WriteRefusal → List ℕ → Type 0
RoundTrip x p (Ok y) q = (y ≡ x) × (n : ℕ) × Wrote x p (Ok n) q × (value_line standard_order (take n q) ≡ Ok y)
RoundTrip x p (Err e) q = Wrote x p (Err e) q
