-- Eight lines, and a byte seen through them.
use Rattle.std.specs.Prelude.{◌≡◌, ℕ, ◌+◌, ◌*◌, ◌/◌, ◌%◌, ◌^◌, ◌<◌, cond, List, [], ◌∷◌, map, length, ◌==◌, slice_index}
use Rattle.std.specs.List.{range_with_len}

-- how often the lines name v
abbrev pub occurrences : ℕ → List ℕ → ℕ
occurrences v [] = 0
occurrences v (x ∷ xs) = cond (x == v) 1 0 + occurrences v xs

-- there are eight lines, and each of 0 to 7 is named once
abbrev pub EachOnce : List ℕ → Type 0
EachOnce ls = (length ls ≡ 8) × ((v : ℕ) → v < 8 → occurrences v ls ≡ 1)

-- bit i of x
abbrev pub bit : ℕ → ℕ → ℕ
bit i x = (x / 2 ^ i) % 2

-- the byte whose bit i is the bit of b that line i names
abbrev pub crossed : List ℕ → ℕ → ℕ
crossed [] b = 0
crossed (l ∷ ls) b = bit l b + 2 * crossed ls b

-- Bytes xs from below show as ys: each bit of each byte is the bit below that its line names.
pub record Shows (ls xs ys : List ℕ) : Type 0 where
  pub crosses : ys ≡ map (crossed ls) xs
  pub bits : (k i : ℕ) → k < length xs → i < 8 → bit i (slice_index ys k) ≡ bit (slice_index ls i) (slice_index xs k)

-- the line that names v first
abbrev pub position : ℕ → List ℕ → ℕ
position v [] = 0
position v (x ∷ xs) = cond (x == v) 0 (1 + position v xs)

-- the lines that show what each of 0 to 7 below carries
unfoldable pub reversed : List ℕ → List ℕ
reversed ls = map (λ j. position j ls) (range_with_len 0 8)
