-- Whole lists of bus calls on a part of a given style. Assumes nothing.
use Rattle.std.specs.Prelude.{ℕ, ◌+◌, Bool, true, false, List, [], ◌∷◌}
use Rattle.bus.specs.declared.call.Call.{Call}
use Rattle.bus.specs.History.{Answer}
use Rattle.bus.specs.Meaning.{Chip}
use Rattle.kinds.specs.Style.{Style}
use Rattle.chip.specs.Exact.{answer_of, after_call, closes_in}

-- the cycle times to come: each period that closes takes one
abbrev pub times_after : Bool → (ℕ → ℕ) → ℕ → ℕ
times_after true ts = λ k. ts (k + 1)
times_after false ts = ts

-- A whole list of calls: the answers, the meaning after them, and the cycle times still to come.
abbrev pub answers_by : Style → List Call → (ℕ → ℕ) → Chip → List Answer
answers_by y [] ts c = []
answers_by y (x ∷ xs) ts c = answer_of y (ts 0) x c ∷ answers_by y xs (times_after (closes_in x c) ts) (after_call y (ts 0) x c)

abbrev pub chip_by : Style → List Call → (ℕ → ℕ) → Chip → Chip
chip_by y [] ts c = c
chip_by y (x ∷ xs) ts c = chip_by y xs (times_after (closes_in x c) ts) (after_call y (ts 0) x c)

abbrev pub times_by : Style → List Call → (ℕ → ℕ) → Chip → ℕ → ℕ
times_by y [] ts c = ts
times_by y (x ∷ xs) ts c = times_by y xs (times_after (closes_in x c) ts) (after_call y (ts 0) x c)
