-- What the periods of a history say of one byte, as a value. Assumes nothing.
use Rattle.std.proofs.Common.{◌≡◌, ℕ, cond, List, [], ◌∷◌, Some, None, Option}
use Rattle.bus.specs.declared.load.Load.{Load}
use Rattle.bus.specs.Law.{Flags, flags_after, could_write, last_load_at, data_loads}

-- the byte at a, which was first this, or nothing where it is the part's choice
abbrev pub expected : ℕ → Flags → List (List Load) → ℕ → ℕ → Option ℕ
expected n f [] a first = Some first
expected n f (p ∷ ps) a first = cond (could_write n (flags_after n f ps) p a) (last_load_at a (data_loads n p)) (expected n f ps a first)

abbrev pub Meets : Option ℕ → ℕ → Type 0
Meets None b = Unit {0}
Meets (Some v) b = b ≡ v
