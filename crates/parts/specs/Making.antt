-- What a new part is. Assumes nothing.
use Rattle.std.specs.Prelude.{ℕ, List, [], Some, None, Option}
use Rattle.kinds.specs.declared.refusal.PartRefusal.{PartRefusal}
use Rattle.bus.specs.Meaning.{Chip}
use Rattle.kinds.specs.Style.{Style}
use Rattle.array.specs.Meaning.{new_state}
use Rattle.chip.specs.Meaning.{new_chip}

-- The first contents are the memory's bytes; a part made against the check has no sectors.
abbrev pub made_as : Style → Option PartRefusal → ℕ → ℕ → List ℕ → Chip
made_as y None n device memory = new_chip y n device (new_state memory)
made_as y (Some e) n device memory = new_chip y 0 device (new_state [])
