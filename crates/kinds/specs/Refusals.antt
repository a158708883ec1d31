-- The refusals of the check: their numbers, and when each is met. Assumes nothing.
use Rattle.std.specs.Prelude.{ℕ, ◌*◌, cond, ◌&&◌, List, length, Some, None, Option, ◌==◌, nat_le}
use Rattle.kinds.specs.declared.refusal.PartRefusal.{PartRefusal}
use Rattle.kinds.specs.declared.refusal.PartRefusal.TheVariants.{Memory, CycleTime}

abbrev pub part_number : PartRefusal → ℕ
part_number Memory = 8
part_number CycleTime = 9

-- a cycle time is 1 to 10,000
abbrev pub time_fault : ℕ → Option PartRefusal
time_fault time = cond (nat_le 1 time && nat_le time 10000) None (Some CycleTime)

-- first the memory, which must be the n sectors of 128 bytes, and then what the behaviour's own check finds
abbrev pub part_refusal : ℕ → List ℕ → Option PartRefusal → Option PartRefusal
part_refusal n memory fault = cond (length memory == 128 * n) fault (Some Memory)
