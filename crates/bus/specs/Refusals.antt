-- The refusals of the bus: their numbers, and when a load meets one. Assumes nothing.
use Rattle.std.specs.Prelude.{ℕ, ◌*◌, Bool, cond, Some, None, Option, nat_lt}
use Rattle.bus.specs.declared.load.Load.{Load}
use Rattle.bus.specs.declared.refusal.BusRefusal.{BusRefusal}
use Rattle.bus.specs.declared.refusal.BusRefusal.TheVariants.{Outside, Busy, ReservedCode}
use Rattle.bus.specs.Meaning.{Phase, rest, opened, cycle, Chip}
use Rattle.bus.specs.Codes.{completes_reserved}

abbrev pub bus_number : BusRefusal → ℕ
bus_number Outside = 1
bus_number Busy = 2
bus_number ReservedCode = 3

-- 1: whether an address lies inside the part
abbrev pub inside : Chip → ℕ → Bool
inside c a = nat_lt a (128 * c.sectors)

-- 2 and 3: what refuses a load that lies inside, in the phase that its gap has led to
abbrev pub load_refusal : Phase → Load → Option BusRefusal
load_refusal rest l = None
load_refusal (opened s p age) l = cond (completes_reserved p.head l) (Some ReservedCode) None
load_refusal (cycle e t) l = Some Busy
