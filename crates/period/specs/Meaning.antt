-- The load period that an OpenPeriod means, on a part of n sectors. Assumes nothing.
use Rattle.std.specs.Prelude.{ℕ, ◌*◌, cond, List, Option, nat_lt}
use Rattle.bus.specs.declared.load.Load.{Load}
use Rattle.period.specs.declared.open.OpenPeriod.{OpenPeriod}
use Rattle.bus.specs.Meaning.{Period}
use Rattle.bus.specs.Periods.{extend}
use Rattle.period.specs.declared.page.Target.{Target}
use Rattle.period.specs.Data.{target_of, data_of}

abbrev pub head_of : OpenPeriod → List Load
head_of p = p.head.loads.items

abbrev pub target_in : ℕ → OpenPeriod → Target
target_in n p = target_of n p.data_loads.target

abbrev pub page_of : OpenPeriod → List (Option ℕ)
page_of p = p.data_loads.page

abbrev pub period_of : ℕ → OpenPeriod → Period
period_of n p = record { head = head_of p; more = p.head.more; loaded = data_of n p.data_loads }

-- one load more, if its address lies inside the part
abbrev pub extend_inside : ℕ → Period → Load → Period
extend_inside n p l = cond (nat_lt l.address (128 * n)) (extend n p l) p
