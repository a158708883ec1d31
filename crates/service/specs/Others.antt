-- Calls of other software on the bus. Assumes nothing.
use Rattle.std.specs.Prelude.{Bool, true, not, List}
use Rattle.std.specs.List.{list_all}
use Rattle.bus.specs.Codes.{at, matches}
use Rattle.bus.specs.declared.call.Call as Bus
use Rattle.bus.specs.declared.call.Call.TheVariants as Calls
use Rattle.service.specs.declared.calls.OthersCall.{OthersCall}
use Rattle.service.specs.declared.calls.OthersCall.TheVariants.{Load, Read, Wait}
use Rattle.service.specs.declared.calls.ServiceCall.{ServiceCall}
use Rattle.service.specs.declared.calls.ServiceCall.TheVariants.{Others}

-- as a call on the bus
abbrev pub bus_call : OthersCall → Bus.Call
bus_call (Load l gap) = Calls.Load l gap
bus_call (Read a gap) = Calls.Read a gap
bus_call (Wait gap) = Calls.Wait gap

-- No code is complete without its second load, 55 at 2AAA. Other software that never makes it can neither lift protection
-- nor write past it.
abbrev pub harmless_call : OthersCall → Bool
harmless_call (Load l gap) = not (matches (at 0x2AAA 0x55) l)
harmless_call _ = true

abbrev pub harmless : ServiceCall → Bool
harmless (Others x) = harmless_call x
harmless _ = true

abbrev pub all_harmless : List ServiceCall → Bool
all_harmless xs = list_all harmless xs
