-- The numbers of the writer's refusals.
use Rattle.std.specs.Prelude.{ℕ}
use Rattle.writer.specs.declared.refusal.WriteRefusal.{WriteRefusal}
use Rattle.writer.specs.declared.refusal.WriteRefusal.TheVariants.{Address, Place}

-- an address that is too high, a place that is too small
abbrev pub write_number : WriteRefusal → ℕ
write_number Address = 1
write_number Place = 5
