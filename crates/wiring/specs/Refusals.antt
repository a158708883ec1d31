-- The number of a refused wiring, and its words.
use Rattle.std.specs.Prelude.{ℕ, List, codes}
use Rattle.wiring.specs.declared.refusal.WiringRefusal.{WiringRefusal}
use Rattle.wiring.specs.declared.refusal.WiringRefusal.TheVariants.{NotOnce}

abbrev pub number : WiringRefusal → ℕ
number NotOnce = 7

abbrev pub words : WiringRefusal → List ℕ
words NotOnce = codes "not each line once"
