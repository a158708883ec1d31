-- New lines for a wiring.
use Rattle.std.specs.Prelude.{◌≡◌, ℕ, List, Result, MatchResult}
use Rattle.wiring.specs.Lines.{EachOnce}
use Rattle.wiring.specs.Refusals.{number}
use Rattle.wiring.specs.declared.refusal.WiringRefusal.{WiringRefusal}

-- From the lines ls to ls', on being given new ones: they are taken where they name each of 0 to 7 once, and else refused
-- by 7, and the lines stay as they were.
abbrev pub Rewires : {X : Type 0} → List ℕ → List ℕ → List ℕ → Result X WiringRefusal → Type 0
Rewires ls ls' new r = MatchResult r (λ _. EachOnce new × (ls' ≡ new)) (λ e. (number e ≡ 7) × (EachOnce new → ⊥) × (ls' ≡ ls))
