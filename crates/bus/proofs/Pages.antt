-- A page laid over a filling, and a sector written byte by byte. Assumes nothing.
use Rattle.std.proofs.Common.{◌≡◌, ℕ, zero, suc, ◌<◌, List, [], ◌∷◌, length, get_or, None, Option, unwrap_or, refl, arith}
use Rattle.bus.specs.Outcomes.{programmed}

pub get_or-programmed : (os : List (Option ℕ)) (fs : List ℕ) (i d : ℕ) → i < length fs → get_or (programmed os fs) i d ≡ unwrap_or (get_or os i None) (get_or fs i d)
get_or-programmed os [] i d h = absurd (omega arith)
get_or-programmed [] (f ∷ fs) i d h = refl
get_or-programmed (x ∷ os) (f ∷ fs) zero d h = refl
get_or-programmed (x ∷ os) (f ∷ fs) (suc i) d h = get_or-programmed os fs i d (omega arith)
