-- Loads that begin with a code, compared in pairs. Assumes nothing.
use Rattle.std.proofs.Common.{◌≡◌, ◌<◌, ◌≤◌, false, ◌&&◌, List, [], ◌∷◌, length, refl, ap, arith}
use Rattle.std.proofs.lemmas.Bool.{and_right}
use Rattle.std.specs.List.{list_all, zip}
use Rattle.bus.specs.declared.load.Load.{Load}
use Rattle.bus.specs.Codes.{begins, matches}

pub begins-zip : (code loads : List Load) → length code ≤ length loads → list_all (λ p. matches p.0 p.1) (zip code loads) ≡ begins code loads
begins-zip [] loads h = refl
begins-zip (c ∷ code) [] h = absurd (omega arith)
begins-zip (c ∷ code) (l ∷ loads) h = ap (λ b. matches c l && b) (begins-zip code loads (omega arith))

pub begins-short : (code loads : List Load) → length loads < length code → begins code loads ≡ false
begins-short [] loads h = absurd (omega arith)
begins-short (c ∷ code) [] h = refl
begins-short (c ∷ code) (l ∷ loads) h = and_right _ _ (begins-short code loads (omega arith))
