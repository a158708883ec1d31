-- Texts that are no name by their length.
use Rattle.std.proofs.Common.{◌≡◌, ℕ, ◌<◌, List, [], ◌∷◌, length, None, Option, refl, arith}
use Rattle.std.proofs.lemmas.Bool.Decides.{nat_tests}
use Rattle.trace.specs.Names.{column_named}
use Rattle.trace.specs.declared.column.Column.{Column}

-- no name has fewer than two letters, or more than four
pub short_name : (s : List ℕ) → length s < 2 → ◌≡◌ {A = Option Column} None (column_named s)
short_name [] l = refl
short_name (a ∷ []) l = grind (arith, nat_tests)
short_name (a ∷ (b ∷ s)) l = absurd (omega arith)

pub long_name : (s : List ℕ) → 4 < length s → ◌≡◌ {A = Option Column} None (column_named s)
long_name [] l = refl
long_name (a ∷ []) l = absurd (omega arith)
long_name (a ∷ (b ∷ [])) l = absurd (omega arith)
long_name (a ∷ (b ∷ (c ∷ []))) l = absurd (omega arith)
long_name (a ∷ (b ∷ (c ∷ (d ∷ [])))) l = absurd (omega arith)
long_name (a ∷ (b ∷ (c ∷ (d ∷ (e ∷ s))))) l = grind (arith, nat_tests)
