-- A list taken in turn, over and over. Assumes nothing.
use Rattle.std.proofs.Common.{◌≡◌, ℕ, ◌+◌, ◌%◌, List, [], ◌∷◌, length, get_or, refl, ap, ◌∙◌, add_assoc, add_comm}
use native.Mathlib.Nat.{mod-add-mod}
use Rattle.kinds.specs.Style.{nearest, uneven_times}

mod_on : (n a k : ℕ) → (a % n + 1 + k) % n ≡ (a + (k + 1)) % n
mod_on n a k =
    ap (λ (j : ℕ). j % n) (add_assoc (a % n) 1 k ∙ ap (λ (j : ℕ). a % n + j) (add_comm 1 k)) ∙ mod-add-mod a n (k + 1)

pub turn_next : (ts : List ℕ) (at k : ℕ) → uneven_times ts (at % length ts + 1) k ≡ uneven_times ts at (k + 1)
turn_next [] at k = refl
turn_next (t ∷ ts) at k = ap (λ (j : ℕ). nearest (get_or (t ∷ ts) j 0)) (mod_on (length (t ∷ ts)) at k)
