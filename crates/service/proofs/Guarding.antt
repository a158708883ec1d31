-- Lists of harmless calls. Assumes nothing.
use Rattle.std.proofs.Common.{◌≡◌, true, List, ◌∷◌, ◌++◌, sym, ◌∙◌}
use Rattle.std.proofs.lemmas.Bool.{and_parts}
use Rattle.std.proofs.lemmas.List.Folds.{list_all-append}
use Rattle.service.specs.Others.{harmless, all_harmless}
use Rattle.service.specs.declared.calls.ServiceCall.{ServiceCall}

-- each call of a harmless list is harmless
pub harmless_in : (xs ys : List ServiceCall) (x : ServiceCall) → all_harmless (xs ++ x ∷ ys) ≡ true → harmless x ≡ true
harmless_in xs ys x e = (and_parts _ _ (and_parts _ _ (sym (list_all-append harmless xs (x ∷ ys)) ∙ e)).1).0
