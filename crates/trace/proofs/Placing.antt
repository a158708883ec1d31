-- Fields that are put under their columns, one at a time.
use Rattle.std.proofs.Common.{◌≡◌, ◌⊎◌, ℕ, Bool, true, false, cond, not, List, [], ◌∷◌, length, get_or, Some, None, Option, map, refl, ap, ◌∙◌, inl, inr, arith, Bor}
use Rattle.std.specs.List.{find}
use Rattle.std.specs.Option.{unwrap_or}
use Rattle.trace.specs.Lines.{Texts, under_each, row_texts, leftmost_of}
use Rattle.trace.specs.declared.column.Column.{Column}
use Rattle.trace.specs.declared.row.Row.{Row}

-- no column is left, or no field
pub placed_all : (r : Row) (ks : List Column) (ps : List (Bor (List ℕ))) {t : Texts} → (ks ≡ []) ⊎ (ps ≡ []) → under_each (row_texts r) ks (map (λ p. p.now) ps) ≡ t → row_texts r ≡ t
placed_all r [] ps e h = h
placed_all r (k ∷ ks) [] e h = h
placed_all r (k ∷ ks) (p ∷ ps) (inl e) h = absurd (let f : ◌≡◌ {A = ℕ} 0 1 = cc in omega arith)
placed_all r (k ∷ ks) (p ∷ ps) (inr e) h = absurd (let f : ◌≡◌ {A = ℕ} 0 1 = cc in omega arith)

-- the leftmost of four columns without its form
pub leftmost_is : (f : Column → Bool) (ks : List Column) (o : Option Column) (e : Column) → length ks ≡ 4 → o ≡ find (λ k. not (f k)) ks → unwrap_or o (get_or ks 3 e) ≡ leftmost_of ks f
leftmost_is f [] o e l h = absurd (omega arith)
leftmost_is f (a ∷ []) o e l h = absurd (omega arith)
leftmost_is f (a ∷ (b ∷ [])) o e l h = absurd (omega arith)
leftmost_is f (a ∷ (b ∷ (c ∷ []))) o e l h = absurd (omega arith)
leftmost_is f (a ∷ (b ∷ (c ∷ (d ∷ (x ∷ ks))))) o e l h = absurd (omega arith)
leftmost_is f (a ∷ (b ∷ (c ∷ (d ∷ [])))) o e l h = ap (λ (x : Option Column). unwrap_or x d) h ∙ go (f a) (f b) (f c) (f d)
  where
    go : (w x y z : Bool) → unwrap_or (cond (not w) (Some a) (cond (not x) (Some b) (cond (not y) (Some c) (cond (not z) (Some d) None)))) d ≡ cond w (cond x (cond y d c) b) a
    go false x y z = refl
    go true false y z = refl
    go true true false z = refl
    go true true true false = refl
    go true true true true = refl
