-- The columns that a line names.
use Rattle.std.proofs.Common.{◌≡◌, subst, ℕ, ◌+◌, ◌<◌, Bool, true, false, cond, eqb, List, [], ◌∷◌, length, Some, None, Option, sym, refl, ap, ◌∙◌, inl, inr, arith}
use Rattle.std.proofs.lemmas.Bool.{eqb-true, cases_Bool, and_parts, and_from, false≢true, eq-eqb, cond-true, cond-false}
use Rattle.std.proofs.lemmas.Option.{none-some, same_Some}
use Rattle.trace.specs.Names.{name_of, same_text, column_named, same_column, times, only_once}
use Rattle.trace.specs.Naming.{column_order, EachOnce}
use Rattle.trace.specs.Lines.{ordered}
use Rattle.trace.specs.declared.column.Columns.{Columns}
use Rattle.trace.specs.declared.column.Column.{Column}
use Rattle.trace.specs.declared.column.Column.TheVariants.{Op, Gap, Addr, Data}

same_text_lem : (t u : List ℕ) → same_text t u ≡ true → t ≡ u
same_text_lem [] [] h = refl
same_text_lem [] (b ∷ u) h = absurd (false≢true h)
same_text_lem (a ∷ t) [] h = absurd (false≢true h)
same_text_lem (a ∷ t) (b ∷ u) h =
    let p = and_parts (eqb a b) (same_text t u) h in
    let e = eqb-true a b p.0 in
    let f = same_text_lem t u p.1 in
    cc

-- a name stands for its column, and for no other
pub named_back : (k : Column) → column_named (name_of k) ≡ Some k
named_back Op = refl
named_back Gap = refl
named_back Addr = refl
named_back Data = refl

same_column_lem : (c k : Column) → same_column c k ≡ true → c ≡ k
same_column_lem c k h =
    same_Some c k (sym (named_back c) ∙ ap column_named (same_text_lem (name_of c) (name_of k) h) ∙ named_back k)

first_some : (b : Bool) (c k : Column) (r : Option Column) (P : Type 0) → (b ≡ true → c ≡ k → P) → (r ≡ Some k → P) → cond b (Some c) r ≡ Some k → P
first_some true c k r P f g h = f refl (same_Some c k h)
first_some false c k r P f g h = g h

-- the text that names a column is its name
pub named_text : (t : List ℕ) (k : Column) → column_named t ≡ Some k → t ≡ name_of k
named_text t k =
    first_some (same_text t (name_of Op)) Op k _ (t ≡ name_of k) (is Op)
    (first_some (same_text t (name_of Gap)) Gap k _ (t ≡ name_of k) (is Gap)
    (first_some (same_text t (name_of Addr)) Addr k _ (t ≡ name_of k) (is Addr)
    (first_some (same_text t (name_of Data)) Data k None (t ≡ name_of k) (is Data) (λ h. absurd (none-some k h)))))
  where
    is : (c : Column) → same_text t (name_of c) ≡ true → c ≡ k → t ≡ name_of k
    is c y e = same_text_lem t (name_of c) y ∙ ap name_of e

-- the four columns stand as often as there are columns
pub times_all : (ks : List Column) → times Op ks + times Gap ks + times Addr ks + times Data ks ≡ length ks
times_all [] = refl
times_all (Op ∷ ks) = let e = times_all ks in omega arith
times_all (Gap ∷ ks) = let e = times_all ks in omega arith
times_all (Addr ∷ ks) = let e = times_all ks in omega arith
times_all (Data ∷ ks) = let e = times_all ks in omega arith

-- each column stands once
pub once : (cs : List Column) → only_once cs ≡ true → (k : Column) → times k cs ≡ 1
once cs h Op = eqb-true (times Op cs) 1 (and_parts (eqb (times Op cs) 1) _ h).0
once cs h Gap = eqb-true (times Gap cs) 1 (and_parts (eqb (times Gap cs) 1) _ (and_parts (eqb (times Op cs) 1) _ h).1).0
once cs h Addr = eqb-true (times Addr cs) 1 (and_parts (eqb (times Addr cs) 1) _ (and_parts (eqb (times Gap cs) 1) _ (and_parts (eqb (times Op cs) 1) _ h).1).1).0
once cs h Data = eqb-true (times Data cs) 1 (and_parts (eqb (times Addr cs) 1) (eqb (times Data cs) 1) (and_parts (eqb (times Gap cs) 1) _ (and_parts (eqb (times Op cs) 1) _ h).1).1).1

pub once_back : (cs : List Column) → ((k : Column) → times k cs ≡ 1) → only_once cs ≡ true
once_back cs h =
    and_from (eqb (times Op cs) 1) _ (eq-eqb (times Op cs) 1 (h Op))
    (and_from (eqb (times Gap cs) 1) _ (eq-eqb (times Gap cs) 1 (h Gap))
    (and_from (eqb (times Addr cs) 1) _ (eq-eqb (times Addr cs) 1 (h Addr)) (eq-eqb (times Data cs) 1 (h Data))))

abbrev pub AllTrue : (Column → Bool) → List Column → Type 0
AllTrue f [] = Unit {0}
AllTrue f (c ∷ cs) = (f c ≡ true) × AllTrue f cs

-- what holds of each column of a line holds of a column that stands there
pub holds_of : (f : Column → Bool) (cs : List Column) (k : Column) → AllTrue f cs → 0 < times k cs → f k ≡ true
holds_of f [] k a h = absurd (omega arith)
holds_of f (c ∷ cs) k a h =
    elim (cases_Bool (same_column c k)) [
      | inl y ↦ ap f (sym (same_column_lem c k y)) ∙ a.0
      | inr n ↦ let e : ◌≡◌ {A = ℕ} (cond (same_column c k) 1 0) 0 = cond-false _ _ _ n in holds_of f cs k a.1 (omega (arith, e))
    ]

-- two orders of the same columns are one
pub columns_same : (cs ds : Columns) → column_order cs ≡ column_order ds → cs ≡ ds
columns_same cs ds e = ap (λ (ks : List Column). record { order = ks }) e

-- columns that each stand once are an order
pub ordered_is : (cs : Columns) → EachOnce cs → ordered (column_order cs) ≡ Some cs
ordered_is cs h = cond-true _ _ _ (once_back (column_order cs) h)

-- an order that is made is of the columns given, each once
pub ordered_from : (ks : List Column) (cs : Columns) → ordered ks ≡ Some cs → (ks ≡ column_order cs) × EachOnce cs
ordered_from ks cs h =
    elim (cases_Bool (only_once ks)) [
      | inl y ↦ let e : record { order = ks } ≡ cs = same_Some (record { order = ks }) cs (sym (cond-true _ _ _ y) ∙ h) in
          (ap column_order e, subst EachOnce e (once ks y))
      | inr n ↦ absurd (none-some cs (sym (cond-false _ _ _ n) ∙ h))
    ]
