-- What the definitions answer of a line is what the line says.
use Rattle.std.proofs.Common.{◌≡◌, ℕ, Bool, true, false, cond, ◌&&◌, List, [], ◌∷◌, length, is_some, Some, None, Ok, Err, Option, Result, sym, refl, ap, ◌∙◌, subst, inl, inr, arith}
use Rattle.std.proofs.lemmas.Bool.{cases_Bool, cond-true, cond-false, and_from, both_ways, true≢false}
use Rattle.std.proofs.lemmas.Option.{none-some, same_Some}
use Rattle.trace.specs.Names.{name_of, column_named}
use Rattle.trace.specs.Naming.{column_order, EachOnce}
use Rattle.fields.specs.Splitting.{is_text, parts, are_four, joined, IsField, FourFields}
use Rattle.fields.specs.Forms.{op_in, gap_in, address_in, data_in, is_dash}
use Rattle.trace.specs.Lines.{Texts, leftmost_of, by_column, load, read, cycle_of, cycle_in, addr_formed, data_formed, formed, named, or_refuse, line_fault, unless_fault, judged, value_line, ordered, order_of, order_named, names_line}
use Rattle.trace.specs.Laws.{Unsplit, names_text, NamesAre, SaysOrder, Tells, Leftmost, SaysCycle}
use Rattle.trace.specs.declared.column.Column.{Column}
use Rattle.trace.specs.declared.column.Column.TheVariants.{Op, Gap, Addr, Data}
use Rattle.trace.specs.declared.column.Columns.{Columns}
use Rattle.trace.specs.declared.cycle.Cycle.{Cycle}
use Rattle.trace.specs.declared.cycle.Cycle.TheVariants.{Load, Read, Wait}
use Rattle.trace.specs.declared.refusal.LineRefusal.{LineRefusal}
use Rattle.trace.specs.declared.refusal.LineRefusal.TheVariants.{Bytes, Fields, Names, Value}
use Rattle.fields.specs.declared.values.Op.{Op as OpKind}
use Rattle.fields.specs.declared.values.Op.TheVariants.{Load as L, Read as R, Wait as W}
use Rattle.fields.proofs.Joins.{four_fields, parts_four, are_four_lem}
use Rattle.trace.proofs.Ordering.{named_back, named_text, times_all, ordered_is, ordered_from, AllTrue, holds_of}

-- ---- the values of a cycle

told : (t : Texts) (x y : Cycle) → Some x ≡ Some y → Tells t x → Tells t y
told t x y h = subst (Tells t) (same_Some x y h)

load_tells : (t : Texts) (g : ℕ) (x : Cycle) (a d : Option ℕ) → op_in t.op ≡ Some L → gap_in t.gap ≡ Some g → address_in t.addr ≡ a → data_in t.«data» ≡ d → load g a d ≡ Some x → Tells t x
load_tells t g x None d eo eg ea ed h = absurd (none-some x h)
load_tells t g x (Some a) None eo eg ea ed h = absurd (none-some x h)
load_tells t g x (Some a) (Some d) eo eg ea ed h = told t (Load g a d) x h (eo, eg, ea, ed)

read_tells : (t : Texts) (g : ℕ) (x : Cycle) (a : Option ℕ) (d : Bool) → op_in t.op ≡ Some R → gap_in t.gap ≡ Some g → address_in t.addr ≡ a → is_dash t.«data» ≡ d → read g a d ≡ Some x → Tells t x
read_tells t g x None d eo eg ea ed h = absurd (none-some x h)
read_tells t g x (Some a) true eo eg ea ed h = told t (Read g a) x h (eo, eg, ea, ed)
read_tells t g x (Some a) false eo eg ea ed h = absurd (none-some x h)

wait_tells : (t : Texts) (g : ℕ) (x : Cycle) (a d : Bool) → op_in t.op ≡ Some W → gap_in t.gap ≡ Some g → is_dash t.addr ≡ a → is_dash t.«data» ≡ d → cond (a && d) (Some (Wait g)) None ≡ Some x → Tells t x
wait_tells t g x true true eo eg ea ed h = told t (Wait g) x h (eo, eg, ea, ed)
wait_tells t g x true false eo eg ea ed h = absurd (none-some x h)
wait_tells t g x false d eo eg ea ed h = absurd (none-some x h)

tells_of : (t : Texts) (x : Cycle) (g : Option ℕ) (o : Option OpKind) → gap_in t.gap ≡ g → op_in t.op ≡ o → cycle_of g o t ≡ Some x → Tells t x
tells_of t x None o eg eo h = absurd (none-some x h)
tells_of t x (Some g) None eg eo h = absurd (none-some x h)
tells_of t x (Some g) (Some L) eg eo h = load_tells t g x (address_in t.addr) (data_in t.«data») eo eg refl refl h
tells_of t x (Some g) (Some R) eg eo h = read_tells t g x (address_in t.addr) (is_dash t.«data») eo eg refl refl h
tells_of t x (Some g) (Some W) eg eo h = wait_tells t g x (is_dash t.addr) (is_dash t.«data») eo eg refl refl h

pub cycle_tells : (t : Texts) (x : Cycle) → cycle_in t ≡ Some x → Tells t x
cycle_tells t x h = tells_of t x (gap_in t.gap) (op_in t.op) refl refl h

pub tells_cycle : (t : Texts) (x : Cycle) → Tells t x → cycle_in t ≡ Some x
tells_cycle t (Load g a d) h =
    ap (λ (z : Option ℕ). cycle_of z (op_in t.op) t) h.1 ∙ ap (λ (z : Option OpKind). cycle_of (Some g) z t) h.0
    ∙ ap (λ (z : Option ℕ). load g z (data_in t.«data»)) h.2 ∙ ap (λ (z : Option ℕ). load g (Some a) z) h.3
tells_cycle t (Read g a) h =
    ap (λ (z : Option ℕ). cycle_of z (op_in t.op) t) h.1 ∙ ap (λ (z : Option OpKind). cycle_of (Some g) z t) h.0
    ∙ ap (λ (z : Option ℕ). read g z (is_dash t.«data»)) h.2 ∙ ap (λ (z : Bool). read g (Some a) z) h.3
tells_cycle t (Wait g) h =
    ap (λ (z : Option ℕ). cycle_of z (op_in t.op) t) h.1 ∙ ap (λ (z : Option OpKind). cycle_of (Some g) z t) h.0
    ∙ cond-true _ _ _ (and_from (is_dash t.addr) (is_dash t.«data») h.2 h.3)

-- ---- the column of a bad value

some_load : (g : ℕ) (a d : Option ℕ) → is_some a ≡ true → is_some d ≡ true → load g a d ≡ None → ⊥
some_load g None d pa pd h = true≢false (sym pa)
some_load g (Some a) None pa pd h = true≢false (sym pd)
some_load g (Some a) (Some d) pa pd h = none-some (Load g a d) (sym h)

some_read : (g : ℕ) (a : Option ℕ) (d : Bool) → is_some a ≡ true → d ≡ true → read g a d ≡ None → ⊥
some_read g None d pa pd h = true≢false (sym pa)
some_read g (Some a) true pa pd h = none-some (Read g a) (sym h)
some_read g (Some a) false pa pd h = true≢false (sym pd)

-- values that all have their form make a cycle
formed_some : (t : Texts) (g : Option ℕ) (o : Option OpKind) → is_some g ≡ true → is_some o ≡ true → addr_formed o t.addr ≡ true → data_formed o t.«data» ≡ true → cycle_of g o t ≡ None → ⊥
formed_some t None o pg po pa pd h = true≢false (sym pg)
formed_some t (Some g) None pg po pa pd h = true≢false (sym po)
formed_some t (Some g) (Some L) pg po pa pd h = some_load g (address_in t.addr) (data_in t.«data») pa pd h
formed_some t (Some g) (Some R) pg po pa pd h = some_read g (address_in t.addr) (is_dash t.«data») pa pd h
formed_some t (Some g) (Some W) pg po pa pd h = none-some (Wait g) (sym (sym (cond-true _ _ _ (and_from (is_dash t.addr) (is_dash t.«data») pa pd)) ∙ h))

all_formed : (t : Texts) → ((k : Column) → formed t k ≡ true) → cycle_in t ≡ None → ⊥
all_formed t f h = formed_some t (gap_in t.gap) (op_in t.op) (f Gap) (f Op) (f Addr) (f Data) h

-- a column that has not its form stands among these, so the leftmost of them is named
leftmost_among : (f : Column → Bool) (ks : List Column) → (AllTrue f ks → ⊥) → Leftmost ks f (leftmost_of ks f)
leftmost_among f [] h = h tt
leftmost_among f (c ∷ []) h =
    elim (cases_Bool (f c)) [
      | inl y ↦ absurd (h (y, tt))
      | inr n ↦ inl (refl, n)
    ]
leftmost_among f (c ∷ (d ∷ ks)) h =
    elim (cases_Bool (f c)) [
      | inl y ↦ rw y (inr (refl, leftmost_among f (d ∷ ks) (λ a. h (y, a))))
      | inr n ↦ rw n (inl (refl, refl))
    ]

-- where no cycle is told, the column that is named is bad, and the leftmost
pub leftmost : (cs : Columns) (t : Texts) → EachOnce cs → cycle_in t ≡ None → Leftmost (column_order cs) (formed t) (named cs (formed t))
leftmost cs t o h = leftmost_among (formed t) (column_order cs) (λ a. all_formed t (λ k. let n = o k in holds_of (formed t) (column_order cs) k a (omega arith)) h)

-- ---- the fault of a line as text

no_fault : (s : List ℕ) → is_text s ≡ true → are_four (parts s) ≡ true → line_fault s ≡ None
no_fault s h y = cond-true _ _ _ h ∙ cond-true _ _ _ y

by_fault : (s : List ℕ) (P : Option LineRefusal → Type 0) → (is_text s ≡ false → P (Some Bytes)) → (is_text s ≡ true → are_four (parts s) ≡ false → P (Some Fields))
    → (is_text s ≡ true → are_four (parts s) ≡ true → P None) → P (line_fault s)
by_fault s P bytes fields none =
    elim (cases_Bool (is_text s)) [
      | inr n ↦ subst P (sym (cond-false _ _ _ n)) (bytes n)
      | inl h ↦ elim (cases_Bool (are_four (parts s))) [
        | inr n ↦ subst P (sym (cond-true _ _ _ h ∙ cond-false _ _ _ n)) (fields h n)
        | inl y ↦ subst P (sym (no_fault s h y)) (none h y)
      ]
    ]

unsplit : (s : List ℕ) → is_text s ≡ true → are_four (parts s) ≡ false → Unsplit s
unsplit s h n = (h, λ a b c d f. both_ways (are_four (parts s)) n (are_four_lem s a b c d f))

-- ---- a line of values

judged_says : (cs : Columns) (s : List ℕ) (t : Texts) (o : Option Cycle) → EachOnce cs → cycle_in t ≡ o → is_text s ≡ true
    → (a b c d : List ℕ) → FourFields s a b c d → t ≡ by_column cs (a ∷ (b ∷ (c ∷ (d ∷ [])))) → SaysCycle cs s (or_refuse o (Value (named cs (formed t))))
unfolding SaysCycle
judged_says cs s t (Some x) u e h a b c d f q = (h, a, b, c, d, f, subst (λ (z : Texts). Tells z x) q (cycle_tells t x e))
judged_says cs s t None u e h a b c d f q =
    (h, a, b, c, d, f, subst (λ (z : Texts). Leftmost (column_order cs) (formed z) (named cs (formed t))) q (leftmost cs t u e))

pub says_cycle : (cs : Columns) (s : List ℕ) (r : Result Cycle LineRefusal) → r ≡ value_line cs s → EachOnce cs → SaysCycle cs s r
unfolding SaysCycle value_line
says_cycle cs s r e u =
    subst (λ (z : Result Cycle LineRefusal). SaysCycle cs s z) (sym e)
    (by_fault s (λ o. SaysCycle cs s (unless_fault o (judged cs (by_column cs (parts s))))) (λ n. n) (unsplit s)
    (λ h y. let p = four_fields s y in
    judged_says cs s (by_column cs (parts s)) (cycle_in (by_column cs (parts s))) u refl h p.0 p.1 p.2 p.3 p.4 (ap (by_column cs) p.5)))

-- fields that tell no cycle
pub told_none : (cs : Columns) (s : List ℕ) (t : Texts) → line_fault s ≡ None → t ≡ by_column cs (parts s) → cycle_in t ≡ None → Err (Value (named cs (formed t))) ≡ value_line cs s
unfolding value_line
told_none cs s t f e n =
    sym (ap (λ (o : Option LineRefusal). unless_fault o (judged cs (by_column cs (parts s)))) f ∙ ap (judged cs) (sym e) ∙ ap (λ (o : Option Cycle). or_refuse o (Value (named cs (formed t)))) n)

-- a line whose fields tell a cycle reads as that cycle
pub reads_as : (cs : Columns) (s a b c d : List ℕ) (x : Cycle) → is_text s ≡ true → FourFields s a b c d → Tells (by_column cs (a ∷ (b ∷ (c ∷ (d ∷ []))))) x → value_line cs s ≡ Ok x
unfolding value_line
reads_as cs s a b c d x h f t =
    ap (λ (o : Option LineRefusal). unless_fault o (judged cs (by_column cs (parts s)))) (no_fault s h (are_four_lem s a b c d f))
    ∙ ap (λ (ps : List (List ℕ)). judged cs (by_column cs ps)) (parts_four s a b c d f)
    ∙ ap (λ (o : Option Cycle). or_refuse o (Value (named cs (formed (by_column cs (a ∷ (b ∷ (c ∷ (d ∷ []))))))))) (tells_cycle (by_column cs (a ∷ (b ∷ (c ∷ (d ∷ []))))) x t)

-- ---- a line of names

-- the names that an order comes from
abbrev OrderFrom : Option Column → Option Column → Option Column → Option Column → Columns → Type 0
OrderFrom w x y z cs = (a : Column) × (b : Column) × (c : Column) × (d : Column) × (column_order cs ≡ a ∷ (b ∷ (c ∷ (d ∷ [])))) × (w ≡ Some a) × (x ≡ Some b) × (y ≡ Some c) × (z ≡ Some d) × EachOnce cs

order_from : (w x y z : Option Column) (cs : Columns) → order_of w x y z ≡ Some cs → OrderFrom w x y z cs
order_from None x y z cs h = absurd (none-some cs h)
order_from (Some a) None y z cs h = absurd (none-some cs h)
order_from (Some a) (Some b) None z cs h = absurd (none-some cs h)
order_from (Some a) (Some b) (Some c) None cs h = absurd (none-some cs h)
order_from (Some a) (Some b) (Some c) (Some d) cs h =
    let o = ordered_from (a ∷ (b ∷ (c ∷ (d ∷ [])))) cs h in
    (a, b, c, d, sym o.0, refl, refl, refl, refl, o.1)

joined_same : (a b c d p q r t : List ℕ) → a ≡ p → b ≡ q → c ≡ r → d ≡ t → joined a b c d ≡ joined p q r t
joined_same a b c d p q r t ea eb ec ed =
    ap (λ (x : List ℕ). joined x b c d) ea ∙ ap (λ (x : List ℕ). joined p x c d) eb ∙ ap (λ (x : List ℕ). joined p q x d) ec ∙ ap (λ (x : List ℕ). joined p q r x) ed

ordered_says : (s a b c d : List ℕ) (cs : Columns) → FourFields s a b c d → order_named (a ∷ (b ∷ (c ∷ (d ∷ [])))) ≡ Some cs → NamesAre s cs
ordered_says s a b c d cs f h =
    let o = order_from (column_named a) (column_named b) (column_named c) (column_named d) cs h in (
      f.line ∙ joined_same a b c d (name_of o.0) (name_of o.1) (name_of o.2) (name_of o.3)
          (named_text a o.0 o.5) (named_text b o.1 o.6) (named_text c o.2 o.7) (named_text d o.3 o.8) ∙ ap names_text (sym o.4),
      o.9,
    )

name_field : (k : Column) → IsField (name_of k)
name_field Op = (omega arith, ((λ e. omega arith), ((λ e. omega arith), tt)))
name_field Gap = (omega arith, ((λ e. omega arith), ((λ e. omega arith), ((λ e. omega arith), tt))))
name_field Addr = (omega arith, ((λ e. omega arith), ((λ e. omega arith), ((λ e. omega arith), ((λ e. omega arith), tt)))))
name_field Data = (omega arith, ((λ e. omega arith), ((λ e. omega arith), ((λ e. omega arith), ((λ e. omega arith), tt)))))

-- four columns that each stand once, by their names
four_names : (s : List ℕ) (ks : List Column) → length ks ≡ 4 → s ≡ names_text ks → order_named (parts s) ≡ ordered ks
four_names s [] l h = absurd (omega arith)
four_names s (a ∷ []) l h = absurd (omega arith)
four_names s (a ∷ (b ∷ [])) l h = absurd (omega arith)
four_names s (a ∷ (b ∷ (c ∷ []))) l h = absurd (omega arith)
four_names s (a ∷ (b ∷ (c ∷ (d ∷ (e ∷ ks))))) l h = absurd (omega arith)
four_names s (a ∷ (b ∷ (c ∷ (d ∷ [])))) l h =
    let f : FourFields s (name_of a) (name_of b) (name_of c) (name_of d) =
    record { line = h; first = name_field a; second = name_field b; third = name_field c; fourth = name_field d } in
    ap order_named (parts_four s (name_of a) (name_of b) (name_of c) (name_of d) f)
    ∙ ap (λ (w : Option Column). order_of w (column_named (name_of b)) (column_named (name_of c)) (column_named (name_of d))) (named_back a)
    ∙ ap (λ (w : Option Column). order_of (Some a) w (column_named (name_of c)) (column_named (name_of d))) (named_back b)
    ∙ ap (λ (w : Option Column). order_of (Some a) (Some b) w (column_named (name_of d))) (named_back c)
    ∙ ap (λ (w : Option Column). order_of (Some a) (Some b) (Some c) w) (named_back d)

-- a line of each name once gives its order
pub names_order : (s : List ℕ) (cs : Columns) → NamesAre s cs → order_named (parts s) ≡ Some cs
names_order s cs h =
    let n : length (column_order cs) ≡ 4 = omega (arith, times_all (column_order cs), h.1 Op, h.1 Gap, h.1 Addr, h.1 Data) in
    four_names s (column_order cs) n h.0 ∙ ordered_is cs h.1

order_says : (s : List ℕ) (o : Option Columns) → order_named (parts s) ≡ o → is_text s ≡ true → (a b c d : List ℕ) → FourFields s a b c d → parts s ≡ a ∷ (b ∷ (c ∷ (d ∷ []))) → SaysOrder s (or_refuse o Names)
unfolding SaysOrder
order_says s (Some cs) e h a b c d f q = (h, ordered_says s a b c d cs f (sym (ap order_named q) ∙ e))
order_says s None e h a b c d f q = (h, a, b, c, d, f, λ cs n. none-some cs (sym e ∙ names_order s cs n))

pub says_order : (s : List ℕ) (r : Result Columns LineRefusal) → r ≡ names_line s → SaysOrder s r
unfolding SaysOrder names_line
says_order s r e =
    subst (λ (z : Result Columns LineRefusal). SaysOrder s z) (sym e)
    (by_fault s (λ o. SaysOrder s (unless_fault o (or_refuse (order_named (parts s)) Names))) (λ n. n) (unsplit s)
    (λ h y. let p = four_fields s y in order_says s (order_named (parts s)) refl h p.0 p.1 p.2 p.3 p.4 p.5))
