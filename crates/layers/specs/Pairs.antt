-- What a pair shows.
use Rattle.std.specs.Prelude.{◌≡◌, ℕ, ◌+◌, ◌-◌, ◌*◌, ◌/◌, ◌%◌, ◌≤◌, min, cond, List, MatchBool, Result, ◌==◌, nat_lt}
use Rattle.std.proofs.Common.{⊎_elim, ◌∙◌, arith}
use Rattle.std.proofs.lemmas.Bool.{cases_lt, lt-ltb, le-ltb}
use Rattle.rows.specs.Exchanges.{Asked, ask_write, Given, give_write}
use Rattle.rows.specs.RowCalls.{Wrote}
use Rattle.rows.specs.Rows.{Row, Rows, Lawful, Kept}
use Rattle.rows.specs.declared.refusal.RowRefusal.{RowRefusal}

-- the row at another address
abbrev pub at_home : ℕ → Row → Row
at_home a x = record { shown = x.shown; locked = x.locked; home = a; laid = x.laid }

-- The addresses at the bottom of the two stores lie side by side: those of the front are the even ones, those of the
-- back the odd ones.
abbrev pub paired : Rows → Rows → Rows
paired f b = record {
  count = min 1048576 (f.count + b.count);
  row = λ r. cond (nat_lt r f.count) (at_home (2 * (f.row r).home) (f.row r)) (at_home (2 * (b.row (r - f.count)).home + 1) (b.row (r - f.count)));
  bottom = λ a. cond (a % 2 == 0) (f.bottom (a / 2)) (b.bottom (a / 2));
}

-- A write to a pair from f and b to f' and b': one store takes it, in its own counting, and the other stays as it was.
abbrev pub WroteOne : {X : Type 0} → Rows → Rows → Rows → Rows → ℕ → List ℕ → Result X RowRefusal → Type 0
WroteOne f f' b b' row bytes r = MatchBool (nat_lt row f.count) (Wrote f f' row bytes r × Kept b b') (Kept f f' × Wrote b b' (row - f.count) bytes r)

-- What a call on a pair leaves in both: only an accepted write changes one of them.
abbrev pub Leaves : Rows → Rows → Rows → Rows → Asked → Given → Type 0
Leaves f f' b b' (ask_write row bytes) (give_write r) = WroteOne f f' b b' row bytes r
Leaves f f' b b' (ask_write row bytes) given = ⊥
Leaves f f' b b' asked given = Kept f f' × Kept b b'

even_bottom : (f b : ℕ → List ℕ) (a : ℕ) → cond ((2 * a) % 2 == 0) (f ((2 * a) / 2)) (b ((2 * a) / 2)) ≡ f a
even_bottom f b a = let e : (2 * a) % 2 ≡ 0 = omega arith in let d : (2 * a) / 2 ≡ a = omega arith in rw (e, d)

odd_bottom : (f b : ℕ → List ℕ) (a : ℕ) → cond ((2 * a + 1) % 2 == 0) (f ((2 * a + 1) / 2)) (b ((2 * a + 1) / 2)) ≡ b a
odd_bottom f b a = let e : (2 * a + 1) % 2 ≡ 1 = omega arith in let d : (2 * a + 1) / 2 ≡ a = omega arith in rw (e, d)

pub paired_lawful : (f b : Rows) → Lawful f → Lawful b → Lawful (paired f b)
paired_lawful f b p q = record {
  few = omega arith;
  whole = λ r h. ⊎_elim
      (λ k. rw (lt-ltb r f.count k) (p.whole r k))
      (λ k. rw (le-ltb r f.count k) (q.whole (r - f.count) (omega arith)))
      (cases_lt r f.count);
  bytes = λ r i h. ⊎_elim
      (λ k. rw (lt-ltb r f.count k) (p.bytes r i k))
      (λ k. rw (le-ltb r f.count k) (q.bytes (r - f.count) i (omega arith)))
      (cases_lt r f.count);
  apart = λ r s h k e. ⊎_elim
      (λ x. ⊎_elim
      (λ y. let e' = rw (lt-ltb r f.count x, lt-ltb s f.count y) at e in p.apart r s x y (omega arith))
      (λ y. let e' = rw (lt-ltb r f.count x, le-ltb s f.count y) at e in absurd (omega arith))
      (cases_lt s f.count))
      (λ (x : f.count ≤ r). ⊎_elim
      (λ y. let e' = rw (le-ltb r f.count x, lt-ltb s f.count y) at e in absurd (omega arith))
      (λ (y : f.count ≤ s).
      let e' = rw (le-ltb r f.count x, le-ltb s f.count y) at e in
      let same = q.apart (r - f.count) (s - f.count) (omega arith) (omega arith) (omega arith) in
      omega arith)
      (cases_lt s f.count))
      (cases_lt r f.count);
  lies = λ r h. ⊎_elim
      (λ x. rw (lt-ltb r f.count x) (even_bottom f.bottom b.bottom (f.row r).home ∙ p.lies r x))
      (λ (x : f.count ≤ r). rw (le-ltb r f.count x) (odd_bottom f.bottom b.bottom (b.row (r - f.count)).home ∙ q.lies (r - f.count) (omega arith)))
      (cases_lt r f.count);
}
