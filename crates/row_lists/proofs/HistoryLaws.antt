-- The law of a list of row calls, one call more.
use Rattle.std.proofs.Common.{◌≡◌, ℕ, ◌+◌, ◌<◌, ◌≤◌, true, false, cond, eqb, ltb, leb, List, [], ◌∷◌, ◌++◌, length, is_some, Some, None, vec_items, Option, unwrap_or, sym, refl, ap, ◌∙◌, subst, ⊎_elim, arith}
use Rattle.std.proofs.lemmas.List.{length_push, take_at, take-append-le, get_or_append_left, get_or_at}
use Rattle.std.proofs.lemmas.Bool.{cases_eq, cases_lt, eq-eqb, ne_eqb}
use Rattle.rows.specs.Exchanges.{Asked, Given}
use Rattle.row_lists.specs.Histories.{Event, history, asked, given, OwnKept, Taken, accepted, taken_by, or_else, last_write, due, count, read_due, write, lock_due, Moved, Made, Obeyed, Performed}
use Rattle.rows.specs.RowCalls.{read_check, lock_check}
use Rattle.rows.specs.Rows.{Rows, Lawful, showing}
use Rattle.row_lists.specs.declared.calls.RowAnswer.{RowAnswer}
use Rattle.row_lists.specs.declared.calls.RowCall.{RowCall}
use Rattle.row_lists.specs.declared.calls.RowCall.TheVariants.{CountRows, Read, Write, AskLock}

-- one event more

pub history_push : (cs : List RowCall) (xs : List RowAnswer) (c : RowCall) (a : RowAnswer) → length xs ≡ length cs →
    history (cs ++ c ∷ []) (xs ++ a ∷ []) ≡ history cs xs ++ record { call = c; answer = a } ∷ []
history_push [] [] c a e = refl
history_push [] (x ∷ xs) c a e = absurd (omega arith)
history_push (d ∷ cs) [] c a e = absurd (omega arith)
history_push (d ∷ cs) (x ∷ xs) c a e = ap (λ h. record { call = d; answer = x } ∷ h) (history_push cs xs c a (omega arith))

pub or_else_none : {X : Type 0} (x : Option X) → x ≡ or_else x None
or_else_none None = refl
or_else_none (Some x) = refl

pub or_else_assoc : {X : Type 0} (x y z : Option X) → or_else (or_else x y) z ≡ or_else x (or_else y z)
or_else_assoc None y z = refl
or_else_assoc (Some x) y z = refl

pub value_or_else : {X : Type 0} (x y : Option X) (d : X) → unwrap_or (or_else x y) d ≡ unwrap_or x (unwrap_or y d)
value_or_else None y d = refl
value_or_else (Some x) y d = refl

abbrev took : Event → Option Taken
took e = accepted e.call e.answer

last_write_push : (r : ℕ) (h : List Event) (e : Event) → last_write r (h ++ e ∷ []) ≡ or_else (taken_by r (took e)) (last_write r h)
last_write_push r [] e = or_else_none (taken_by r (took e))
last_write_push r (d ∷ h) e = ap (λ o. or_else o (taken_by r (took d))) (last_write_push r h e) ∙ or_else_assoc (taken_by r (took e)) (last_write r h) (taken_by r (took d))

-- what one call moved
module _ (m m' : Rows) where
  pub moved_count : (w : Option Taken) → Moved m m' w → m'.count ≡ m.count
  moved_count None d = d.count
  moved_count (Some t) d = d.1.count

  pub moved_row : (r : ℕ) (w : Option Taken) → Moved m m' w → m'.row r ≡ showing (unwrap_or (taken_by r w) (m.row r).shown) (m.row r)
  moved_row r None d = d.row r
  moved_row r (Some t) d = ⊎_elim
      (λ (e : t.row ≡ r). rw (eq-eqb t.row r e) (subst (λ s. m'.row s ≡ showing t.bytes (m.row s)) e d.1.here))
      (λ n. rw (ne_eqb t.row r n) (d.1.other r (λ e. n (sym e))))
      (cases_eq t.row r)

-- what is due depends on the number of rows, the locks and the bytes shown alone
due_same : (m n : Rows) (h : List Event) → Obeyed m n h → (c : RowCall) → due n [] c ≡ due m h c
due_same m n h u CountRows = ap count u.rows
due_same m n h u (Read row place) =
    let p = vec_items place in
    ap (λ k. read_due (cond (ltb row k) (cond (leb 128 (length p)) 0 5) 4) (n.row row).shown p) u.rows
    ∙ ap (λ s. read_due (read_check m row (length p)) s p) (u.shown row)
due_same m n h u (Write row bytes) =
    let k = length (vec_items bytes) in
    ap (λ c. write (cond (ltb row c) (cond (eqb k 128) (cond (n.row row).locked 6 0) 5) 4)) u.rows
    ∙ ap (λ l. write (cond (ltb row m.count) (cond (eqb k 128) (cond l 6 0) 5) 4)) (u.locks row)
due_same m n h u (AskLock row) =
    ap (λ c. lock_due (cond (ltb row c) 0 4) (n.row row).locked) u.rows ∙ ap (lock_due (lock_check m row)) (u.locks row)

-- the bottom after one call more
module _ (m n m' : Rows) (h : List Event) (l : Lawful m) (u : Obeyed m n h) where
  exist_more : (r : ℕ) (b : List ℕ) (w : Option Taken) → Moved n m' w → or_else (taken_by r w) (last_write r h) ≡ Some b → r < m.count
  exist_more r b None d e = u.exist r b e
  exist_more r b (Some t) d e = ⊎_elim
      (λ (q : t.row ≡ r). let k = d.0 in let f = u.rows in omega arith)
      (λ (q : t.row ≡ r → ⊥). u.exist r b (rw (ne_eqb t.row r q) at e))
      (cases_eq t.row r)

  landed_more : (r : ℕ) (b : List ℕ) (w : Option Taken) → Moved n m' w → or_else (taken_by r w) (last_write r h) ≡ Some b →
      m'.bottom (m.row r).home ≡ (m.row r).laid b
  landed_more r b None d e = d.bottom (m.row r).home ∙ u.landed r b e
  landed_more r b (Some t) d e = ⊎_elim
      (λ (q : t.row ≡ r).
      let e' : Some t.bytes ≡ Some b = rw (eq-eqb t.row r q) at e in
      let same : t.bytes ≡ b = cc in
      ap m'.bottom (sym (u.homes r) ∙ ap (λ s. (n.row s).home) (sym q)) ∙ d.1.landed
      ∙ ap (λ s. (n.row s).laid t.bytes) q ∙ ap (λ f. f t.bytes) (u.laid r) ∙ ap (m.row r).laid same)
      (λ (q : t.row ≡ r → ⊥).
      let e' : last_write r h ≡ Some b = rw (ne_eqb t.row r q) at e in
      let f = u.rows in
      let k = d.0 in
      d.1.apart (m.row r).home (λ p. q (sym (l.apart r t.row (u.exist r b e') (omega arith) (p ∙ u.homes t.row))))
      ∙ u.landed r b e')
      (cases_eq t.row r)

  some_left : {X : Type 0} (x y : Option X) → is_some x ≡ true → is_some (or_else x y) ≡ true
  some_left None y e = let z : false ≡ true = e in cc
  some_left (Some x) y e = refl

  some_right : {X : Type 0} (x y : Option X) → is_some y ≡ true → is_some (or_else x y) ≡ true
  some_right None y e = e
  some_right (Some x) y e = refl

  apart_more : (a : ℕ) (w : Option Taken) → Moved n m' w → ((r : ℕ) → is_some (or_else (taken_by r w) (last_write r h)) ≡ true → (m.row r).home ≡ a → ⊥) →
      m'.bottom a ≡ m.bottom a
  apart_more a None d out = d.bottom a ∙ u.apart a out
  apart_more a (Some t) d out =
      d.1.apart a (λ e. out t.row (some_left (taken_by t.row (Some t)) (last_write t.row h) (rw (eq-eqb t.row t.row refl))) (sym (u.homes t.row) ∙ sym e))
      ∙ u.apart a (λ r s. out r (some_right (taken_by r (Some t)) (last_write r h) s))

pub obeyed_more : (m n m' : Rows) (h : List Event) (c : RowCall) (a : RowAnswer) → Lawful m → Obeyed m n h → Made n m' c a →
    Obeyed m m' (h ++ record { call = c; answer = a } ∷ [])
obeyed_more m n m' h c a l u d =
    let e : Event = record { call = c; answer = a } in
    let w = accepted c a in
    let row : (r : ℕ) → m'.row r ≡ showing (unwrap_or (taken_by r w) (n.row r).shown) (n.row r) = λ r. moved_row n m' r w d.moved in
    record {
      right = λ k f p.
          let q : length (h ++ e ∷ []) ≡ length h + 1 = length_push h e in
          ⊎_elim
          (λ (s : k < length h).
          let s' : k ≤ length h = omega arith in
          rw (take-append-le k h (e ∷ []) s', get_or_append_left h (e ∷ []) f k s) (u.right k f s))
          (λ (s : length h ≤ k).
          let s' : length h ≡ k = omega arith in
          rw (take_at h (e ∷ []) k s', get_or_at h e [] f k s') (d.right ∙ due_same m n h u c))
          (cases_lt k (length h));
      shown = λ r.
          ap (λ x. x.shown) (row r)
          ∙ ap (unwrap_or (taken_by r w)) (u.shown r)
          ∙ sym (value_or_else (taken_by r w) (last_write r h) (m.row r).shown)
          ∙ ap (λ o. unwrap_or o (m.row r).shown) (sym (last_write_push r h e));
      rows = moved_count n m' w d.moved ∙ u.rows;
      locks = λ r. ap (λ x. x.locked) (row r) ∙ u.locks r;
      homes = λ r. ap (λ x. x.home) (row r) ∙ u.homes r;
      laid = λ r. ap (λ x. x.laid) (row r) ∙ u.laid r;
      exist = λ r b p. exist_more m n m' h l u r b w d.moved (sym (last_write_push r h e) ∙ p);
      landed = λ r b p. landed_more m n m' h l u r b w d.moved (sym (last_write_push r h e) ∙ p);
      apart = λ i out. apart_more m n m' h l u i w d.moved (λ r s. out r (ap is_some (last_write_push r h e) ∙ s));
    }

pub performed_more : (m n m' : Rows) (cs : List RowCall) (xs : List RowAnswer) (c : RowCall) (a : RowAnswer) → Lawful m → Performed m n cs xs → Made n m' c a →
    Performed m m' (cs ++ c ∷ []) (xs ++ a ∷ [])
performed_more m n m' cs xs c a l u d = record {
  every = length_push xs a ∙ ap (λ k. k + 1) u.every ∙ sym (length_push cs c);
  obeyed = rw (history_push cs xs c a u.every) (obeyed_more m n m' (history cs xs) c a l u.obeyed d);
}

own_push : {S : Type 0} (R : S → Asked → Given → S → Type 0) (h : List Event) (e : Event) (s m t : S) → OwnKept R h s m → R m (asked e.call) (given e.answer) t → OwnKept R (h ++ e ∷ []) s t
own_push {S = S} R [] e s m t k v = (t, subst (λ (x : S). R x (asked e.call) (given e.answer) t) k v, refl)
own_push R (d ∷ h) e s m t (n, u, r) v = (n, u, own_push R h e n m t r v)

pub own_more : {S : Type 0} (R : S → Asked → Given → S → Type 0) (cs : List RowCall) (xs : List RowAnswer) (c : RowCall) (a : RowAnswer) (s m t : S) → length xs ≡ length cs →
    OwnKept R (history cs xs) s m → R m (asked c) (given a) t → OwnKept R (history (cs ++ c ∷ []) (xs ++ a ∷ [])) s t
own_more R cs xs c a s m t e k v = rw (history_push cs xs c a e) (own_push R (history cs xs) (record { call = c; answer = a }) s m t k v)
