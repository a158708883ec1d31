-- The law of a list of calls, one call more. Assumes nothing.
use Rattle.std.proofs.Common.{◌≡◌, ℕ, ◌+◌, ◌-◌, ◌<◌, ◌≤◌, Bool, true, false, cond, ◌&&◌, ◌||◌, eqb, ltb, leb, List, [], ◌∷◌, ◌++◌, length, Some, None, Ok, Err, vec_items, Option, Result, unwrap_or, sym, refl, ap, ◌∙◌, subst, ⊎_elim, arith}
use Rattle.std.proofs.lemmas.Grind.{common_steps}
use Rattle.std.proofs.lemmas.List.{length_push, take_at, take-append-le, get_or_append_left, get_or_at}
use Rattle.std.proofs.Math.Bool.{or-false, or_assoc}
use Rattle.std.proofs.lemmas.Bool.{cases_eq, cases_lt, eq-eqb, ne_eqb}
use Rattle.rows.specs.Exchanges.{Asked, ask_count, ask_read, ask_write, ask_lock, Given, give_count, give_read, give_write, give_lock}
use Rattle.row_lists.specs.Histories.{asked, given, Taken, taken_by, or_else, due, count, read_due, write, lock_due, Moved}
use Rattle.rows.specs.RowCalls.{lock_check}
use Rattle.rows.specs.Rows.{Row, Rows, Kept}
use Rattle.row_lists.proofs.HistoryLaws.{or_else_none, or_else_assoc, value_or_else, moved_count, moved_row}
use Rattle.row_lists.specs.declared.calls.RowAnswer.{RowAnswer}
use Rattle.row_lists.specs.declared.calls.RowCall.{RowCall}
use Rattle.row_lists.specs.declared.calls.RowCall.TheVariants as RowCalls
use Rattle.rows.specs.declared.refusal.RowRefusal.{RowRefusal}
use Rattle.bus.specs.Meaning.{State, Chip, Phase, rest}
use Rattle.bus.specs.Outcomes.{is_locked}
use Rattle.driver.specs.Calls.{Leaves, when_accepted, RowDriven}
use Rattle.driver.specs.DriverRows.{sector_row, sector_rows, driver_rows}
use Rattle.service.specs.Histories.{Event, history, Run, took_by, took, last_write, in_block, locks_by, locked_by, row_after, rows_after}
use Rattle.service.specs.Law.{Right, Served}
use Rattle.service.specs.Others.{harmless, all_harmless}
use Rattle.service.specs.Steps.{after_lock, RowDone, Done}
use Rattle.service.specs.declared.calls.BootBlock.{BootBlock}
use Rattle.service.specs.declared.calls.BootBlock.TheVariants.{Lower, Upper}
use Rattle.service.specs.declared.calls.Reply.{Reply}
use Rattle.service.specs.declared.calls.ServiceAnswer.{ServiceAnswer}
use Rattle.service.specs.declared.calls.ServiceAnswer.TheVariants as Answers
use Rattle.service.specs.declared.calls.ServiceCall.{ServiceCall}
use Rattle.service.specs.declared.calls.ServiceCall.TheVariants as Calls
use Rattle.service.proofs.Guarding.{harmless_in}
use Rattle.service.proofs.Idling.{Calm, others_idle, bare}

-- histories, one event more

pub history_push : (xs : List ServiceCall) (rs : List Reply) (x : ServiceCall) (r : Reply) → length rs ≡ length xs →
    history (xs ++ x ∷ []) (rs ++ r ∷ []) ≡ history xs rs ++ record { call = x; reply = r } ∷ []
history_push [] [] x r e = refl
history_push [] (s ∷ rs) x r e = absurd (omega arith)
history_push (y ∷ xs) [] x r e = absurd (omega arith)
history_push (y ∷ xs) (s ∷ rs) x r e = ap (λ (h : List Event). record { call = y; reply = s } ∷ h) (history_push xs rs x r (omega arith))

pub run_push : (h : List Event) (e : Event) (c d d' : Chip) → Run h c d → Done d d' e.call e.reply.answer e.reply.settling_reads → Run (h ++ e ∷ []) c d'
run_push [] e c d d' p q = (d', subst (λ (x : Chip). Done x d' e.call e.reply.answer e.reply.settling_reads) p q, refl)
run_push (f ∷ h) e c d d' (m, s, p) q = (m, s, run_push h e m d d' p q)

last_push : (r : ℕ) (h : List Event) (e : Event) → last_write r (h ++ e ∷ []) ≡ or_else (taken_by r (took e)) (last_write r h)
last_push r [] e = or_else_none (taken_by r (took e))
last_push r (f ∷ h) e = ap (λ (o : Option (List ℕ)). or_else o (taken_by r (took f))) (last_push r h e) ∙ or_else_assoc (taken_by r (took e)) (last_write r h) (taken_by r (took f))

value_push : (r : ℕ) (h : List Event) (e : Event) (d : List ℕ) → unwrap_or (last_write r (h ++ e ∷ [])) d ≡ unwrap_or (taken_by r (took e)) (unwrap_or (last_write r h) d)
value_push r h e d = ap (λ (o : Option (List ℕ)). unwrap_or o d) (last_push r h e) ∙ value_or_else (taken_by r (took e)) (last_write r h) d

locked_push : (n r : ℕ) (h : List Event) (e : Event) → locked_by n r (h ++ e ∷ []) ≡ locked_by n r h || locks_by n r e.call e.reply.answer
locked_push n r [] e = or-false (locks_by n r e.call e.reply.answer)
locked_push n r (f ∷ h) e =
    let a = locks_by n r f.call f.reply.answer in
    ap (λ (b : Bool). a || b) (locked_push n r h e) ∙ sym (or_assoc a (locked_by n r h) (locks_by n r e.call e.reply.answer))

-- a row after one event more
abbrev step_row : ℕ → ServiceCall → ServiceAnswer → ℕ → Row → Row
step_row n x a r w = record { shown = unwrap_or (taken_by r (took_by x a)) w.shown; locked = w.locked || locks_by n r x a; home = w.home; laid = w.laid }

row_push : (m : Rows) (h : List Event) (e : Event) (r : ℕ) → step_row m.count e.call e.reply.answer r (row_after m h r) ≡ row_after m (h ++ e ∷ []) r
row_push m h e r = simp (value_push r h e (m.row r).shown, locked_push m.count r h e, or_assoc)

-- what an event did to the rows of the part
record Stepped (d d' : Chip) (x : ServiceCall) (a : ServiceAnswer) : Type 0 where
  count : d'.sectors ≡ d.sectors
  row : (r : ℕ) → (driver_rows d').row r ≡ step_row d.sectors x a r ((driver_rows d).row r)
  bottom : (b : ℕ) → (driver_rows d').bottom b ≡ unwrap_or (taken_by b (took_by x a)) ((driver_rows d).bottom b)

moved_bottom : (d d' : Chip) (w : Option Taken) → Moved (driver_rows d) (driver_rows d') w → (b : ℕ) → (driver_rows d').bottom b ≡ unwrap_or (taken_by b w) ((driver_rows d).bottom b)
moved_bottom d d' None p b = p.bottom b
moved_bottom d d' (Some t) p b = ⊎_elim
    (λ (e : t.row ≡ b). rw (eq-eqb t.row b e) (subst (λ (s : ℕ). (driver_rows d').bottom s ≡ t.bytes) e p.1.landed))
    (λ (n : t.row ≡ b → ⊥). rw (ne_eqb t.row b n) (p.1.apart b (λ e. n (sym e))))
    (cases_eq t.row b)

stepped_row : (d d' : Chip) (x : RowCall) (a : RowAnswer) (n : ℕ) → RowDone d d' x a n → Stepped d d' (Calls.Row x) (Answers.Row a)
stepped_row d d' x a n p = record {
  count = moved_count (driver_rows d) (driver_rows d') _ p.made.moved;
  row = λ r. simp or-false (moved_row (driver_rows d) (driver_rows d') r _ p.made.moved);
  bottom = moved_bottom d d' _ p.made.moved;
}

-- the rows depend on the number of sectors and the settled state alone
rows_by : (d d' : Chip) (s : State) → d'.sectors ≡ d.sectors → d'.settled ≡ s → driver_rows d' ≡ sector_rows d.sectors s
rows_by d d' s n e = ap (λ (k : ℕ). sector_rows k d'.settled) n ∙ ap (sector_rows d.sectors) e

-- an event that changes nothing settled, and is neither a write nor a lock
stepped_none : (d d' : Chip) (x : ServiceCall) (a : ServiceAnswer) → took_by x a ≡ None → ((n r : ℕ) → locks_by n r x a ≡ false) → d'.sectors ≡ d.sectors → d'.settled ≡ d.settled → Stepped d d' x a
stepped_none d d' x a t k n s = record {
  count = n;
  row = λ r. simp (t, k d.sectors r, or-false) (ap (λ (m : Rows). m.row r) (rows_by d d' d.settled n s));
  bottom = λ b. simp t (ap (λ (m : Rows). m.bottom b) (rows_by d d' d.settled n s));
}

or_low : (t lo w : Bool) → (t || w) ≡ (((lo && t) || w) || (t || false))
or_low t lo w = grind (arith, common_steps)

or_high : (v u hi : Bool) → (v || u) ≡ ((v || (hi && u)) || u)
or_high v u hi = grind (arith, common_steps)

lock_more : (b : BootBlock) (n r : ℕ) (s : State) → is_locked n (after_lock b s) r ≡ is_locked n s r || in_block n b r
lock_more Lower n r s = or_low (ltb r 64) s.low_locked (s.high_locked && leb (n - 64) r)
lock_more Upper n r s = or_high (s.low_locked && ltb r 64) (leb (n - 64) r) s.high_locked

lock_bytes : (b : BootBlock) (s : State) → (after_lock b s).bytes ≡ s.bytes
lock_bytes Lower s = refl
lock_bytes Upper s = refl

lock_protected : (b : BootBlock) (s : State) → (after_lock b s).protected ≡ s.protected
lock_protected Lower s = refl
lock_protected Upper s = refl

stepped_lock : (d d' : Chip) (b : BootBlock) → d'.sectors ≡ d.sectors → d'.settled ≡ after_lock b d.settled → Stepped d d' (Calls.Lock b) (Answers.Lock (Ok tt))
stepped_lock d d' b n s =
    let shown : (r : ℕ) → (sector_row d.sectors (after_lock b d.settled) r).shown ≡ ((driver_rows d).row r).shown =
    λ r. ap (λ (x : List ℕ). (sector_row d.sectors (record { bytes = x; protected = true; low_locked = true; high_locked = true }) r).shown) (lock_bytes b d.settled) in
    record {
      count = n;
      row = λ r. ap (λ (m : Rows). m.row r) (rows_by d d' (after_lock b d.settled) n s)
          ∙ ap (λ (x : List ℕ). record { shown = x; locked = is_locked d.sectors (after_lock b d.settled) r; home = r; laid = λ b. b }) (shown r)
          ∙ ap (λ (x : Bool). record { shown = ((driver_rows d).row r).shown; locked = x; home = r; laid = λ b. b }) (lock_more b d.sectors r d.settled);
      bottom = λ a. ap (λ (m : Rows). m.bottom a) (rows_by d d' (after_lock b d.settled) n s) ∙ shown a;
    }

-- what is due to a call depends on the number of rows and the rows alone
due_kept : (m n : Rows) → Kept m n → (x : RowCall) → due n [] x ≡ due m [] x
due_kept m n k RowCalls.CountRows = ap count k.count
due_kept m n k (RowCalls.Read row place) =
    let p = vec_items place in
    ap (λ (c : ℕ). read_due (cond (ltb row c) (cond (leb 128 (length p)) 0 5) 4) (n.row row).shown p) k.count
    ∙ ap (λ (w : Row). read_due (cond (ltb row m.count) (cond (leb 128 (length p)) 0 5) 4) w.shown p) (k.row row)
due_kept m n k (RowCalls.Write row bytes) =
    let l = length (vec_items bytes) in
    ap (λ (c : ℕ). write (cond (ltb row c) (cond (eqb l 128) (cond (n.row row).locked 6 0) 5) 4)) k.count
    ∙ ap (λ (w : Row). write (cond (ltb row m.count) (cond (eqb l 128) (cond w.locked 6 0) 5) 4)) (k.row row)
due_kept m n k (RowCalls.AskLock row) =
    ap (λ (c : ℕ). lock_due (cond (ltb row c) 0 4) (n.row row).locked) k.count
    ∙ ap (λ (w : Row). lock_due (lock_check m row) w.locked) (k.row row)

-- the law holds, and an open period is one of others that comes to nothing
pub record Stands (c d : Chip) (h : List Event) : Type 0 where
  pub served : Served c d h
  pub calm : 0 < d.sectors → Calm d.phase d.settled

-- one event more
grow : (c d d' : Chip) (h : List Event) (e : Event) → Stands c d h → Stepped d d' e.call e.reply.answer → Right c (rows_after (driver_rows c) h) e.call e.reply.answer →
    d'.settled.protected ≡ true → (0 < d'.sectors → Calm d'.phase d'.settled) → Stands c d' (h ++ e ∷ [])
grow c d d' h e s t right g calm =
    let m = driver_rows c in
    let kept = s.served.rows in
    record {
      served = record {
        right = λ k f p.
            let q : length (h ++ e ∷ []) ≡ length h + 1 = length_push h e in
            ⊎_elim
            (λ (l : k < length h).
            let l' : k ≤ length h = omega arith in
            rw (take-append-le k h (e ∷ []) l', get_or_append_left h (e ∷ []) f k l) (s.served.right k f l))
            (λ (l : length h ≤ k).
            let l' : length h ≡ k = omega arith in
            rw (take_at h (e ∷ []) k l', get_or_at h e [] f k l') right)
            (cases_lt k (length h));
        rows = record {
          count = t.count ∙ kept.count;
          row = λ r. t.row r ∙ ap (λ (n : ℕ). step_row n e.call e.reply.answer r ((driver_rows d).row r)) kept.count
              ∙ ap (step_row c.sectors e.call e.reply.answer r) (kept.row r) ∙ row_push m h e r;
          bottom = λ a. t.bottom a ∙ ap (unwrap_or (taken_by a (took e))) (kept.bottom a) ∙ sym (value_push a h e (m.bottom a));
        };
        protected = g;
      };
      calm = calm;
    }

left_calm : (d d' : Chip) (s : State) → Leaves d d' s → 0 < d'.sectors → Calm d'.phase d'.settled
left_calm d d' s l h = let n = l.sectors in subst (λ (f : Phase). Calm f d'.settled) (sym (l.rests (omega arith))) tt

accepted_same : {X Y : Type 0} (r : Result X RowRefusal) (y : Y) → when_accepted r y y ≡ y
accepted_same (Ok x) y = refl
accepted_same (Err e) y = refl

-- a row call leaves a protected part protected, and at rest
abbrev Safe : Chip → Type 0
Safe d = (d.settled.protected ≡ true) × (0 < d.sectors → Calm d.phase d.settled)

left_safe : (d d' : Chip) (s : State) → s.protected ≡ true → Leaves d d' s → Safe d'
left_safe d d' s g l = (ap (λ (x : State). x.protected) l.settled ∙ g, left_calm d d' s l)

row_safe : (d d' : Chip) (x : Asked) (a : Given) (n : ℕ) → Safe d → RowDriven d d' x a n → Safe d'
row_safe d d' ask_count (give_count k) n s p = subst (λ (y : Chip). Safe y) (sym p.0) s
row_safe d d' (ask_read row place) (give_read after r) n s p = left_safe d d' _ (ap (λ (x : State). x.protected) (accepted_same r d.settled) ∙ s.0) p.leaves
row_safe d d' (ask_write row bytes) (give_write (Ok x)) n s p = left_safe d d' _ refl p.leaves
row_safe d d' (ask_write row bytes) (give_write (Err e)) n s p = left_safe d d' _ s.0 p.leaves
row_safe d d' (ask_lock row) (give_lock r) n s p = left_safe d d' _ (ap (λ (x : State). x.protected) (accepted_same r d.settled) ∙ s.0) p.leaves
row_safe d d' _ _ n s p = absurd p

more : (c d d' : Chip) (h : List Event) (x : ServiceCall) (a : ServiceAnswer) (n : ℕ) → Stands c d h → harmless x ≡ true → Done d d' x a n →
    Stands c d' (h ++ record { call = x; reply = record { answer = a; settling_reads = n } } ∷ [])
more c d d' h (Calls.Row x) (Answers.Row a) n s f p =
    let safe = row_safe d d' (asked x) (given a) n (s.served.protected, s.calm) p.driven in
    grow c d d' h _ s (stepped_row d d' x a n p) (p.made.right ∙ due_kept (rows_after (driver_rows c) h) (driver_rows d) s.served.rows x) safe.0 safe.1
more c d d' h (Calls.Lock b) (Answers.Lock (Ok x)) n s f p =
    let l = p.driven.leaves in
    grow c d d' h _ s (stepped_lock d d' b l.sectors l.settled) (p.checked ∙ ap (λ (k : ℕ). cond (eqb k 0) 4 0) s.served.rows.count)
    (ap (λ (y : State). y.protected) l.settled ∙ lock_protected b d.settled ∙ s.served.protected) (left_calm d d' _ l)
more c d d' h (Calls.Lock b) (Answers.Lock (Err e)) n s f p =
    let l = p.driven.leaves in
    grow c d d' h _ s (stepped_none d d' _ _ refl (λ _ _. refl) l.sectors l.settled) (p.checked ∙ ap (λ (k : ℕ). cond (eqb k 0) 4 0) s.served.rows.count)
    (ap (λ (y : State). y.protected) l.settled ∙ s.served.protected) (left_calm d d' _ l)
more c d d' h (Calls.Others x) (Answers.Others a) n s f p = ⊎_elim
    (λ (z : 0 < d.sectors).
    let i = others_idle x a d d' f s.served.protected (s.calm z) p.0 in
    grow c d d' h _ s (stepped_none d d' _ _ refl (λ _ _. refl) i.sectors i.settled) tt (ap (λ (y : State). y.protected) i.settled ∙ s.served.protected) (λ _. i.calm))
    (λ (z : d.sectors ≤ 0).
    let i = bare x a d d' (omega arith) p.0 in
    let k = i.0 in
    grow c d d' h _ s (stepped_none d d' _ _ refl (λ _ _. refl) i.0 i.1) tt (ap (λ (y : State). y.protected) i.1 ∙ s.served.protected) (λ y. absurd (omega arith)))
    (cases_lt 0 d.sectors)
more c d d' h _ _ n s f p = absurd p

-- What the calls xs of a list have come to: each is answered, all were made one after the other, and the law holds of them.
pub record SoFar (c d : Chip) (all xs : List ServiceCall) (rs : List Reply) : Type 0 where
  pub every : length rs ≡ length xs
  pub ran : Run (history xs rs) c d
  pub stands : c.phase ≡ rest → c.settled.protected ≡ true → all_harmless all ≡ true → Stands c d (history xs rs)

-- one call more of the list
pub so_far_more : (c d d' : Chip) (all xs ys zs : List ServiceCall) (rs : List Reply) (x : ServiceCall) (r : Reply) → ys ≡ x ∷ zs → xs ++ ys ≡ all → SoFar c d all xs rs →
    Done d d' x r.answer r.settling_reads → SoFar c d' all (xs ++ x ∷ []) (rs ++ r ∷ [])
so_far_more c d d' all xs ys zs rs x r next whole s p =
    let push = history_push xs rs x r s.every in
    record {
      every = simp length_push (ap (λ k. k + 1) s.every);
      ran = rw push (run_push (history xs rs) (record { call = x; reply = r }) c d d' s.ran p);
      stands = λ e g f. rw push (more c d d' (history xs rs) x r.answer r.settling_reads (s.stands e g f) (harmless_in xs zs x (ap (λ (l : List ServiceCall). all_harmless (xs ++ l)) (sym next) ∙ ap all_harmless whole ∙ f)) p);
    }
