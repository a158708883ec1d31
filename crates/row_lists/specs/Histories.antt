-- Lists of row calls with their answers, and what they tell.
use Rattle.std.specs.Prelude.{◌≡◌, ℕ, ◌<◌, Bool, true, false, cond, List, [], ◌∷◌, ◌++◌, length, take, drop, is_some, Some, None, Ok, Err, vec_items, Option, Result, ◌==◌, ◌≢◌, slice_index_or}
use Rattle.std.specs.Option.{unwrap_or}
use Rattle.rows.specs.Exchanges.{Asked, ask_count, ask_read, ask_write, ask_lock, Given, give_count, give_read, give_write, give_lock}
use Rattle.rows.specs.Refusals.{number, answered}
use Rattle.rows.specs.RowCalls.{read_check, write_check, lock_check}
use Rattle.rows.specs.Rows.{Rows, Kept, Stored}
use Rattle.row_lists.specs.declared.calls.RowAnswer.{RowAnswer}
use Rattle.row_lists.specs.declared.calls.RowAnswer.TheVariants.{Count, Place, Done, Lock}
use Rattle.row_lists.specs.declared.calls.RowCall.{RowCall}
use Rattle.row_lists.specs.declared.calls.RowCall.TheVariants.{CountRows, Read, Write, AskLock}
use Rattle.rows.specs.declared.refusal.RowRefusal.{RowRefusal}

-- What a caller is told: the number of rows, or the number of the refusal (0: accepted) with what the place then holds,
-- or with the lock (false where the question was refused).
pub data Told : Type 0 where
  count : ℕ → Told
  read : ℕ → List ℕ → Told
  write : ℕ → Told
  lock : ℕ → Bool → Told

abbrev pub lock_told : Result Bool RowRefusal → Told
lock_told (Ok b) = lock 0 b
lock_told (Err e) = lock (number e) false

abbrev pub told : RowAnswer → Told
told (Count n) = count n
told (Place place result) = read (answered result) (vec_items place)
told (Done result) = write (answered result)
told (Lock result) = lock_told result

-- A call and its answer as a store's own promise has them.
abbrev pub asked : RowCall → Asked
asked CountRows = ask_count
asked (Read row place) = ask_read row (vec_items place)
asked (Write row bytes) = ask_write row (vec_items bytes)
asked (AskLock row) = ask_lock row

abbrev pub given : RowAnswer → Given
given (Count n) = give_count n
given (Place place result) = give_read (vec_items place) result
given (Done result) = give_write result
given (Lock result) = give_lock result

-- A history: calls with their answers, the oldest first.
pub record Event : Type 0 where
  pub call : RowCall
  pub answer : RowAnswer

abbrev pub history : List RowCall → List RowAnswer → List Event
history [] xs = []
history (c ∷ cs) [] = []
history (c ∷ cs) (a ∷ xs) = record { call = c; answer = a } ∷ history cs xs

-- a row and the bytes that it took
pub record Taken : Type 0 where
  pub row : ℕ
  pub bytes : List ℕ

-- what a write of b to a row took, by what the caller is told
abbrev pub taken_if : ℕ → List ℕ → Told → Option Taken
taken_if row b (count n) = None
taken_if row b (read n p) = None
taken_if row b (write n) = cond (n == 0) (Some (record { row = row; bytes = b })) None
taken_if row b (lock n l) = None

-- the accepted write in an event, if it is one
abbrev pub accepted : RowCall → RowAnswer → Option Taken
accepted CountRows a = None
accepted (Read row place) a = None
accepted (Write row bytes) a = taken_if row (vec_items bytes) (told a)
accepted (AskLock row) a = None

-- the bytes that row r took, if it did
abbrev pub taken_by : ℕ → Option Taken → Option (List ℕ)
taken_by r None = None
taken_by r (Some t) = cond (t.row == r) (Some t.bytes) None

-- the first where there is one, else the second
abbrev pub or_else : {X : Type 0} → Option X → Option X → Option X
or_else None y = y
or_else (Some x) y = Some x

-- the bytes of the last accepted write to row r
abbrev pub last_write : ℕ → List Event → Option (List ℕ)
last_write r [] = None
last_write r (e ∷ h) = or_else (last_write r h) (taken_by r (accepted e.call e.answer))

-- What row r shows after the history h on a store that was m at first: the last accepted write to it, or else its
-- first bytes.
abbrev pub shows : Rows → List Event → ℕ → List ℕ
shows m h r = unwrap_or (last_write r h) (m.row r).shown

-- What the call has to be told after the history h on a store that was m at first.
abbrev pub read_due : ℕ → List ℕ → List ℕ → Told
read_due n shown place = read n (cond (n == 0) (shown ++ drop 128 place) place)

abbrev pub lock_due : ℕ → Bool → Told
lock_due n locked = lock n (cond (n == 0) locked false)

abbrev pub due : Rows → List Event → RowCall → Told
due m h CountRows = count m.count
due m h (Read row place) = read_due (read_check m row (length (vec_items place))) (shows m h row) (vec_items place)
due m h (Write row bytes) = write (write_check m row (length (vec_items bytes)))
due m h (AskLock row) = lock_due (lock_check m row) (m.row row).locked

-- What an event did to the store: the row took the bytes, or nothing changed.
abbrev pub Moved : Rows → Rows → Option Taken → Type 0
Moved m m' None = Kept m m'
Moved m m' (Some t) = (t.row < m.count) × Stored m m' t.row t.bytes

-- One call, from the meaning m before to m' after.
pub record Made (m m' : Rows) (c : RowCall) (a : RowAnswer) : Type 0 where
  pub right : told a ≡ due m [] c
  pub moved : Moved m m' (accepted c a)

-- a store's own promise, kept at every call
abbrev pub OwnKept : {S : Type 0} → (S → Asked → Given → S → Type 0) → List Event → S → S → Type 0
OwnKept R [] s t = t ≡ s
OwnKept {S = S} R (e ∷ h) s t = (m : S) × R s (asked e.call) (given e.answer) m × OwnKept R h m t

-- The law of a list of row calls, from the meaning m before to m' after.
pub record Obeyed (m m' : Rows) (h : List Event) : Type 0 where
  -- each call was told what was due to it then
  pub right : (k : ℕ) (e : Event) → k < length h → told (slice_index_or h k e).answer ≡ due m (take k h) (slice_index_or h k e).call
  -- each row shows its last accepted write, or else its first bytes
  pub shown : (r : ℕ) → (m'.row r).shown ≡ shows m h r
  -- the number of rows, the locks and where the rows lie are as at first
  pub rows : m'.count ≡ m.count
  pub locks : (r : ℕ) → (m'.row r).locked ≡ (m.row r).locked
  pub homes : (r : ℕ) → (m'.row r).home ≡ (m.row r).home
  pub laid : (r : ℕ) → (m'.row r).laid ≡ (m.row r).laid
  -- only rows that exist took a write; at the bottom the last accepted write to a row lies at its address, and nothing
  -- else changed
  pub exist : (r : ℕ) (b : List ℕ) → last_write r h ≡ Some b → r < m.count
  pub landed : (r : ℕ) (b : List ℕ) → last_write r h ≡ Some b → m'.bottom (m.row r).home ≡ (m.row r).laid b
  pub apart : (a : ℕ) → ((r : ℕ) → is_some (last_write r h) ≡ true → (m.row r).home ≢ a) → m'.bottom a ≡ m.bottom a

-- every call is answered, and the law is kept
pub record Performed (m m' : Rows) (calls : List RowCall) (answers : List RowAnswer) : Type 0 where
  pub every : length answers ≡ length calls
  pub obeyed : Obeyed m m' (history calls answers)
