-- Histories of calls on a driver, with their replies, and what they tell. Assumes nothing.
use Rattle.std.specs.Prelude.{◌≡◌, ℕ, Bool, true, false, ◌&&◌, ◌||◌, List, [], ◌∷◌, None, Ok, Err, Option, Result}
use Rattle.std.specs.Option.{unwrap_or}
use Rattle.row_lists.specs.Histories.{Taken, accepted, taken_by, or_else}
use Rattle.rows.specs.Rows.{Row, Rows}
use Rattle.rows.specs.declared.refusal.RowRefusal.{RowRefusal}
use Rattle.bus.specs.Meaning.{Chip}
use Rattle.bus.specs.Outcomes.{in_locked}
use Rattle.service.specs.Steps.{Done}
use Rattle.service.specs.declared.calls.BootBlock.{BootBlock}
use Rattle.service.specs.declared.calls.BootBlock.TheVariants.{Lower, Upper}
use Rattle.service.specs.declared.calls.Reply.{Reply}
use Rattle.service.specs.declared.calls.ServiceAnswer.{ServiceAnswer}
use Rattle.service.specs.declared.calls.ServiceAnswer.TheVariants as Answers
use Rattle.service.specs.declared.calls.ServiceCall.{ServiceCall}
use Rattle.service.specs.declared.calls.ServiceCall.TheVariants as Calls

-- a call with its reply
pub record Event : Type 0 where
  pub call : ServiceCall
  pub reply : Reply

-- calls beside their replies, the oldest first
abbrev pub history : List ServiceCall → List Reply → List Event
history [] rs = []
history (x ∷ xs) [] = []
history (x ∷ xs) (r ∷ rs) = record { call = x; reply = r } ∷ history xs rs

-- every call of the history, one after the other
abbrev pub Run : List Event → Chip → Chip → Type 0
Run [] c d = d ≡ c
Run (e ∷ h) c d = (m : Chip) × Done c m e.call e.reply.answer e.reply.settling_reads × Run h m d

-- our accepted write in an event, if it is one
abbrev pub took_by : ServiceCall → ServiceAnswer → Option Taken
took_by (Calls.Row x) (Answers.Row a) = accepted x a
took_by _ _ = None

abbrev pub took : Event → Option Taken
took e = took_by e.call e.reply.answer

-- the bytes of our last accepted write to row r
abbrev pub last_write : ℕ → List Event → Option (List ℕ)
last_write r [] = None
last_write r (e ∷ h) = or_else (last_write r h) (taken_by r (took e))

-- whether row r lies in the boot block of a part of n sectors
abbrev pub in_block : ℕ → BootBlock → ℕ → Bool
in_block n Lower r = in_locked n true false r
in_block n Upper r = in_locked n false true r

abbrev pub is_accepted : {X : Type 0} → Result X RowRefusal → Bool
is_accepted (Ok x) = true
is_accepted (Err e) = false

-- whether an event is our accepted lock call on the block of row r
abbrev pub locks_by : ℕ → ℕ → ServiceCall → ServiceAnswer → Bool
locks_by n r (Calls.Lock b) (Answers.Lock x) = is_accepted x && in_block n b r
locks_by n r _ _ = false

abbrev pub locked_by : ℕ → ℕ → List Event → Bool
locked_by n r [] = false
locked_by n r (e ∷ h) = locks_by n r e.call e.reply.answer || locked_by n r h

-- A row after the history: it shows our last accepted write, or else what it showed at first, and it is locked if it was at first
-- or an accepted lock call on its block stands in the history.
abbrev pub row_after : Rows → List Event → ℕ → Row
row_after m h r = record {
  shown = unwrap_or (last_write r h) (m.row r).shown;
  locked = (m.row r).locked || locked_by m.count r h;
  home = (m.row r).home;
  laid = (m.row r).laid;
}

-- what the history says that a store is which was m at first
abbrev pub rows_after : Rows → List Event → Rows
rows_after m h = record { count = m.count; row = row_after m h; bottom = λ a. unwrap_or (last_write a h) (m.bottom a) }
