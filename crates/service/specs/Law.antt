-- The law of a driver with other software on the bus. Assumes nothing.
use Rattle.std.specs.Prelude.{◌≡◌, ℕ, ◌<◌, true, List, [], length, take, slice_index_or}
use Rattle.row_lists.specs.Histories.{told, due}
use Rattle.rows.specs.Refusals.{answered}
use Rattle.rows.specs.Rows.{Rows, Kept}
use Rattle.bus.specs.Meaning.{Chip, rest}
use Rattle.driver.specs.Calls.{part_check}
use Rattle.driver.specs.DriverRows.{driver_rows}
use Rattle.service.specs.Histories.{Event, history, rows_after}
use Rattle.service.specs.Others.{all_harmless}
use Rattle.service.specs.declared.calls.Reply.{Reply}
use Rattle.service.specs.declared.calls.ServiceAnswer.{ServiceAnswer}
use Rattle.service.specs.declared.calls.ServiceAnswer.TheVariants as Answers
use Rattle.service.specs.declared.calls.ServiceCall.{ServiceCall}
use Rattle.service.specs.declared.calls.ServiceCall.TheVariants as Calls

-- The right answer to a call on a part that was c at first, where the history so far says that the rows are m. A row call is told what is
-- due to it on such a store; a lock call is refused, by 4, exactly on a part without sectors. What other software is told is told by
-- the steps of the run alone.
abbrev pub Right : Chip → Rows → ServiceCall → ServiceAnswer → Type 0
Right c m (Calls.Row x) (Answers.Row a) = told a ≡ due m [] x
Right c m (Calls.Lock b) (Answers.Lock r) = answered r ≡ part_check c
Right c m (Calls.Others x) (Answers.Others a) = Unit {0}
Right c m _ _ = ⊥

-- A history h led from c to d: every call got the right answer then, the rows at the end are what the history says, and the part is still
-- protected.
pub record Served (c d : Chip) (h : List Event) : Type 0 where
  pub right : (k : ℕ) (e : Event) → k < length h → Right c (rows_after (driver_rows c) (take k h)) (slice_index_or h k e).call (slice_index_or h k e).reply.answer
  pub rows : Kept (rows_after (driver_rows c) h) (driver_rows d)
  pub protected : d.settled.protected ≡ true

-- on a part that began at rest and protected, with harmless other software
abbrev pub Law : List ServiceCall → List Reply → Chip → Chip → Type 0
Law calls replies c d = c.phase ≡ rest → c.settled.protected ≡ true → all_harmless calls ≡ true → Served c d (history calls replies)
