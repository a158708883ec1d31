-- One call on a driver, from the part c before to d after, with n reads to settle. Assumes nothing.
use Rattle.std.specs.Prelude.{◌≡◌, ℕ}
use Rattle.row_lists.specs.Histories.{asked, given, Made}
use Rattle.row_lists.specs.declared.calls.RowAnswer.{RowAnswer}
use Rattle.row_lists.specs.declared.calls.RowCall.{RowCall}
use Rattle.bus.specs.History.{Answered}
use Rattle.bus.specs.Meaning.{Chip, State}
use Rattle.driver.specs.Calls.{RowDriven, Checked, part_check}
use Rattle.driver.specs.DriverRows.{driver_rows}
use Rattle.driver.specs.Settled.{after_lock_low, after_lock_high}
use Rattle.service.specs.Others.{bus_call}
use Rattle.service.specs.declared.calls.BootBlock.{BootBlock}
use Rattle.service.specs.declared.calls.BootBlock.TheVariants.{Lower, Upper}
use Rattle.service.specs.declared.calls.ServiceAnswer.{ServiceAnswer}
use Rattle.service.specs.declared.calls.ServiceAnswer.TheVariants as Reply
use Rattle.service.specs.declared.calls.ServiceCall.{ServiceCall}
use Rattle.service.specs.declared.calls.ServiceCall.TheVariants.{Row, Lock, Others}

-- what a lock call leaves settled
abbrev pub after_lock : BootBlock → State → State
after_lock Lower s = after_lock_low s
after_lock Upper s = after_lock_high s

-- A row call is made as on any store, and leaves this in the part.
pub record RowDone (c d : Chip) (x : RowCall) (a : RowAnswer) (n : ℕ) : Type 0 where
  pub made : Made (driver_rows c) (driver_rows d) x a
  pub driven : RowDriven c d (asked x) (given a) n

-- No call has an answer of another kind.
abbrev pub Done : Chip → Chip → ServiceCall → ServiceAnswer → ℕ → Type 0
Done c d (Row x) (Reply.Row a) n = RowDone c d x a n
Done c d (Lock b) (Reply.Lock r) n = Checked c d n r (part_check c) 2 0 (after_lock b c.settled)
Done c d (Others x) (Reply.Others a) n = Answered (bus_call x) a c d × (n ≡ 0)
Done c d _ _ n = ⊥
