-- What a call of the driver does to the part. Assumes nothing.
use Rattle.std.specs.Prelude.{◌≡◌, ℕ, ◌+◌, ◌*◌, ◌<◌, ◌≤◌, cond, Ok, Err, Result, ◌==◌}
use Rattle.rows.specs.Exchanges.{Asked, ask_count, ask_read, ask_write, ask_lock, Given, give_count, give_read, give_write, give_lock}
use Rattle.rows.specs.Refusals.{answered}
use Rattle.rows.specs.declared.refusal.RowRefusal.{RowRefusal}
use Rattle.bus.specs.Meaning.{Chip, State, rest}
use Rattle.settling.specs.Settling.{reads_after}
use Rattle.driver.specs.Settled.{after_write}

-- The check of protect and of the lock calls: 4 on a part without sectors.
abbrev pub part_check : Chip → ℕ
part_check c = cond (c.sectors == 0) 4 0

-- the first where the call was accepted, else the second
abbrev pub when_accepted : {X Y : Type 0} → Result X RowRefusal → Y → Y → Y
when_accepted (Ok x) a b = a
when_accepted (Err e) a b = b

-- A call settled so many times by n reads in all, 2 to 101 each time and none on a part without sectors, and made more
-- reads besides. The part counts them all.
pub record Settlings (c d : Chip) (n times more : ℕ) : Type 0 where
  pub none : c.sectors ≡ 0 → n ≡ 0
  pub least : 0 < c.sectors → 2 * times ≤ n
  pub most : n ≤ 101 * times
  pub reads : d.reads ≡ reads_after c.reads (n + more)

-- The part is as it was, but for this settled state, and at rest if it has sectors.
pub record Leaves (c d : Chip) (s : State) : Type 0 where
  pub sectors : d.sectors ≡ c.sectors
  pub device : d.device ≡ c.device
  pub settled : d.settled ≡ s
  pub rests : 0 < c.sectors → d.phase ≡ rest

-- A call that answered r and told n reads. An accepted one settled so many times, made more reads besides and left the
-- settled state s; a refused one settled once, read nothing else and left the settled state as it was.
pub record Driven {X : Type 0} (c d : Chip) (n : ℕ) (r : Result X RowRefusal) (times more : ℕ) (s : State) : Type 0 where
  pub told : Settlings c d n (when_accepted r times 1) (when_accepted r more 0)
  pub leaves : Leaves c d (when_accepted r s c.settled)

-- the same of a call that answers by this check
pub record Checked {X : Type 0} (c d : Chip) (n : ℕ) (r : Result X RowRefusal) (check times more : ℕ) (s : State) : Type 0 where
  pub checked : answered r ≡ check
  pub driven : Driven c d n r times more s

-- What protect and the lock calls promise: two settlings where the part has sectors, and this settled state.
abbrev pub Commanded : {X : Type 0} → Chip → Chip → ℕ → Result X RowRefusal → State → Type 0
Commanded c d n r s = Checked c d n r (part_check c) 2 0 s

-- What a row call leaves in the part, and the reads that it told. Counting the rows leaves the part untouched. No call has an
-- answer of another kind.
abbrev pub RowDriven : Chip → Chip → Asked → Given → ℕ → Type 0
RowDriven c d ask_count (give_count k) n = (d ≡ c) × (n ≡ 0)
RowDriven c d (ask_read row place) (give_read after r) n = Driven c d n r 1 128 c.settled
RowDriven c d (ask_write row bytes) (give_write r) n = Driven c d n r 2 0 (after_write c.settled row bytes)
RowDriven c d (ask_lock row) (give_lock r) n = Driven c d n r 1 0 c.settled
RowDriven c d _ _ n = ⊥
