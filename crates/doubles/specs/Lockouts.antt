-- A store with its first rows locked.
use Rattle.std.specs.Prelude.{◌||◌, ℕ, ltb}
use Rattle.rows.specs.Rows.{Rows, Lawful}

-- rows below n are locked, beside those that are locked below
abbrev pub locking : ℕ → Rows → Rows
locking n m = record {
  count = m.count;
  row = λ r. record { shown = (m.row r).shown; locked = (m.row r).locked || ltb r n; home = (m.row r).home; laid = (m.row r).laid };
  bottom = m.bottom;
}

pub locking_lawful : (n : ℕ) (m : Rows) → Lawful m → Lawful (locking n m)
locking_lawful n m l = record { few = l.few; whole = l.whole; bytes = l.bytes; apart = l.apart; lies = l.lies }
