-- What a window shows.
use Rattle.std.specs.Prelude.{◌≡◌, ℕ, ◌+◌, ◌-◌, min}
use Rattle.std.proofs.Common.{arith}
use Rattle.rows.specs.Rows.{Rows, Lawful}
use Rattle.layers.specs.declared.window.Window.{Window}

-- at most so many rows of m, from a first row on
abbrev pub windowed : ℕ → ℕ → Rows → Rows
windowed first most m = record { count = min most (m.count - first); row = λ r. m.row (first + r); bottom = m.bottom }

pub windowed_lawful : (first most : ℕ) (m : Rows) → Lawful m → Lawful (windowed first most m)
windowed_lawful first most m l = record {
  few = let h = l.few in omega arith;
  whole = λ r h. l.whole (first + r) (omega arith);
  bytes = λ r i h. l.bytes (first + r) i (omega arith);
  apart = λ r s h k e. let same = l.apart (first + r) (first + s) (omega arith) (omega arith) e in omega arith;
  lies = λ r h. l.lies (first + r) (omega arith);
}

-- the window is where it was
abbrev pub Placed : {S : Type 0} → Window S → Window S → Type 0
Placed w w' = (w'.first ≡ w.first) × (w'.most ≡ w.most)
