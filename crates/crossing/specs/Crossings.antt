-- What a crossing shows.
use Rattle.std.specs.Prelude.{ℕ, List, map}
use Rattle.std.proofs.Common.{sym, ap, ◌∙◌}
use Rattle.std.proofs.lemmas.List.{length-map}
use Rattle.rows.specs.Rows.{Row, Rows, Lawful}
use Rattle.wiring.specs.Lines.{EachOnce, crossed, reversed}
use Rattle.wiring.proofs.LineLaws.{back_map, map_small}

-- a row through the lines ls: its bytes cross on their way up, and on their way down go through the reverse
abbrev pub crossed_row : List ℕ → Row → Row
crossed_row ls x = record {
  shown = map (crossed ls) x.shown;
  locked = x.locked;
  home = x.home;
  laid = λ b. x.laid (map (crossed (reversed ls)) b);
}

abbrev pub crossing : List ℕ → Rows → Rows
crossing ls m = record { count = m.count; row = λ r. crossed_row ls (m.row r); bottom = m.bottom }

pub crossing_lawful : (ls : List ℕ) (m : Rows) → EachOnce ls → Lawful m → Lawful (crossing ls m)
crossing_lawful ls m once l = record {
  few = l.few;
  whole = λ r h. length-map (m.row r).shown (crossed ls) ∙ l.whole r h;
  bytes = λ r i h. map_small ls (m.row r).shown i once.0;
  apart = l.apart;
  lies = λ r h. l.lies r h ∙ ap (m.row r).laid (sym (back_map ls (m.row r).shown once (λ i. l.bytes r i h)));
}
