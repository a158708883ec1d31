-- What a call below a crossing does to what the crossing shows.
use Rattle.std.proofs.Common.{◌≡◌, ℕ, ◌<◌, List, ◌++◌, map, length, get_or, take, drop, Ok, Err, Result, ap, ◌∙◌, arith}
use Rattle.std.proofs.lemmas.List.{length-map, take_at, drop_at}
use Rattle.std.proofs.lemmas.Bool.Decides.{nat_tests}
use Rattle.rows.specs.RowCalls.{Reads, Writes, Wrote, write_check}
use Rattle.rows.specs.Rows.{Rows, Lawful, Kept, Stored}
use Rattle.rows.specs.declared.refusal.RowRefusal.{RowRefusal}
use Rattle.wiring.specs.Lines.{EachOnce, crossed, reversed}
use Rattle.wiring.proofs.LineLaws.{map_back}
use Rattle.crossing.specs.Crossings.{crossed_row, crossing}

pub crossing_kept : (ls : List ℕ) (m m' : Rows) → Kept m m' → Kept (crossing ls m) (crossing ls m')
crossing_kept ls m m' k = record { count = k.count; row = λ r. ap (crossed_row ls) (k.row r); bottom = k.bottom }

-- the bytes that lie below show as those given
module _ (ls b : List ℕ) (once : EachOnce ls) (small : (i : ℕ) → get_or b i 0 < 256) (m m' : Rows) (row : ℕ) where
  crossing_stored : Stored m m' row (map (crossed (reversed ls)) b) → Stored (crossing ls m) (crossing ls m') row b
  crossing_stored s = record {
    count = s.count;
    here = ap (crossed_row ls) s.here
        ∙ ap (λ v. record { shown = v; locked = (m.row row).locked; home = (m.row row).home; laid = λ c. (m.row row).laid (map (crossed (reversed ls)) c) }) (map_back ls b once small);
    other = λ r n. ap (crossed_row ls) (s.other r n);
    landed = s.landed;
    apart = s.apart;
  }

  crossing_wrote : (r : Result (Unit {0}) RowRefusal) → Wrote m m' row (map (crossed (reversed ls)) b) r → Wrote (crossing ls m) (crossing ls m') row b r
  crossing_wrote (Ok x) w = crossing_stored w
  crossing_wrote (Err e) w = crossing_kept ls m m' w

  pub crossing_writes : (r : Result (Unit {0}) RowRefusal) → Writes m m' row (map (crossed (reversed ls)) b) r → Writes (crossing ls m) (crossing ls m') row b r
  crossing_writes r w = record {
    checked = w.checked ∙ ap (write_check m row) (length-map b (crossed (reversed ls)));
    wrote = crossing_wrote r w.wrote;
  }

-- a read below, whose first 128 bytes are then shown through the lines
pub crossing_reads : (ls : List ℕ) (m m' : Rows) (row : ℕ) (p p' q : List ℕ) → Lawful m → Reads {X = Unit {0}} m m' row p p' (Ok tt) →
    q ≡ map (crossed ls) (take 128 p') → Reads {X = Unit {0}} (crossing ls m) (crossing ls m') row p (q ++ drop 128 p') (Ok tt)
crossing_reads ls m m' row p p' q l u e =
    let check = u.checked in
    let within : row < m.count = grind (arith, nat_tests) in
    let w : length (m.row row).shown ≡ 128 = l.whole row within in
    record {
      checked = u.checked;
      fills = rw (e, u.fills, take_at (m.row row).shown (drop 128 p) 128 w, drop_at (m.row row).shown (drop 128 p) 128 w);
      kept = crossing_kept ls m m' u.kept;
    }
