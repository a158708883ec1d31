use Rattle.std.proofs.Common.{◌≡◌}
use Rattle.bus.specs.Meaning.{Chip, none}
use Rattle.driver.specs.Loading.{Code, Coding, first_of}
use Rattle.driver.proofs.sector.load_page.Given as goal

abbrev pub invariant-loop-i : goal.invariant-loop-i
invariant-loop-i g l =
    let m = g.S.Socket.meaning in
    ((m l.socket).sectors ≡ (m l.initial.socket).sectors)
    × ((k : Code) (c : Chip) → Coding k c (m l.initial.socket) none → Coding k c (m l.socket) (first_of l.sector l.page l.i))
