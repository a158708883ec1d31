use Rattle.driver.proofs.Fetching.{Fetched}
use Rattle.driver.proofs.sector.read_sector.Given as goal

abbrev pub invariant-loop-i : goal.invariant-loop-i
invariant-loop-i g l =
    let m = g.S.Socket.meaning in
    Fetched (m l.initial.socket) (m l.socket) l.sector l.i l.initial.page l.page
