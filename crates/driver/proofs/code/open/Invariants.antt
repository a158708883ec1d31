use Rattle.driver.proofs.Putting.{Loaded}
use Rattle.driver.proofs.code.open.Given as goal

-- the loads so far are made
abbrev pub invariant-loop-load : goal.invariant-loop-load
invariant-loop-load g l =
    let m = g.S.Socket.meaning in
    Loaded l.code l.load-index (m l.initial.socket) (m l.socket)
