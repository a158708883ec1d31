use Rattle.settling.proofs.Polling.{Kept, left}
use Rattle.settling.proofs.settle.poll_until_agreed.Given as goal

abbrev pub invariant-loop-before : goal.invariant-loop-before
invariant-loop-before g l =
    let m = g.S.Socket.meaning in
    Kept (m l.initial.socket) l.initial.before (m l.socket) l.reads l.before

-- the cycle time still to run
abbrev pub decreases-loop-before : goal.decreases-loop-before
decreases-loop-before g l = left (g.S.Socket.meaning l.socket).phase
