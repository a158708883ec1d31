use Rattle.std.proofs.Common.{◌≡◌, ◌≤◌, length, take, vec_items, vec_len, vec_capacity}
use Rattle.bus.specs.History.{Run, Kept, history}
use Rattle.bus.proofs.replay.replay.Given as goal

abbrev pub invariant-loop-call : goal.invariant-loop-call
invariant-loop-call g l =
    let m = g.S.Socket.meaning in
    (l.call-index ≤ length l.calls) × (vec_len l.answers ≡ l.call-index) × (length l.calls ≤ vec_capacity l.answers)
    × Run (history (take l.call-index l.calls) (vec_items l.answers)) (m l.initial.socket) (m l.socket)
    × Kept g.S.Socket.promise (history (take l.call-index l.calls) (vec_items l.answers)) l.initial.socket l.socket
