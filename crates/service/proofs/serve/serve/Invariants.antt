use Rattle.std.proofs.Common.{◌≡◌, ◌≤◌, ◌++◌, length, vec_items, vec_capacity}
use Rattle.std.specs.Vec.Iter.{into_iter_items}
use Rattle.service.proofs.Laws.{SoFar}
use Rattle.service.proofs.serve.serve.Given as goal

-- the calls made and those to come are the list, there is room for every reply, and what the calls made have come to
abbrev pub invariant-loop-call : goal.invariant-loop-call
invariant-loop-call g l = record {
  can_next : (goal.iterator-loop-call g).can_next l.call-iterator;
  is_finite : (goal.iterator-loop-call g).is_finite l.call-iterator;
  all : l.yielded ++ into_iter_items l.call-iterator ≡ into_iter_items l.initial.call-iterator;
  room : length (into_iter_items l.initial.call-iterator) ≤ vec_capacity l.replies;
  so_far : SoFar (g.S.Socket.meaning l.initial.driver.socket) (g.S.Socket.meaning l.driver.socket) (into_iter_items l.initial.call-iterator) l.yielded (vec_items l.replies);
}
