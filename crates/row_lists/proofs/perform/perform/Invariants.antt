use Rattle.std.proofs.Common.{◌≡◌, ◌≤◌, ◌++◌, length, vec_items, vec_capacity}
use Rattle.std.specs.Vec.Iter.{into_iter_items}
use Rattle.row_lists.specs.Histories.{history, OwnKept, Performed}
use Rattle.row_lists.proofs.perform.perform.Given as goal

-- the calls made and those to come are the list, there is room for every answer, and the law and the store's own promise
-- hold of those made
abbrev pub invariant-loop-call : goal.invariant-loop-call
invariant-loop-call g l = record {
  can_next : (goal.iterator-loop-call g).can_next l.call-iterator;
  is_finite : (goal.iterator-loop-call g).is_finite l.call-iterator;
  all : l.yielded ++ into_iter_items l.call-iterator ≡ into_iter_items l.initial.call-iterator;
  room : length (into_iter_items l.initial.call-iterator) ≤ vec_capacity l.answers;
  performed : Performed (g.S.Store.meaning l.initial.store) (g.S.Store.meaning l.store) l.yielded (vec_items l.answers);
  own : OwnKept g.S.Store.promise (history l.yielded (vec_items l.answers)) l.initial.store l.store;
}
