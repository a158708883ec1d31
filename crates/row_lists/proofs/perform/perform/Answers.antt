use Rattle.std.proofs.Common.{arith}
use Rattle.std.proofs.lemmas.Grind.{common_steps}
use Rattle.row_lists.proofs.HistoryLaws.{performed_more, own_more}
use Rattle.row_lists.proofs.perform.perform.Goals as goal

pub loop-call-preserved : goal.loop-call-preserved
loop-call-preserved g c =
    let known = c.loop-call.invariant in
    let items = c.push_reserved.ensures.items in
    record {
      can_next = tt;
      is_finite = tt;
      all = grind (arith, common_steps);
      room = grind (arith, common_steps);
      performed = rw items (performed_more _ _ _ _ _ _ _ (g.S.Store.lawful c.args.store.now) known.performed c.make.ensures.made);
      own = rw items (own_more g.S.Store.promise _ _ _ _ _ _ _ known.performed.every known.own c.make.ensures.own);
    }
