use Rattle.std.proofs.Common.{arith}
use Rattle.std.proofs.lemmas.Grind.{common_steps}
use Rattle.service.proofs.Laws.{so_far_more}
use Rattle.service.proofs.serve.serve.Goals as goal

pub loop-call-preserved : goal.loop-call-preserved
loop-call-preserved g c =
    let known = c.loop-call.invariant in
    let items = c.push_reserved.ensures.items in
    record {
      can_next = tt;
      is_finite = tt;
      all = grind (arith, common_steps);
      room = grind (arith, common_steps);
      so_far = rw items (so_far_more _ _ _ _ _ _ _ _ _ _ c.in-Some.ensures.steps.0 known.all known.so_far c.make_call.ensures);
    }
