use Rattle.kinds.proofs.Turns.{turn_next}
use Rattle.kinds.proofs.uneven.UnevenBehaviour.next_time.Goals as goal

pub returns-in_default-clause-onward : goal.returns-in_default-clause-onward
returns-in_default-clause-onward c = turn_next c.args.self.now.times.now c.args.self.now.next
