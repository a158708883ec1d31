use Rattle.std.proofs.Common.{rules}
use Rattle.settling.proofs.Polling.{kept_first, kept_more, left_less, kept_done}
use Rattle.settling.proofs.settle.poll_until_agreed.Goals as goal

pub loop-before-init : goal.loop-before-init
loop-before-init g c = search (rules, kept_first)

pub loop-before-preserved : goal.loop-before-preserved
loop-before-preserved g c = search (rules, kept_more)

pub loop-before-smaller : goal.loop-before-smaller
loop-before-smaller g c = search (rules, left_less)

pub returns : goal.returns
returns g c = search (rules, kept_done)
