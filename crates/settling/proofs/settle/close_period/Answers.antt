use Rattle.std.proofs.Common.{rules}
use Rattle.settling.proofs.Polling.{closed}
use Rattle.settling.proofs.settle.close_period.Goals as goal

pub returns : goal.returns
returns g c = search (rules, closed, g.S.Socket.lawful)
