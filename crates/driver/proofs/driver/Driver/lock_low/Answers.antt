use Rattle.std.proofs.Common.{rules}
use Rattle.driver.specs.Settled.{after_lock_low}
use Rattle.driver.proofs.driver.Driver.lock_low.Goals as goal

pub returns : goal.returns
returns g c = c.command.ensures after_lock_low (search rules)
