use Rattle.std.proofs.Common.{rules}
use Rattle.driver.specs.Settled.{after_protect}
use Rattle.driver.proofs.driver.Driver.protect.Goals as goal

pub returns : goal.returns
returns g c = c.command.ensures after_protect (search rules)
