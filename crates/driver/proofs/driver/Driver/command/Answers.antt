use Rattle.std.proofs.Common.{rules}
use Rattle.driver.proofs.driver.Driver.command.Goals as goal

pub returns : goal.returns
returns g c after sends =
    let ready = c.in_ok-settle_at.ensures.checked.ready in
    let sent = sends _ _ ready c.send.ensures in
    search rules
