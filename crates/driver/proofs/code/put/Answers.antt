use Rattle.std.specs.Result.{result_err}
use Rattle.driver.proofs.Putting.{puts, put_sectors}
use Rattle.driver.proofs.code.put.Goals as goal

pub returns : goal.returns
returns g c =
    let m = g.S.Socket.meaning in
    let l = c.args.load in
    let p = puts l (m c.args.socket.now) (m c.load.new.self) (result_err c.load.result) c.requires c.load.ensures.moves in
    record { puts = p; sectors = put_sectors l (m c.args.socket.now) (m c.load.new.self) p }
