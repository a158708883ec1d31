use Rattle.settling.proofs.Polling.{poll_gives}
use Rattle.settling.proofs.settle.poll.Goals as goal

pub returns : goal.returns
returns g c =
    let meaning = g.S.Socket.meaning in
    poll_gives (meaning c.args.socket.now) (meaning c.read.new.self) _ _ c.requires c.read.ensures.moves c.map_or.ensures
