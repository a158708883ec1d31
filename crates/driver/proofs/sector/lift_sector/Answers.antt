use Rattle.driver.specs.Loading.{lift}
use Rattle.driver.proofs.Putting.{coding_none}
use Rattle.driver.proofs.Storing.{lifted}
use Rattle.driver.proofs.sector.lift_sector.Goals as goal

pub returns : goal.returns
returns g c =
    let m = g.S.Socket.meaning in
    let start = c.args.socket.now in
    let read = m c.read_sector.new.socket in
    let opened = coding_none lift _ read (m c.open.new.socket) c.six.ensures c.open.ensures in
    lifted (m start) read (m c.load_page.new.socket) c.args.sector c.read_sector.new.page (g.S.Socket.lawful start) c.requires.present c.requires.free c.read_sector.ensures.quiet
    c.read_sector.ensures.fills (c.load_page.ensures lift read opened)
