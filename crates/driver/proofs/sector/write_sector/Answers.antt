use Rattle.driver.specs.Loading.{coded}
use Rattle.driver.proofs.Putting.{coding_none, wrote}
use Rattle.driver.proofs.Storing.{stored}
use Rattle.driver.proofs.sector.write_sector.Goals as goal

pub returns : goal.returns
returns g c =
    let m = g.S.Socket.meaning in
    let z = m c.args.socket.now in
    let r = c.args.sector in
    let page = c.args.page.now in
    let opened = coding_none coded _ z (m c.open.new.socket) c.coded.ensures c.open.ensures in
    record {
      sent = wrote coded z (m c.load_page.new.socket) r page c.told-page c.requires.free (c.load_page.ensures coded z opened);
      stored = stored z.sectors z.settled r page (g.S.Socket.lawful c.args.socket.now).sized c.told-page c.requires.present.within c.fits-page;
    }
