use Rattle.std.proofs.Common.{rules, arith}
use Rattle.driver.proofs.Fetching.{fetched_none, fetched_more, fetched_all}
use Rattle.driver.proofs.sector.read_sector.Goals as goal

pub loop-i-init : goal.loop-i-init
loop-i-init g c = search (rules, fetched_none, g.S.Socket.lawful)

pub loop-i-preserved : goal.loop-i-preserved
loop-i-preserved g c = search (rules, fetched_more, g.S.Socket.lawful)

pub returns : goal.returns
returns g c =
    let (quiet, fills, shows) = fetched_all _ _ c.args.sector c.loop-i.i c.args.page.now c.loop-i.page c.told-page (omega arith) c.loop-i.invariant in
    record { quiet = quiet; fills = fills; shows = shows }
