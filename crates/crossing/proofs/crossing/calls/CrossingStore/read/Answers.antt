use Rattle.crossing.proofs.CrossingLaws.{crossing_reads}
use Rattle.crossing.proofs.crossing.calls.CrossingStore.read.Goals as goal

pub returns-clause-reads : goal.returns-clause-reads
returns-clause-reads g c =
    let x = c.args.self.now in
    crossing_reads x.wiring.lines _ _ c.args.row _ _ _ (g.S.Store.lawful x.below) c.in_ok-read.ensures.reads c.show.ensures.crosses
