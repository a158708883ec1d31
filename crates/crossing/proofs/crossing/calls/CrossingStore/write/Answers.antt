use Rattle.std.proofs.Common.{◌≡◌, rules}
use Rattle.crossing.proofs.CrossingLaws.{crossing_writes}
use Rattle.crossing.proofs.crossing.calls.CrossingStore.write.Goals as goal

pub returns-clause-writes : goal.returns-clause-writes
returns-clause-writes g c =
    let x = c.args.self.now in
    let same : c.in-Some.page.now ≡ c.args.bytes.now = search rules in
    let below = rw (c.laid.ensures, same) at c.write-2.ensures.writes in
    crossing_writes x.wiring.lines c.args.bytes.now x.wiring.once (λ i. (c.type_inv.bytes i).fits) _ _ c.args.row c.write-2.result below
