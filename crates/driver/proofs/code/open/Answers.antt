use Rattle.std.proofs.Common.{rules, arith}
use Rattle.driver.proofs.Putting.{loaded_more, inside_code, opened_code}
use Rattle.driver.proofs.code.open.Goals as goal

pub put-requires : goal.put-requires
put-requires g c =
    let inside = inside_code _ _ c.loop-load.load-index (record { address = 0; byte = 0 }) c.requires.opening.1 c.loop-load-test.true in
    omega (arith, c.loop-load.invariant.sectors)

pub loop-load-preserved : goal.loop-load-preserved
loop-load-preserved g c = search (rules, loaded_more)

pub returns : goal.returns
returns g c = search (rules, opened_code)
