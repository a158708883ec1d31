use Rattle.std.proofs.Common.{◌≡◌, ℕ, ◌+◌, ◌*◌, ◌≤◌, List, length, refl, ap, arith}
use Rattle.bus.specs.Meaning.{State}
use Rattle.array.specs.declared.flash.FlashArray.{FlashArray}
use Rattle.array.specs.Meaning.{count_of}
use Rattle.array.specs.Sizes.{array_fits}
use Rattle.array.proofs.Sectors.{whole_row}
use Rattle.array.proofs.flash.FlashArray.program.Goals as goal

abbrev with_bytes : FlashArray → List ℕ → State
with_bytes a b = record { bytes = b; protected = a.protected; low_locked = a.low_locked; high_locked = a.high_locked }

pub write_page-requires : goal.write_page-requires
write_page-requires g c = omega (arith, c.requires, (array_fits c.args.self.now).1)

pub returns-clause-bytes : goal.returns-clause-bytes
returns-clause-bytes g c =
    let s = c.args.self.now in
    let m = 128 * count_of s in
    let low : 128 * c.args.sector + 128 ≤ 128 * count_of s = omega (arith, c.requires) in
    ap (with_bytes s)
    (whole_row g.B.Behaviour.style.filler s.memory.now c.write_page.new.memory m m c.args.sector c.args.page.now low (array_fits s).1 refl c.write_page.ensures)
