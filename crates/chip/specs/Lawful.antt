-- The meaning of every part is lawful. Assumes nothing.
-- It stands here, and not among the proofs, since the ghost member of a part cites it.
use Rattle.std.specs.Prelude.{◌≡◌, ℕ, ◌*◌, length}
use Rattle.std.proofs.Common.{arith}
use Rattle.chip.specs.declared.part.Part.{Part}
use Rattle.chip.specs.declared.phase.Phase.{Phase as Stage}
use Rattle.chip.specs.declared.phase.Phase.TheVariants.{Rest, Open, Cycle}
use Rattle.period.specs.declared.open.OpenPeriod.{OpenPeriod}
use Rattle.period.specs.Meaning.{period_of}
use Rattle.bus.specs.Meaning.{State, Period}
use Rattle.bus.specs.Lawful.{Lawful, Timely}
use Rattle.kinds.specs.Style.{Style}
use Rattle.array.specs.Sizes.{array_fits, array_sized, settle_sized}
use Rattle.chip.specs.Meaning.{count_of, stored, settled_at, phase_at, meant}

sized_at : (y : Style) (g : Stage) (n : ℕ) (s : State) (p : OpenPeriod) → length s.bytes ≡ 128 * n → length (settled_at y g n s (period_of n p)).bytes ≡ 128 * n
sized_at y Rest n s p h = h
sized_at y (Open age) n s p h = settle_sized y n s p h
sized_at y (Cycle e t) n s p h = h

timely_at : (g : Stage) (s : State) (p : Period) → Timely (phase_at g s p)
timely_at Rest s p = tt
timely_at (Open age) s p = omega arith
timely_at (Cycle e t) s p = (omega arith, omega arith)

pub part_lawful : {B : Type 0} (y : Style) (p : Part B) → Lawful (meant y p)
part_lawful y p =
    let f = array_fits p.array in
    record {
      sized = sized_at y p.phase (count_of p) (stored p) p.period (array_sized p.array);
      most = f.0;
      least = f.2;
      counts = omega arith;
      timely = timely_at p.phase (stored p) (period_of (count_of p) p.period);
    }
