use Rattle.std.proofs.Common.{◌≡◌}
use Rattle.std.proofs.Math.Seq.{paste}
use Rattle.bus.specs.Outcomes.{programmed}
use Rattle.array.specs.Filling.{fill_from}
use Rattle.array.proofs.flash.closing.write_page.Given as goal

abbrev pub invariant-loop-i : goal.invariant-loop-i
invariant-loop-i g l =
    l.memory ≡ paste l.initial.memory l.base (programmed l.page (fill_from g.B.Behaviour.style.filler l.initial.memory l.base 128)) l.i
