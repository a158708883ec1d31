use Rattle.std.proofs.Common.{refl}
use Rattle.array.specs.Filling.{fill_from}
use Rattle.cases.proofs.worked.worked_cases.Goals as goal

pub returns-clause-worked : goal.returns-clause-worked
unfolding fill_from
returns-clause-worked c = λ bytes. refl
