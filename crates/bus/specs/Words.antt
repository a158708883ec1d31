-- The words that reports print for the kind and the result of a period. Assumes nothing.
use Rattle.std.specs.Prelude.{ℕ, List, codes}
use Rattle.bus.specs.declared.kind.Kind.{Kind}
use Rattle.bus.specs.declared.kind.Kind.TheVariants.{Coded, Lift, Low, High, Plain}
use Rattle.bus.specs.declared.outcome.Outcome.{Outcome}
use Rattle.bus.specs.declared.outcome.Outcome.TheVariants.{Set, Barred, Empty, Mixed, Locked, Written}

abbrev pub kind_word : Kind → List ℕ
kind_word Coded = codes "coded"
kind_word Lift = codes "lift"
kind_word Low = codes "low"
kind_word High = codes "high"
kind_word Plain = codes "plain"

abbrev pub outcome_word : Outcome → List ℕ
outcome_word Set = codes "set"
outcome_word Barred = codes "barred"
outcome_word Empty = codes "empty"
outcome_word Mixed = codes "mixed"
outcome_word (Locked r) = codes "locked"
outcome_word (Written r) = codes "written"
