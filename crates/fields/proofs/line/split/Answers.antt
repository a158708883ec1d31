use Rattle.std.proofs.Common.{[], ◌∷◌, refl, arith, rules, tests}
use Rattle.fields.proofs.Cuts.{no_field, told}
use Rattle.fields.proofs.line.split.Goals as goal

pub returns-in_err-first : goal.returns-in_err-first
returns-in_err-first c =
    rw c.from_residual.ensures (no_field c.split-parts.result _ _ c.args.line.now [] c.next.result refl c.next.ensures.steps c.split-parts.ensures.rest c.split-parts.ensures.done c.split-parts.ensures.closure (λ x b q k. search (rules, tests)) (omega arith) c.in_err-first.ensures)

pub returns-in_err-second : goal.returns-in_err-second
returns-in_err-second c =
    rw c.from_residual-in_err-second.ensures (no_field c.split-parts.result _ _ c.args.line.now (c.in_ok-first.first ∷ []) c.next-2.result (c.next.new.self, rw c.in_ok-first.ensures.0 at c.next.ensures.steps, refl) c.next-2.ensures.steps c.split-parts.ensures.rest c.split-parts.ensures.done c.split-parts.ensures.closure (λ x b q k. search (rules, tests)) (omega arith) c.in_err-second.ensures)

pub returns-in_err-third : goal.returns-in_err-third
returns-in_err-third c =
    rw c.from_residual-in_err-third.ensures (no_field c.split-parts.result _ _ c.args.line.now (c.in_ok-first.first ∷ (c.in_ok-second.second ∷ [])) c.next-3.result (c.next.new.self, rw c.in_ok-first.ensures.0 at c.next.ensures.steps, (c.next-2.new.self, rw c.in_ok-second.ensures.0 at c.next-2.ensures.steps, refl)) c.next-3.ensures.steps c.split-parts.ensures.rest c.split-parts.ensures.done c.split-parts.ensures.closure (λ x b q k. search (rules, tests)) (omega arith) c.in_err-third.ensures)

pub returns-in_err-fourth : goal.returns-in_err-fourth
returns-in_err-fourth c =
    rw c.from_residual-in_err-fourth.ensures (no_field c.split-parts.result _ _ c.args.line.now (c.in_ok-first.first ∷ (c.in_ok-second.second ∷ (c.in_ok-third.third ∷ []))) c.next-4.result (c.next.new.self, rw c.in_ok-first.ensures.0 at c.next.ensures.steps, (c.next-2.new.self, rw c.in_ok-second.ensures.0 at c.next-2.ensures.steps, (c.next-3.new.self, rw c.in_ok-third.ensures.0 at c.next-3.ensures.steps, refl))) c.next-4.ensures.steps c.split-parts.ensures.rest c.split-parts.ensures.done c.split-parts.ensures.closure (λ x b q k. search (rules, tests)) (omega arith) c.in_err-fourth.ensures)

pub returns : goal.returns
returns c =
    rw c.then_some.ensures (told c.split-parts.result _ _ c.args.line.now (c.in_ok-first.first ∷ (c.in_ok-second.second ∷ (c.in_ok-third.third ∷ (c.in_ok-fourth.fourth ∷ [])))) c.next-5.result (c.next.new.self, rw c.in_ok-first.ensures.0 at c.next.ensures.steps, (c.next-2.new.self, rw c.in_ok-second.ensures.0 at c.next-2.ensures.steps, (c.next-3.new.self, rw c.in_ok-third.ensures.0 at c.next-3.ensures.steps, (c.next-4.new.self, rw c.in_ok-fourth.ensures.0 at c.next-4.ensures.steps, refl)))) c.next-5.ensures.steps c.split-parts.ensures.rest c.split-parts.ensures.done c.split-parts.ensures.closure (λ x b q k. search (rules, tests)) _ _ c.is_none.ensures refl (omega arith)
    (rw (c.in_ok-first.ensures.1, c.in_ok-second.ensures.1, c.in_ok-third.ensures.1, c.in_ok-fourth.ensures.1) refl))
