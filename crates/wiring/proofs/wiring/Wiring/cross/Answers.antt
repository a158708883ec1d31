use Rattle.std.proofs.Common.{◌≡◌, ℕ, ◌+◌, ◌*◌, ◌/◌, ◌%◌, ◌^◌, List, [], ◌∷◌, map, reverse, sym, refl, rules, ap, ◌∙◌, Bor, arith}
use Rattle.std.proofs.lemmas.Fn.{serves_by, fold_over}
use Rattle.std.proofs.lemmas.Iterator.Adapters.{YieldsList-from_rev_slice}
use Rattle.std.proofs.lemmas.Iterator.Consumers.{YieldsList-turn}
use Rattle.std.proofs.lemmas.List.{map-append, reverse-reverse}
use Rattle.std.specs.Iterator.Adapters.{rev_steps}
use Rattle.std.specs.Slice.Iter.{iter_steps_back}
use borrow.Author.Tests.{tests}
use Rattle.wiring.specs.Lines.{bit, crossed}
use Rattle.wiring.proofs.LineLaws.{bits_more, next_bit}
use Rattle.wiring.proofs.wiring.Wiring.cross.Goals as goal

-- the closure with the byte that it holds, and the bits so far
abbrev Seen : Type 0
Seen = record { 0 : Bor ℕ } × ℕ

pub fold-requires-clause-callable : goal.fold-requires-clause-callable
fold-requires-clause-callable c =
    let w = c.args.self.now in
    let b = c.args.b in
    serves_by _ (λ (xs : List (Bor ℕ)) (q : Seen). (q.0.0.now ≡ b) × (q.1 ≡ crossed (reverse (map (λ y. y.now) xs)) b))
    (λ xs q x v known turn.
    let made : (v.0.0.now ≡ q.0.0.now) × (v.1 ≡ 2 * q.1 + q.0.0.now / 2 ^ x.now % 2) = search (rules, tests) in
    (made.0 ∙ known.0, made.1 ∙ ap (λ n. 2 * q.1 + bit x.now n) known.0 ∙ bits_more (map (λ y. y.now) xs) b x.now q.1 known.1 ∙ ap (λ ls. crossed (reverse ls) b) (sym (map-append (λ (y : Bor ℕ). y.now) xs (x ∷ [])))))
    _ _ _ _ (refl, refl)
    (λ xs t q x u yields next known.
    let turn = YieldsList-turn (YieldsList-from_rev_slice w.lines cc) xs t yields _ u x refl next in
    let bits = next_bit w.lines b xs x q.1 w.once turn known.1 in
    let names = bits.names in
    let room = bits.room in
    search (rules, arith))

pub returns : goal.returns
returns c =
    let w = c.args.self.now in
    let b = c.args.b in
    fold_over (rev_steps iter_steps_back) (λ (y : Bor ℕ). y.now) _ (λ ys a. a ≡ crossed (reverse ys) b) _ (λ ys a x r f' known call.
    let made : r ≡ 2 * a + b / 2 ^ x.now % 2 = search (rules, tests) in
    (made ∙ bits_more ys b x.now a known, search (rules, tests)))
    c.rev.result (reverse w.lines) 0 c.fold.result (YieldsList-from_rev_slice {s = c.rev.result} w.lines cc).runs refl c.fold.ensures.ran ∙ ap (λ ls. crossed ls b) (reverse-reverse w.lines)
