use Rattle.std.proofs.Common.{◌≡◌, rules, map, sym, ap, ◌∙◌, subst}
use Rattle.wiring.specs.Lines.{EachOnce, crossed, position, reversed}
use Rattle.wiring.proofs.LineLaws.{mapped_all, reversed_once, map_back}
use Rattle.wiring.proofs.wiring.Wiring.reversed.Goals as goal

pub invariant_of-result : goal.invariant_of-result
unfolding reversed
invariant_of-result c =
    let w = c.args.self.now in
    let items = rw c.straight.ensures at c.map.ensures.items in
    let all : c.map.result ≡ reversed w.lines = mapped_all _ (λ j. position j w.lines) _ (λ x y q k. search rules) c.map.result items in
    record { once = subst EachOnce (sym all) (reversed_once w.lines w.once) }

pub returns : goal.returns
unfolding reversed
returns c =
    let w = c.args.self.now in
    let items = rw c.straight.ensures at c.map.ensures.items in
    let all : c.map.result ≡ reversed w.lines = mapped_all _ (λ j. position j w.lines) _ (λ x y q k. search rules) c.map.result items in
    record {
      lines = all;
      undone = λ bs small. ap (λ ls. map (crossed w.lines) (map (crossed ls) bs)) all ∙ map_back w.lines bs w.once small;
    }
