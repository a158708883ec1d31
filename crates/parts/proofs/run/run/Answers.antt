use Rattle.std.proofs.Common.{vec_items}
use Rattle.std.proofs.lemmas.Result.{IfOk-weaker}
use Rattle.parts.proofs.Exactly.{exact_made}
use Rattle.parts.proofs.run.run.Goals as goal

pub returns : goal.returns
returns g c =
    let b = g.B.Behaviour in
    let e = c.replay.ensures in
    let r = c.replay.result in
    let xs = c.args.calls.now in
    let p = c.args.part.now in
    let q = c.replay.new.socket in
    let told = exact_made b.style b.times vec_items r xs p q e.each e.own in
    record {
      answers = IfOk-weaker r _ _ (λ v t. t.0) told;
      chip = IfOk-weaker r _ _ (λ v t. t.1) told;
      times = IfOk-weaker r _ _ (λ v t. t.2) told;
      law = e.law;
      refused = e.refused;
    }
