use Rattle.std.proofs.Common.{rules, ◌≡◌, Some, None, Ok, Err, ◌∙◌, ap, sym}
use Rattle.std.specs.Result.{result_err}
use Rattle.bus.specs.Refusals.{load_refusal}
use Rattle.bus.specs.History.{load_answer}
use Rattle.chip.specs.Meaning.{meant}
use Rattle.chip.proofs.Chosen.{loads_by, own_load, refused_by}
use Rattle.chip.proofs.part.socket.PartSocket.load.Goals as goal

pub returns-in_err-step : goal.returns-in_err-step
returns-in_err-step g c =
    let b = g.B.Behaviour in
    let s = c.args.self.now in
    let m = c.reach.new.self in
    let d = c.step.new.self in
    let l = c.args.load in
    let e = c.in_ok-reach.ensures in
    let f = c.step.ensures in
    let w : c.step.result ≡ Err c.in_err-step.field-0.0 = c.in_err-step.was in
    let r : result_err c.from_residual-in_err-step.result ≡ Some c.in_err-step.field-0.0 = search rules in
    let o : result_err c.from_residual-in_err-step.result ≡ load_refusal (meant b.style m).phase l = r ∙ ap result_err (sym w) ∙ refused_by _ c.step.result f.1 in
    record {
      moves = loads_by b.style (b.times s.behaviour) (b.timely s.behaviour) c.args.gap (meant b.style s) (meant b.style m) e.1 l (meant b.style d) _ e.0 f.0 o;
      own = own_load b.style (b.times s.behaviour) (b.timely s.behaviour) c.args.gap (meant b.style s) (meant b.style m) e.1 (b.times m.behaviour) (b.times d.behaviour) e.2 f.2
          l (meant b.style d) _ e.0 f.0 (ap load_answer o);
    }

pub returns : goal.returns
returns g c =
    let b = g.B.Behaviour in
    let s = c.args.self.now in
    let m = c.reach.new.self in
    let d = c.step.new.self in
    let l = c.args.load in
    let e = c.in_ok-reach.ensures in
    let f = c.step.ensures in
    let w : c.step.result ≡ Ok c.in_ok-step.field-0 = c.in_ok-step.was in
    let o : None ≡ load_refusal (meant b.style m).phase l = ap result_err (sym w) ∙ refused_by _ c.step.result f.1 in
    record {
      moves = loads_by b.style (b.times s.behaviour) (b.timely s.behaviour) c.args.gap (meant b.style s) (meant b.style m) e.1 l (meant b.style d) _ e.0 f.0 o;
      own = own_load b.style (b.times s.behaviour) (b.timely s.behaviour) c.args.gap (meant b.style s) (meant b.style m) e.1 (b.times m.behaviour) (b.times d.behaviour) e.2 f.2
          l (meant b.style d) _ e.0 f.0 (ap load_answer o);
    }
