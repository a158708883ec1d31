use Rattle.std.proofs.Common.{◌≡◌, length, vec_items, sym, ◌∙◌, arith}
use Rattle.std.proofs.lemmas.List.{take_all}
use Rattle.bus.proofs.Bytes.{law_holds}
use Rattle.bus.proofs.Histories.{run_more, kept_more}
use Rattle.bus.proofs.replay.replay.Goals as goal

pub loop-call-preserved : goal.loop-call-preserved
loop-call-preserved g c =
    let m = g.S.Socket.meaning in
    let i = c.loop-call.call-index in
    let xs = c.args.calls.now in
    let os = vec_items c.loop-call.answers in
    let more = c.loop-call-test.true in
    let same : length os ≡ i = sym c.loop-call.answers.ok.0 ∙ c.loop-call.invariant.1 in
    let items = c.push_reserved.ensures.items in (
      omega arith,
      omega arith,
      omega arith,
      run_more xs os _ i _ _ more same items _ (m c.loop-call.socket) _ c.loop-call.invariant.3 c.make_call.ensures.answered,
      kept_more xs os _ i _ _ more same items g.S.Socket.promise _ c.loop-call.socket _ c.loop-call.invariant.4 c.make_call.ensures.own,
    )

pub returns-clause-law : goal.returns-clause-law
returns-clause-law g c =
    let whole = take_all c.loop-call.call-index c.args.calls.now c.loop-call-test.false in
    λ at_rest. law_holds _ _ _ at_rest (g.S.Socket.lawful c.args.socket.now).sized (rw whole at c.loop-call.invariant.3)
