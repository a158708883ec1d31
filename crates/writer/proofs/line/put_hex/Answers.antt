use Rattle.std.proofs.Common.{◌≡◌, ◌+◌, ◌-◌, ◌*◌, ◌/◌, ◌^◌, arith, append_assoc, append-nil, div-one, refl}
use Rattle.writer.proofs.Lines.{hex_more, byte_put}
use Rattle.writer.proofs.line.put_hex.Goals as goal

pub loop-digit-init : goal.loop-digit-init
loop-digit-init c = λ p w f. let z : c.args.digits - c.args.digits ≡ 0 = omega arith in let a : c.args.at + 0 ≡ c.args.at = omega arith in rw (z, a, append-nil) f

pub loop-digit-preserved : goal.loop-digit-preserved
loop-digit-preserved c =
    let more = hex_more c.args.digits c.loop-digit.digit c.args.number c.loop-digit-test.true c.loop-digit.auto.digit in
    let n = c.args.at + (c.args.digits - c.loop-digit.digit) in
    let here : c.args.at + c.args.digits - 1 - (c.loop-digit.digit - 1) ≡ n = omega arith in
    let next : c.args.at + (c.args.digits - (c.loop-digit.digit - 1)) ≡ n + 1 = omega arith in
    λ p w f. rw (here, next, ← more, ← append_assoc, ← c.hex_digit.ensures) (byte_put p _ c.loop-digit.place n c.hex_digit.result (omega arith) (c.loop-digit.invariant p w f))

pub returns : goal.returns
returns c =
    let z : c.loop-digit.digit ≡ 0 = omega arith in
    let all : c.args.digits - c.loop-digit.digit ≡ c.args.digits = omega arith in
    let whole : c.args.number / 2 ^ (4 * c.loop-digit.digit) ≡ c.args.number = rw z (div-one c.args.number) in
    record { end = refl; text = λ p w f. rw (all, whole) at (c.loop-digit.invariant p w f) }
