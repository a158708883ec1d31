use Rattle.std.proofs.Common.{arith}
use Rattle.fields.proofs.Numbers.{power_below, product_room}
use Rattle.fields.proofs.numerals.number.Goals as goal

pub overflow_mul-number : goal.overflow_mul-number
overflow_mul-number c = omega (arith, product_room c.loop-byte.number c.args.base c.loop-byte.byte-index c.loop-byte.invariant.1 (omega arith) c.requires.base_top)

pub overflow_add-number : goal.overflow_add-number
overflow_add-number c = omega (arith, product_room c.loop-byte.number c.args.base c.loop-byte.byte-index c.loop-byte.invariant.1 (omega arith) c.requires.base_top, c.in_ok-digit.ensures.value)

pub returns-clause-bound : goal.returns-clause-bound
returns-clause-bound c = omega (arith, power_below c.loop-byte.byte-index c.args.most (omega arith))
