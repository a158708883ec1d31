use Rattle.std.proofs.Common.{◌/◌, arith}
use Rattle.writer.proofs.Lines.{length-digit, length_more}
use Rattle.writer.proofs.line.decimal_len.Goals as goal

pub returns-in-0-to-9-clause-len : goal.returns-in-0-to-9-clause-len
returns-in-0-to-9-clause-len c = omega (arith, length-digit c.args.gap (omega arith))

pub returns-in-10-to-99-clause-len : goal.returns-in-10-to-99-clause-len
returns-in-10-to-99-clause-len c = omega (arith, length_more c.args.gap (omega arith) (omega arith), length-digit (c.args.gap / 10) (omega arith))

pub returns-in-100-to-999-clause-len : goal.returns-in-100-to-999-clause-len
returns-in-100-to-999-clause-len c = omega (arith, length_more c.args.gap (omega arith) (omega arith), length_more (c.args.gap / 10) (omega arith) (omega arith), length-digit (c.args.gap / 10 / 10) (omega arith))

pub returns-in-1000-to-9999-clause-len : goal.returns-in-1000-to-9999-clause-len
returns-in-1000-to-9999-clause-len c = omega (arith, length_more c.args.gap (omega arith) (omega arith), length_more (c.args.gap / 10) (omega arith) (omega arith), length_more (c.args.gap / 10 / 10) (omega arith) (omega arith), length-digit (c.args.gap / 10 / 10 / 10) (omega arith))

pub returns-in_default-clause-len : goal.returns-in_default-clause-len
returns-in_default-clause-len c = omega (arith, length_more c.args.gap (omega arith) (omega arith), length_more (c.args.gap / 10) (omega arith) (omega arith), length_more (c.args.gap / 10 / 10) (omega arith) (omega arith), length_more (c.args.gap / 10 / 10 / 10) (omega arith) (omega arith), length-digit (c.args.gap / 10 / 10 / 10 / 10) (omega arith))
