use Rattle.std.proofs.Common.{◌≡◌, decimal, arith}
use Rattle.writer.proofs.Lines.{digits_put}
use Rattle.writer.proofs.line.put_gap.Goals as goal

pub returns : goal.returns
returns c =
    let len = c.decimal_len.ensures.len in
    let start : c.write_digits.result ≡ c.args.at = omega (arith, rw c.from.ensures at c.write_digits.ensures.start, len) in
    let written = rw (start, c.from.ensures, len) at c.write_digits.ensures.written in
    let before = rw start at c.write_digits.ensures.before in
    record {
      end = omega (arith, c.decimal_len.ensures.few);
      text = λ p w f. rw len (digits_put p w c.args.place.now c.write_digits.new.buf (decimal c.args.gap) c.args.at written before c.write_digits.auto.buf (omega (arith, len, c.decimal_len.ensures.few)) f);
    }
