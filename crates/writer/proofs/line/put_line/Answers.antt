use Rattle.std.proofs.Common.{[], decimal, arith, rules}
use Rattle.writer.specs.Writing.{letter_of, gap_of, addr_text, data_text, text_of}
use Rattle.writer.proofs.Back.{written_reads}
use Rattle.writer.proofs.Lines.{put_in_turn, addr_value, data_value, none_put}
use Rattle.writer.proofs.line.put_line.Goals as goal

pub returns : goal.returns
unfolding text_of
returns c =
    let p = c.args.place.now in
    let op = c.put-at.ensures.text p [] (none_put p) in
    let gap = c.put_gap-at.ensures.text p _ op in
    let addr = c.put_value-at.ensures.text p _ (addr_text c.args.cycle) (search (rules, addr_value)) (c.put-at-2.ensures.text p _ gap) in
    let all = c.put_value.ensures.text p _ (data_text c.args.cycle) (search (rules, data_value)) (c.put-at-3.ensures.text p _ addr) in
    record {
      text = rw (c.letter.ensures, c.gap.ensures, put_in_turn (letter_of c.args.cycle) (decimal (gap_of c.args.cycle)) (addr_text c.args.cycle) (data_text c.args.cycle)) at all;
      reads = written_reads c.args.cycle (omega (arith, c.gap.ensures, c.gap.type_inv)) c.data.ensures.byte;
    }
