use Rattle.std.proofs.Common.{refl, arith}
use Rattle.writer.proofs.Lines.{text_put}
use Rattle.writer.proofs.line.put.Goals as goal

pub returns : goal.returns
returns c = record {
  end = refl;
  text = λ p w f. text_put p w c.args.place.now c.args.text.now c.copy_from_slice.new.self c.args.at _ c.copy_from_slice.ensures.after (omega arith) c.requires f;
}
