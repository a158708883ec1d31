use Rattle.trace.proofs.Letters.{short_name, long_name}
use Rattle.trace.proofs.names.column_named.Goals as goal

pub returns-in_default : goal.returns-in_default
returns-in_default c = short_name c.args.name.now c.in_default.len_below

pub returns-in_default-5 : goal.returns-in_default-5
returns-in_default-5 c = long_name c.args.name.now c.in_default.len_at_least
