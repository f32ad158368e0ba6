use Rattle.std.proofs.Common.{sym, arith}
use Rattle.std.proofs.lemmas.List.{take_all}
use Rattle.dsn_shapes.proofs.layers.first_layers.Goals as goal

pub returns-then-layers-clause-value : goal.returns-then-layers-clause-value
returns-then-layers-clause-value c = sym (take_all 32 c.args.layers.now (omega arith))
