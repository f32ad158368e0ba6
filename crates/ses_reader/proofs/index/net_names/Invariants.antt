use Rattle.std.proofs.Common.{◌≡◌, take}
use Rattle.std.specs.Prelude.{map}
use Rattle.pcb_model.specs.declared.design.Net.{Net}
use Rattle.dsn_shapes.specs.Lists.{heads_of}
use Rattle.ses_reader.proofs.index.net_names.Given as goal

abbrev pub invariant-loop-net : goal.invariant-loop-net
invariant-loop-net l = heads_of l.names.items ≡ map (λ (n : Net). n.name) (take l.net-index l.nets)
