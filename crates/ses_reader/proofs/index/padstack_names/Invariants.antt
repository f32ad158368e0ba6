use Rattle.std.proofs.Common.{◌≡◌, take}
use Rattle.std.specs.Prelude.{map}
use Rattle.pcb_model.specs.declared.design.Padstack.{Padstack}
use Rattle.dsn_shapes.specs.Lists.{heads_of}
use Rattle.ses_reader.proofs.index.padstack_names.Given as goal

abbrev pub invariant-loop-padstack : goal.invariant-loop-padstack
invariant-loop-padstack l = heads_of l.names.items ≡ map (λ (s : Padstack). s.name) (take l.padstack-index l.padstacks)
