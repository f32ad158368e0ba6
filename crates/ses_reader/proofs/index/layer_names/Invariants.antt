use Rattle.std.proofs.Common.{◌≡◌, take}
use Rattle.std.specs.Prelude.{map}
use Rattle.pcb_model.specs.declared.design.BoardLayer.{BoardLayer}
use Rattle.dsn_shapes.specs.Lists.{heads_of}
use Rattle.ses_reader.proofs.index.layer_names.Given as goal

abbrev pub invariant-loop-layer : goal.invariant-loop-layer
invariant-loop-layer l = heads_of l.names.items ≡ map (λ (a : BoardLayer). a.name) (take l.layer-index l.layers)
