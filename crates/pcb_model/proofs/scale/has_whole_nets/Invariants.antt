use Rattle.std.proofs.Common.{◌≡◌, drop}
use Rattle.std.specs.List.{list_all}
use Rattle.pcb_model.specs.Scale.{is_whole_net}
use Rattle.pcb_model.proofs.scale.has_whole_nets.Given as goal

abbrev pub invariant-loop-n : goal.invariant-loop-n
invariant-loop-n l = list_all (is_whole_net l.d l.nm) (drop l.n-index l.nets) ≡ list_all (is_whole_net l.d l.nm) l.nets
