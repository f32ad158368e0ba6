use Rattle.std.proofs.Common.{◌≡◌, drop}
use Rattle.std.specs.List.{list_all}
use Rattle.pcb_model.specs.declared.design.Component.{Component}
use Rattle.pcb_model.specs.Scale.{is_whole_point}
use Rattle.pcb_model.proofs.scale.has_whole_places.Given as goal

abbrev pub invariant-loop-c : goal.invariant-loop-c
invariant-loop-c l =
    list_all (λ (c : Component). is_whole_point l.nm c.at) (drop l.c-index l.components)
    ≡ list_all (λ (c : Component). is_whole_point l.nm c.at) l.components
