use Rattle.std.proofs.Common.{◌≡◌, drop}
use Rattle.std.specs.List.{list_all}
use Rattle.pcb_model.specs.Scale.{is_whole_point}
use Rattle.pcb_model.proofs.scale.has_whole_loops.Given as goal

abbrev pub invariant-loop-points : goal.invariant-loop-points
invariant-loop-points l =
    list_all (list_all (is_whole_point l.nm)) (drop l.points-index l.loops)
    ≡ list_all (list_all (is_whole_point l.nm)) l.loops
