use Rattle.std.proofs.Common.{◌≡◌, drop}
use Rattle.std.specs.List.{list_all}
use Rattle.pcb_model.specs.Scale.{is_whole_point}
use Rattle.pcb_model.proofs.scale.has_whole_points.Given as goal

abbrev pub invariant-loop-p : goal.invariant-loop-p
invariant-loop-p l = list_all (is_whole_point l.nm) (drop l.p-index l.points) ≡ list_all (is_whole_point l.nm) l.points
