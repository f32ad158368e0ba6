use Rattle.std.proofs.Common.{◌≡◌, ◌==◌, drop}
use Rattle.std.specs.List.{list_any}
use Rattle.plane_joins.specs.declared.area.PlaneArea.{PlaneArea}
use Rattle.plane_stubs.proofs.nets.has_plane.Given as goal

abbrev pub invariant-loop-p : goal.invariant-loop-p
invariant-loop-p l =
    list_any (λ (p : PlaneArea). p.net == l.net) (drop l.p-index l.planes)
    ≡ list_any (λ (p : PlaneArea). p.net == l.net) l.planes
