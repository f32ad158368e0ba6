-- Candidates of lines within 2^29 are within 2^29.
use Rattle.std.proofs.Common.{ℤ, ◌≤◌, ◌^◌, All, unsigned_abs, arith, Bool, true, false}
use Rattle.std.proofs.lemmas.List.Elements.{All-weaker}
use Rattle.pcb_model.specs.declared.design.Design.{Design}
use Rattle.route_lattice.specs.Gather.{unit_of, least_box}
use Rattle.route_lattice.specs.Parts.{IsBoxWithin}
use Rattle.route_lattice.proofs.Within.{lines_within}
use Rattle.route_lattice.proofs.Outlines.{least_within}
use Rattle.plane_joins.specs.declared.area.PlaneArea.{PlaneArea}
use Rattle.plane_joins.specs.declared.limits.TheConstants.{MESH}
use Rattle.plane_joins.specs.Planes.{IsPlaneOf, candidates, lines_in, own_anchors}
use Rattle.plane_joins.specs.inner.Laying.{IsCandidateFit}
use Rattle.plane_joins.proofs.Crossings.{HasEnds, between_has}

abbrev IsNear : ℤ → Type 0
IsNear z = unsigned_abs z ≤ 2 ^ 29

lines_near : (d : Design) (p : PlaneArea) (upright : Bool) → IsBoxWithin (least_box p.rim)
    → All IsNear (lines_in d p upright)
unfolding lines_in
lines_near d p true b =
    lines_within (unit_of d) MESH (least_box p.rim).y0 (least_box p.rim).y1 (own_anchors d p true) b.bottom b.top
lines_near d p false b =
    lines_within (unit_of d) MESH (least_box p.rim).x0 (least_box p.rim).x1 (own_anchors d p false) b.left b.right

pub candidates_fit : (d : Design) (p : PlaneArea) → IsPlaneOf d p → All IsCandidateFit (candidates d p)
unfolding candidates
candidates_fit d p h =
    let b = least_within p.rim (omega (arith, h.some)) h.within in
    All-weaker (HasEnds IsNear) IsCandidateFit
    (λ c e. record {
      from_within = (e.from_has.x_has, e.from_has.y_has);
      to_within = (e.to_has.x_has, e.to_has.y_has);
    }) (candidates d p)
    (between_has IsNear (lines_in d p false) (lines_in d p true) (lines_near d p false b) (lines_near d p true b))
