-- Planes on power layers, their lines, and the segments between neighbouring crossings of these.
use Rattle.std.specs.Prelude.{◌≡◌, ℕ, ℤ, ◌+◌, ◌<◌, ◌≤◌, ◌^◌, ◌==◌, ◌&&◌, if◌then◌else◌, Bool, true, false, List, []}
use Rattle.std.specs.Prelude.{◌∷◌, ◌++◌}
use Rattle.std.specs.Prelude.{length, map, filter, flat_map, sum_by, All, Some, slice_get}
use Rattle.std.specs.List.{list_any, enumerate_from}
use Rattle.std.specs.Option.{IsSomeAnd}
use Rattle.geo_kernel.specs.declared.point.Point.{Point}
use Rattle.geo_kernel.specs.Plane.{IsWithin}
use Rattle.pcb_model.specs.declared.item.Item.{Item}
use Rattle.pcb_model.specs.declared.item.Metal.{Metal}
use Rattle.pcb_model.specs.declared.item.Metal.TheVariants.{Wire, Via, Pad, Ban}
use Rattle.pcb_model.specs.declared.design.BoardLayer.{BoardLayer}
use Rattle.pcb_model.specs.declared.design.Pin.{Pin}
use Rattle.pcb_model.specs.declared.design.Design.{Design}
use Rattle.pcb_model.specs.Pairs.{is_same_net}
use Rattle.route_lattice.specs.Gather.{coordinate, high_side, least_box, low_side, unit_of}
use Rattle.route_lattice.specs.Lines.{line_list}
use Rattle.route_lattice.specs.Round.{nearest}
use Rattle.route_lattice.specs.Ways.{has_copper}
use Rattle.plane_joins.specs.declared.area.PlaneArea.{PlaneArea}
use Rattle.plane_joins.specs.declared.candidate.Candidate.{Candidate}
use Rattle.plane_joins.specs.declared.limits.TheConstants.{MESH}

-- ---- planes
abbrev pub IsPower : Design → ℕ → Type 0
IsPower d layer = IsSomeAnd (slice_get d.layers layer) (λ (l : BoardLayer). l.power ≡ true)

-- a plane of a net of the design, on a power layer, with a rim of three points or more
pub record IsPlaneOf (d : Design) (p : PlaneArea) : Type 0 where
  pub net_there : p.net < length d.nets
  pub on_power : IsPower d p.layer
  pub some : 3 ≤ length p.rim
  pub within : All (IsWithin (2 ^ 29)) p.rim
  pub width_within : p.width ≤ 2 ^ 28

-- ---- lines
abbrev pub is_pad_of : ℕ → Metal → Bool
is_pad_of pin (Pad i) = i == pin
is_pad_of pin (Wire layer width chain) = false
is_pad_of pin (Via padstack at) = false
is_pad_of pin (Ban wires vias) = false

-- the pad of the pin has copper on the layer
unfoldable pub has_pad_on : Design → ℕ → ℕ → Bool
has_pad_on d layer pin = list_any (λ (a : Item). is_pad_of pin a.metal && has_copper a.pieces layer) d.fixed

-- a pin of the plane's net that has copper on its layer
abbrev pub is_own : Design → PlaneArea → ℕ × Pin → Bool
is_own d p q = is_same_net q.1.net (Some p.net) && has_pad_on d p.layer q.0

-- the coordinates of their anchors: y where upright, else x
abbrev pub own_anchors : Design → PlaneArea → Bool → List ℤ
own_anchors d p upright =
    map (λ (q : ℕ × Pin). nearest (unit_of d) (coordinate upright q.1.centre))
    (filter (is_own d p) (enumerate_from 0 d.pins))

-- the lines of a plane, strictly inside its rim's box: the y lines where upright, else the x lines
unfoldable pub lines_in : Design → PlaneArea → Bool → List ℤ
lines_in d p upright =
    line_list (unit_of d) MESH (low_side upright (least_box p.rim)) (high_side upright (least_box p.rim))
    (own_anchors d p upright)

-- ---- candidates
-- the crossing of a line, which is an x line where upright, with one of the other direction
abbrev pub crossing : Bool → ℤ → ℤ → Point
crossing upright line other = if upright then record { x = line; y = other } else record { x = other; y = line }

-- from a point to the first of the others, and on from each to the next
abbrev pub steps_from : Point → List Point → List Candidate
steps_from p [] = []
steps_from p (q ∷ qs) = record { from = p; to = q } ∷ steps_from q qs

abbrev pub steps : List Point → List Candidate
steps [] = []
steps (p ∷ ps) = steps_from p ps

-- along one line, from each crossing to the next
abbrev pub along : Bool → List ℤ → ℤ → List Candidate
along upright others line = steps (map (crossing upright line) others)

-- along the y lines, and then along the x lines
unfoldable pub between_lines : List ℤ → List ℤ → List Candidate
between_lines xs ys = flat_map (along false xs) ys ++ flat_map (along true ys) xs

unfoldable pub candidates : Design → PlaneArea → List Candidate
candidates d p = between_lines (lines_in d p false) (lines_in d p true)

-- the items of the design and the candidates of all planes together
unfoldable pub load_of : Design → List PlaneArea → ℕ
load_of d planes = length d.fixed + length d.free + sum_by (λ p. length (candidates d p)) planes
