-- What a lattice takes from a design: the box of its first boundary, the anchors of its pins, and its signal layers.
use Rattle.std.specs.Prelude.{ℕ, ℤ, pos, Bool, if◌then◌else◌, not, is_some, List, [], ◌∷◌, map, filter, fold, flat_map}
use Rattle.std.specs.List.{enumerate_from}
use Rattle.std.specs.Int.{int_min, int_max}
use Rattle.geo_kernel.specs.declared.point.Point.{Point}
use Rattle.geo_kernel.specs.declared.point.Rect4.{Rect4}
use Rattle.pcb_model.specs.declared.design.Design.{Design}
use Rattle.pcb_model.specs.declared.design.Pin.{Pin}
use Rattle.pcb_model.specs.declared.design.BoardLayer.{BoardLayer}
use Rattle.pcb_model.specs.Scale.{scale_of}
use Rattle.route_lattice.specs.Round.{nearest}

-- the session unit, in nm
abbrev pub unit_of : Design → ℕ
unit_of d = (scale_of d).nm

-- ---- the outline
-- the points of the first boundary's loops
abbrev pub first_points : List (List (List Point)) → List Point
first_points [] = []
first_points (loops ∷ bounds) = flat_map (λ points. points) loops

-- the least box of a box and points
abbrev pub widened : Rect4 → List Point → Rect4
widened r ps = record {
  x0 = fold int_min r.x0 (map (λ (p : Point). p.x) ps);
  y0 = fold int_min r.y0 (map (λ (p : Point). p.y) ps);
  x1 = fold int_max r.x1 (map (λ (p : Point). p.x) ps);
  y1 = fold int_max r.y1 (map (λ (p : Point). p.y) ps);
}

-- the least box of points
abbrev pub least_box : List Point → Rect4
least_box [] = record { x0 = pos 0; y0 = pos 0; x1 = pos 0; y1 = pos 0 }
least_box (p ∷ ps) = widened (record { x0 = p.x; y0 = p.y; x1 = p.x; y1 = p.y }) ps

-- the box of the first boundary
abbrev pub outline_of : Design → Rect4
outline_of d = least_box (first_points d.bounds)

-- the lower and the upper end of a box, along y where upright, else along x
abbrev pub low_side : Bool → Rect4 → ℤ
low_side upright r = if upright then r.y0 else r.x0

abbrev pub high_side : Bool → Rect4 → ℤ
high_side upright r = if upright then r.y1 else r.x1

-- ---- pins and layers
-- y where upright, else x
abbrev pub coordinate : Bool → Point → ℤ
coordinate upright p = if upright then p.y else p.x

-- the coordinates of the anchors of all pins with a net: their centres, rounded to the session unit
abbrev pub anchors_of : ℕ → Bool → List Pin → List ℤ
anchors_of unit upright pins =
    map (λ (p : Pin). nearest unit (coordinate upright p.centre)) (filter (λ (p : Pin). is_some p.net) pins)

-- the numbers of the signal layers, ascending
abbrev pub signals_of : List BoardLayer → List ℕ
signals_of layers =
    map (λ (q : ℕ × BoardLayer). q.0) (filter (λ (q : ℕ × BoardLayer). not q.1.power) (enumerate_from 0 layers))
