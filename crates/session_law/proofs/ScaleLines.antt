-- The lines of a design's lattice are whole in the unit of its session, and so are the points of its nodes.
use Rattle.std.proofs.Common.{◌≡◌, ℕ, zero, suc, ◌==◌, pos, Bool, true, false, List, [], ◌∷◌, get_or, ap}
use Rattle.std.specs.Prelude.{All, unsigned_abs, slice_index_or, is_some, filter}
use Rattle.std.proofs.Math.Nat.{zero-mod}
use Rattle.std.proofs.lemmas.Bool.{and_from}
use Rattle.std.proofs.lemmas.List.Elements.{All-map, All-head, All-tail}
use Rattle.pcb_model.specs.declared.design.Pin.{Pin}
use Rattle.pcb_model.specs.declared.design.Design.{Design}
use Rattle.pcb_model.specs.Scale.{is_whole, is_whole_point}
use Rattle.route_lattice.specs.Round.{nearest}
use Rattle.route_lattice.specs.Gather.{unit_of, outline_of, coordinate, anchors_of}
use Rattle.route_lattice.specs.Mesh.{Mesh, column, row, point_of}
use Rattle.route_lattice.specs.Whole.{lattice_of}
use Rattle.route_lattice.proofs.WholeLines.{IsWhole, lines_whole, nearest_whole}

-- what holds of all elements and of the default holds at each place
pub at_or : {X : Type 0} (P : X → Type 0) (xs : List X) (k : ℕ) (d : X) → All P xs → P d → P (slice_index_or xs k d)
at_or P [] k d all other = other
at_or P (x ∷ xs) zero d all other = All-head P x xs all
at_or P (x ∷ xs) (suc k) d all other = at_or P xs k d (All-tail P x xs all) other

-- ---- lines
-- the origin is whole
origin : (nm : ℕ) → IsWhole nm (pos 0)
origin nm = ap (λ (n : ℕ). n == 0) (zero-mod nm)

-- anchors of pins are rounded
anchors_whole : (unit : ℕ) (upright : Bool) (pins : List Pin) → All (IsWhole unit) (anchors_of unit upright pins)
anchors_whole unit upright pins =
    let netted = filter (λ (p : Pin). is_some p.net) pins in
    All-map (IsWhole unit) (λ (p : Pin). nearest unit (coordinate upright p.centre)) netted
    (λ k d within. nearest_whole unit (coordinate upright (get_or netted k d).centre))

-- ---- lattices
-- each line is whole in units of so many nm
pub record HasWholeLines (nm : ℕ) (m : Mesh) : Type 0 where
  pub xs_whole : All (IsWhole nm) m.xs
  pub ys_whole : All (IsWhole nm) m.ys

-- those of a design's lattice are whole in the unit of its session
pub lattice_whole : (d : Design) (grid : ℕ) → HasWholeLines (unit_of d) (lattice_of d grid)
lattice_whole d grid = record {
  xs_whole = lines_whole (unit_of d) grid (outline_of d).x0 (outline_of d).x1 (anchors_of (unit_of d) false d.pins)
      (anchors_whole (unit_of d) false d.pins);
  ys_whole = lines_whole (unit_of d) grid (outline_of d).y0 (outline_of d).y1 (anchors_of (unit_of d) true d.pins)
      (anchors_whole (unit_of d) true d.pins);
}

-- the point of each node is whole
pub node_whole : (nm : ℕ) (m : Mesh) (v : ℕ) → HasWholeLines nm m → is_whole_point nm (point_of m v) ≡ true
node_whole nm m v lines =
    let p = point_of m v in
    and_from (is_whole nm (unsigned_abs p.x)) (is_whole nm (unsigned_abs p.y))
    (at_or (IsWhole nm) m.xs (column m v) (pos 0) lines.xs_whole (origin nm))
    (at_or (IsWhole nm) m.ys (row m v) (pos 0) lines.ys_whole (origin nm))
