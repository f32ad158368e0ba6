-- Candidates of a plane and widths of nets are whole in the unit of the session.
use Rattle.std.proofs.Common.{◌≡◌, ℕ, ◌<◌, ◌/◌, Bool, true, false, refl, get_or, length}
use Rattle.std.specs.Prelude.{◌&&◌, All, unsigned_abs, filter, nat_lt, if◌then◌else◌}
use Rattle.std.specs.List.{enumerate_from}
use Rattle.std.proofs.lemmas.Bool.{and_from, and_parts}
use Rattle.std.proofs.lemmas.List.Elements.{All-map, All-weaker}
use Rattle.geo_kernel.specs.Units.{unit_nm}
use Rattle.geo_kernel.specs.declared.unit.Unit.TheVariants.{Um}
use Rattle.pcb_model.specs.declared.design.Pin.{Pin}
use Rattle.pcb_model.specs.declared.design.SesScale.{SesScale}
use Rattle.pcb_model.specs.declared.design.Design.{Design}
use Rattle.pcb_model.specs.Rules.{width_for}
use Rattle.pcb_model.specs.Scale.{is_on_scale, is_whole, is_whole_point, keeps_resolution, scale_of}
use Rattle.pcb_model.proofs.Widths.{nets_whole, one_whole}
use Rattle.pcb_model.proofs.Widths.{width_whole as net_whole}
use Rattle.route_lattice.specs.Round.{nearest}
use Rattle.route_lattice.specs.Gather.{unit_of, coordinate, least_box, low_side, high_side}
use Rattle.route_lattice.proofs.WholeLines.{IsWhole, lines_whole, nearest_whole}
use Rattle.plane_joins.specs.declared.area.PlaneArea.{PlaneArea}
use Rattle.plane_joins.specs.declared.candidate.Candidate.{Candidate}
use Rattle.plane_joins.specs.declared.limits.TheConstants.{MESH}
use Rattle.plane_joins.specs.Planes.{candidates, is_own, lines_in, own_anchors}
use Rattle.plane_joins.proofs.Crossings.{HasEnds, between_has}
use Rattle.plane_joins.proofs.Places.{at_place}

-- ---- lines
anchors_whole : (d : Design) (p : PlaneArea) (upright : Bool) → All (IsWhole (unit_of d)) (own_anchors d p upright)
anchors_whole d p upright =
    let own = filter (is_own d p) (enumerate_from 0 d.pins) in
    All-map (IsWhole (unit_of d)) (λ (q : ℕ × Pin). nearest (unit_of d) (coordinate upright q.1.centre)) own
    (λ k e within. nearest_whole (unit_of d) (coordinate upright (get_or own k e).1.centre))

plane_lines_whole : (d : Design) (p : PlaneArea) (upright : Bool) → All (IsWhole (unit_of d)) (lines_in d p upright)
unfolding lines_in
plane_lines_whole d p upright =
    lines_whole (unit_of d) MESH (low_side upright (least_box p.rim)) (high_side upright (least_box p.rim))
    (own_anchors d p upright) (anchors_whole d p upright)

-- ---- candidates
pub record IsWholeCandidate (nm : ℕ) (c : Candidate) : Type 0 where
  pub from_whole : is_whole_point nm c.from ≡ true
  pub to_whole : is_whole_point nm c.to ≡ true

pub candidates_whole : (d : Design) (p : PlaneArea) → All (IsWholeCandidate (unit_of d)) (candidates d p)
unfolding candidates
candidates_whole d p =
    let nm = unit_of d in
    All-weaker (HasEnds (IsWhole nm)) (IsWholeCandidate nm)
    (λ c e. record {
      from_whole = and_from (is_whole nm (unsigned_abs c.from.x)) (is_whole nm (unsigned_abs c.from.y)) e.from_has.x_has
          e.from_has.y_has;
      to_whole = and_from (is_whole nm (unsigned_abs c.to.x)) (is_whole nm (unsigned_abs c.to.y)) e.to_has.x_has
          e.to_has.y_has;
    }) (candidates d p)
    (between_has (IsWhole nm) (lines_in d p false) (lines_in d p true) (plane_lines_whole d p false)
    (plane_lines_whole d p true))

-- ---- widths of nets
abbrev scale_if : Design → Bool → SesScale
scale_if d b = if b then record { unit = d.unit; per = d.per; nm = unit_nm d.unit / d.per }
    else record { unit = Um; per = 1000; nm = 1 }

width_if : (d : Design) (net : ℕ) → net < length d.nets → (b : Bool) → keeps_resolution d ≡ b
    → is_whole (scale_if d b).nm (width_for d net) ≡ true
width_if d net within true e =
    let n = at_place d.nets net within in
    let kept = and_parts (nat_lt 0 d.per && is_whole d.per (unit_nm d.unit)) (is_on_scale d (unit_nm d.unit / d.per)) e
    in
    net_whole d (unit_nm d.unit / d.per) net n.0 (nets_whole d (unit_nm d.unit / d.per) kept.1) n.1
width_if d net within false e = one_whole (width_for d net)

pub width_whole : (d : Design) (net : ℕ) → net < length d.nets → is_whole (scale_of d).nm (width_for d net) ≡ true
unfolding scale_of
width_whole d net within = width_if d net within (keeps_resolution d) refl
