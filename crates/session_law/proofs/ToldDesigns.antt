-- The wiring of a design and the widths of its nets are whole in the unit of its session.
use Rattle.std.proofs.Common.{◌≡◌, inl, inr, ℕ, ◌/◌, Bool, true, false, List, Some, refl, get_or, subst}
use Rattle.std.specs.Prelude.{◌&&◌, All, Contains, filter, slice_get, unsigned_abs}
use Rattle.std.specs.List.{list_all}
use Rattle.std.proofs.lemmas.Bool.{and_parts, and_from, cases_Bool}
use Rattle.std.proofs.lemmas.List.Sums.{AllPass-from_list_all, list_all-from_AllPass}
use Rattle.std.proofs.lemmas.List.Elements.{All-contains, All-weaker}
use Rattle.geo_kernel.specs.declared.point.Point.{Point}
use Rattle.geo_kernel.specs.Units.{unit_nm}
use Rattle.pcb_model.specs.declared.item.Item.{Item}
use Rattle.pcb_model.specs.declared.item.Metal.{Metal}
use Rattle.pcb_model.specs.declared.item.Metal.TheVariants.{Wire, Via, Pad, Ban}
use Rattle.pcb_model.specs.declared.design.Component.{Component}
use Rattle.pcb_model.specs.declared.design.FreeWire.{FreeWire}
use Rattle.pcb_model.specs.declared.design.Net.{Net}
use Rattle.pcb_model.specs.declared.design.SesScale.{SesScale}
use Rattle.pcb_model.specs.declared.design.Design.{Design}
use Rattle.pcb_model.specs.Board.{IsRouted, is_fixed}
use Rattle.pcb_model.specs.Rules.{width_for}
use Rattle.pcb_model.specs.Scale.{is_whole, is_whole_point, is_whole_padstack, is_whole_metal, is_whole_net}
use Rattle.pcb_model.specs.Scale.{is_on_scale, keeps_resolution, scale_of}
use Rattle.pcb_model.proofs.Widths.{one_whole, width_whole}
use Rattle.board_offers.proofs.Lists.{all_from}
use Rattle.pcb_board.proofs.Order.{kept_there}
use Rattle.session_law.specs.Told.{IsOnScale, is_whole_copper}
use Rattle.session_law.proofs.ToldScales.{is_kept, of_scale, scale_if}

-- the points and the width of a metal are whole in units of so many nm
abbrev pub IsWholeMetal : ℕ → Metal → Type 0
IsWholeMetal nm a = is_whole_copper nm a ≡ true

-- the width of each net, and the wiring, fixed and free, are whole in units of so many nm
pub record IsWholeDesign (d : Design) (nm : ℕ) : Type 0 where
  pub widths : (net : ℕ) (n : Net) → slice_get d.nets net ≡ Some n → is_whole nm (width_for d net) ≡ true
  pub fixed_whole : All (λ (a : Item). IsWholeMetal nm a.metal) d.fixed
  pub free_whole : All (λ (w : FreeWire). IsWholeMetal nm w.metal) d.free

-- ---- in units of 1 nm all is whole
-- each point
point_in_one : (p : Point) → is_whole_point 1 p ≡ true
point_in_one p = and_from (is_whole 1 (unsigned_abs p.x)) (is_whole 1 (unsigned_abs p.y)) (one_whole (unsigned_abs p.x))
    (one_whole (unsigned_abs p.y))

-- each metal
metal_in_one : (a : Metal) → IsWholeMetal 1 a
metal_in_one (Wire layer width chain) = and_from (is_whole 1 width) (list_all (is_whole_point 1) chain)
    (one_whole width)
    (list_all-from_AllPass (is_whole_point 1) chain (λ k d within. point_in_one (get_or chain k d)))
metal_in_one (Via padstack at) = point_in_one at
metal_in_one (Pad pin) = refl
metal_in_one (Ban wires vias) = refl

-- each design
design_in_one : (d : Design) → IsWholeDesign d 1
design_in_one d = record {
  widths = λ net n at. one_whole (width_for d net);
  fixed_whole = λ k a within. metal_in_one (get_or d.fixed k a).metal;
  free_whole = λ k w within. metal_in_one (get_or d.free k w).metal;
}

-- ---- in units that a design is on scale in
-- a via on scale has its padstack on scale, too
metal_whole : (d : Design) (nm : ℕ) (a : Metal) → is_whole_metal d nm a ≡ true → IsWholeMetal nm a
metal_whole d nm (Wire layer width chain) h = h
metal_whole d nm (Via padstack at) h = (and_parts (is_whole_point nm at) (is_whole_padstack d nm padstack) h).0
metal_whole d nm (Pad pin) h = refl
metal_whole d nm (Ban wires vias) h = refl

-- the whole design
design_whole : (d : Design) (nm : ℕ) → is_on_scale d nm ≡ true → IsWholeDesign d nm
design_whole d nm h =
    let places = list_all (λ (c : Component). is_whole_point nm c.at) d.components in
    let nets = list_all (is_whole_net d nm) d.nets in
    let fixed = list_all (λ (a : Item). is_whole_metal d nm a.metal) d.fixed in
    let free = list_all (λ (w : FreeWire). is_whole_metal d nm w.metal) d.free in
    let all = and_parts (places && nets && fixed) free h in
    let more = and_parts (places && nets) fixed all.0 in
    record {
      widths = λ net n at. width_whole d nm net n (and_parts places nets more.0).1 at;
      fixed_whole = All-weaker (λ (a : Item). is_whole_metal d nm a.metal ≡ true)
          (λ (a : Item). IsWholeMetal nm a.metal) (λ a k. metal_whole d nm a.metal k) d.fixed
          (AllPass-from_list_all (λ (a : Item). is_whole_metal d nm a.metal) d.fixed more.1);
      free_whole = All-weaker (λ (w : FreeWire). is_whole_metal d nm w.metal ≡ true)
          (λ (w : FreeWire). IsWholeMetal nm w.metal) (λ w k. metal_whole d nm w.metal k) d.free
          (AllPass-from_list_all (λ (w : FreeWire). is_whole_metal d nm w.metal) d.free all.1);
    }

-- ---- in the unit of the session
-- either way
whole_if : (d : Design) (b : Bool) → keeps_resolution d ≡ b → IsWholeDesign d (scale_if b d).nm
whole_if d true e = design_whole d (unit_nm d.unit / d.per) (is_kept d e).on_scale
whole_if d false e = design_in_one d

-- each design is whole in that unit
pub on_scale : (d : Design) → IsWholeDesign d (scale_of d).nm
on_scale d = of_scale (λ (s : SesScale). IsWholeDesign d s.nm) d (whole_if d)

-- ---- boards
-- where the fixed items are the design's and the routed copper is on scale, all copper is
pub copper_on_scale : (d : Design) (items : List Item) → filter is_fixed items ≡ d.fixed
    → IsOnScale (scale_of d).nm items → All (λ (a : Item). IsWholeMetal (scale_of d).nm a.metal) items
copper_on_scale d items fixed_are routed_whole =
    let nm = (scale_of d).nm in
    all_from (λ (a : Item). IsWholeMetal nm a.metal) items (λ a there. elim (cases_Bool a.fixed) [
      | inl fixed ↦ All-contains (λ (x : Item). IsWholeMetal nm x.metal) d.fixed a (on_scale d).fixed_whole
          (subst (λ (xs : List Item). Contains xs a) fixed_are (kept_there is_fixed items a there fixed))
      | inr routed ↦ All-contains (λ (x : Item). IsRouted x → IsWholeMetal nm x.metal) items a routed_whole there routed
    ])
