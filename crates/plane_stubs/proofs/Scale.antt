-- Stubs are whole in the session's unit, where the lattice is the design's.
use Rattle.std.proofs.Common.{◌≡◌, ℕ, zero, suc, ◌<◌, ◌/◌, ◌==◌, pos, arith, refl, sym, ap, ◌∙◌, subst, Bool, true}
use Rattle.std.proofs.Common.{false}
use Rattle.std.proofs.Common.{cond, List, [], ◌∷◌, ◌++◌, map, get_or, length, All, Any, Option, Some, None}
use Rattle.std.specs.Prelude.{◌&&◌, filter, is_some, nat_lt, slice_get, slice_index_or, unsigned_abs, if◌then◌else◌}
use Rattle.std.specs.List.{list_all}
use Rattle.std.specs.Option.{IsSomeAnd, option_map_or}
use Rattle.std.proofs.Math.Nat.{zero-mod}
use Rattle.std.proofs.lemmas.Bool.{and_from, and_parts}
use Rattle.std.proofs.lemmas.List.Elements.{All-cons, All-head, All-map, All-nil, All-tail}
use Rattle.std.proofs.lemmas.Option.{none-some, same_Some}
use Rattle.geo_kernel.specs.declared.point.Point.{Point}
use Rattle.geo_kernel.specs.declared.spine.Spine.{Spine}
use Rattle.geo_kernel.specs.declared.spine.Spine.TheVariants.{Chain, Area}
use Rattle.geo_kernel.specs.declared.unit.Unit.TheVariants.{Um}
use Rattle.geo_kernel.specs.Units.{unit_nm}
use Rattle.pcb_model.specs.declared.item.Piece.{Piece}
use Rattle.pcb_model.specs.declared.item.Metal.{Metal}
use Rattle.pcb_model.specs.declared.item.Metal.TheVariants as metal
use Rattle.pcb_model.specs.declared.design.Net.{Net}
use Rattle.pcb_model.specs.declared.design.Padstack.{Padstack}
use Rattle.pcb_model.specs.declared.design.Pin.{Pin}
use Rattle.pcb_model.specs.declared.design.SesScale.{SesScale}
use Rattle.pcb_model.specs.declared.design.Design.{Design}
use Rattle.pcb_model.specs.Board.{IsListed, IsMetalLaid}
use Rattle.pcb_model.specs.Rules.{width_for}
use Rattle.pcb_model.specs.Scale.{is_on_scale, is_whole, is_whole_metal, is_whole_net, is_whole_padstack}
use Rattle.pcb_model.specs.Scale.{is_whole_piece}
use Rattle.pcb_model.specs.Scale.{is_whole_point, is_whole_spine, keeps_resolution, net_width, scale_of}
use Rattle.pcb_model.proofs.Widths.{nets_whole, one_whole, width_whole}
use Rattle.route_lattice.specs.declared.moves.Move.{Move}
use Rattle.route_lattice.specs.declared.moves.Move.TheVariants as move
use Rattle.route_lattice.specs.Gather.{anchors_of, coordinate, outline_of, unit_of}
use Rattle.route_lattice.specs.Mesh.{Mesh, column, layer_of, point_of, row}
use Rattle.route_lattice.specs.Round.{nearest}
use Rattle.route_lattice.specs.Whole.{lattice_of}
use Rattle.route_lattice.proofs.WholeLines.{IsWhole, lines_whole, nearest_whole}
use Rattle.path_wire.specs.Wires.{copper_from, copper_of, corners, wire_from}
use Rattle.plane_joins.proofs.Places.{at_place}

-- ---- lattices
pub record HasWholeLines (nm : ℕ) (m : Mesh) : Type 0 where
  pub xs_whole : All (IsWhole nm) m.xs
  pub ys_whole : All (IsWhole nm) m.ys

anchors_whole : (unit : ℕ) (upright : Bool) (pins : List Pin) → All (IsWhole unit) (anchors_of unit upright pins)
anchors_whole unit upright pins =
    let netted = filter (λ (p : Pin). is_some p.net) pins in
    All-map (IsWhole unit) (λ (p : Pin). nearest unit (coordinate upright p.centre)) netted
    (λ k d within. nearest_whole unit (coordinate upright (get_or netted k d).centre))

pub lattice_whole : (d : Design) (grid : ℕ) → HasWholeLines (unit_of d) (lattice_of d grid)
lattice_whole d grid = record {
  xs_whole = lines_whole (unit_of d) grid (outline_of d).x0 (outline_of d).x1 (anchors_of (unit_of d) false d.pins)
      (anchors_whole (unit_of d) false d.pins);
  ys_whole = lines_whole (unit_of d) grid (outline_of d).y0 (outline_of d).y1 (anchors_of (unit_of d) true d.pins)
      (anchors_whole (unit_of d) true d.pins);
}

at_or : {X : Type 0} (P : X → Type 0) (xs : List X) (k : ℕ) (d : X) → All P xs → P d → P (slice_index_or xs k d)
at_or P [] k d all other = other
at_or P (x ∷ xs) zero d all other = All-head P x xs all
at_or P (x ∷ xs) (suc k) d all other = at_or P xs k d (All-tail P x xs all) other

-- ---- copper
-- a wire, or a via's place
abbrev IsPathWhole : ℕ → Metal → Type 0
IsPathWhole nm (metal.Wire layer width chain) = (is_whole nm width && list_all (is_whole_point nm) chain) ≡ true
IsPathWhole nm (metal.Via padstack at) = is_whole_point nm at ≡ true
IsPathWhole nm (metal.Pad pin) = Unit {0}
IsPathWhole nm (metal.Ban wires vias) = Unit {0}

module _ (nm : ℕ) (m : Mesh) (lines : HasWholeLines nm m) where
  node_whole : (v : ℕ) → is_whole_point nm (point_of m v) ≡ true
  node_whole v =
      let p = point_of m v in
      let origin : IsWhole nm (pos 0) = ap (λ (n : ℕ). n == 0) (zero-mod nm) in
      and_from (is_whole nm (unsigned_abs p.x)) (is_whole nm (unsigned_abs p.y))
      (at_or (IsWhole nm) m.xs (column m v) (pos 0) lines.xs_whole origin)
      (at_or (IsWhole nm) m.ys (row m v) (pos 0) lines.ys_whole origin)

  points_whole : (vs : List ℕ) → list_all (is_whole_point nm) (map (point_of m) vs) ≡ true
  points_whole [] = refl
  points_whole (v ∷ vs) =
      and_from (is_whole_point nm (point_of m v)) (list_all (is_whole_point nm) (map (point_of m) vs)) (node_whole v)
      (points_whole vs)

  wire_whole : (layer width : ℕ) (vs : List ℕ) → is_whole nm width ≡ true
      → IsPathWhole nm (metal.Wire layer width (map (point_of m) vs))
  wire_whole layer width vs h =
      and_from (is_whole nm width) (list_all (is_whole_point nm) (map (point_of m) vs)) h (points_whole vs)

  from_whole : (width : ℕ) (fresh : Bool) (nodes : List ℕ) (moves : List Move) → is_whole nm width ≡ true
      → All (IsPathWhole nm) (copper_from m width fresh nodes moves)
  from_whole width true [] [] h = All-nil (IsPathWhole nm)
  from_whole width false [] [] h = All-nil (IsPathWhole nm)
  from_whole width true [] (a ∷ ms) h = All-nil (IsPathWhole nm)
  from_whole width false [] (a ∷ ms) h = All-nil (IsPathWhole nm)
  from_whole width true (v ∷ vs) [] h = All-nil (IsPathWhole nm)
  from_whole width false (v ∷ vs) [] h = All-nil (IsPathWhole nm)
  from_whole width true (v ∷ vs) (move.Via padstack layer ∷ ms) h =
      All-cons (IsPathWhole nm) (metal.Via padstack (point_of m v)) (copper_from m width true vs ms) (node_whole v)
      (from_whole width true vs ms h)
  from_whole width false (v ∷ vs) (move.Via padstack layer ∷ ms) h =
      All-cons (IsPathWhole nm) (metal.Via padstack (point_of m v)) (copper_from m width true vs ms) (node_whole v)
      (from_whole width true vs ms h)
  from_whole width true (v ∷ vs) (move.Step dir ∷ ms) h =
      All-cons (IsPathWhole nm) (wire_from m width v vs (move.Step dir ∷ ms)) (copper_from m width false vs ms)
      (wire_whole (layer_of m v) width (v ∷ corners vs (move.Step dir ∷ ms)) h) (from_whole width false vs ms h)
  from_whole width false (v ∷ vs) (move.Step dir ∷ ms) h = from_whole width false vs ms h

  path_whole : (d : Design) (net : ℕ) (nodes : List ℕ) (moves : List Move)
      → is_whole nm (width_for d net) ≡ true → All (IsPathWhole nm) (copper_of d m net nodes moves)
  path_whole d net [] [] h = from_whole (width_for d net) true [] [] h
  path_whole d net [] (a ∷ ms) h = from_whole (width_for d net) true [] (a ∷ ms) h
  path_whole d net (v ∷ vs) [] h =
      All-cons (IsPathWhole nm) (metal.Wire (layer_of m v) (width_for d net) (point_of m v ∷ point_of m v ∷ [])) []
      (wire_whole (layer_of m v) (width_for d net) (v ∷ v ∷ []) h) (All-nil (IsPathWhole nm))
  path_whole d net (v ∷ vs) (a ∷ ms) h = from_whole (width_for d net) true (v ∷ vs) (a ∷ ms) h

-- ---- padstacks
points_one : (ps : List Point) → list_all (is_whole_point 1) ps ≡ true
points_one [] = refl
points_one (p ∷ ps) =
    and_from (is_whole_point 1 p) (list_all (is_whole_point 1) ps)
    (and_from (is_whole 1 (unsigned_abs p.x)) (is_whole 1 (unsigned_abs p.y)) (one_whole (unsigned_abs p.x))
    (one_whole (unsigned_abs p.y))) (points_one ps)

loops_one : (loops : List (List Point)) → list_all (list_all (is_whole_point 1)) loops ≡ true
loops_one [] = refl
loops_one (l ∷ ls) =
    and_from (list_all (is_whole_point 1) l) (list_all (list_all (is_whole_point 1)) ls) (points_one l) (loops_one ls)

spine_one : (s : Spine) → is_whole_spine 1 s ≡ true
spine_one (Chain ps) = points_one ps
spine_one (Area loops) = loops_one loops

pieces_one : (ps : List Piece) → list_all (is_whole_piece 1) ps ≡ true
pieces_one [] = refl
pieces_one (p ∷ ps) =
    and_from (is_whole_piece 1 p) (list_all (is_whole_piece 1) ps)
    (and_from (is_whole 1 p.width) (is_whole_spine 1 p.spine) (one_whole p.width) (spine_one p.spine)) (pieces_one ps)

padstack_one : (o : Option Padstack)
    → option_map_or (λ (s : Padstack). list_all (is_whole_piece 1) s.pieces) o true ≡ true
padstack_one None = refl
padstack_one (Some s) = pieces_one s.pieces

passes_at : {X : Type 0} (f : X → Bool) (xs : List X) (i : ℕ) (x : X) → list_all f xs ≡ true
    → slice_get xs i ≡ Some x → f x ≡ true
passes_at f [] i x h e = absurd (none-some x e)
passes_at f (y ∷ ys) zero x h e = ap f (sym (same_Some y x e)) ∙ (and_parts (f y) (list_all f ys) h).0
passes_at f (y ∷ ys) (suc i) x h e = passes_at f ys i x (and_parts (f y) (list_all f ys) h).1 e

passes_some : (f : ℕ → Bool) (xs : List ℕ) (p : ℕ) → list_all f xs ≡ true → Any (λ v. v ≡ p) xs → f p ≡ true
passes_some f [] p h some = absurd (omega (arith, some.2))
passes_some f (x ∷ xs) p h (zero, y, within, is, e) =
    ap f (sym (is ∙ e)) ∙ (and_parts (f x) (list_all f xs) h).0
passes_some f (x ∷ xs) p h (suc k, y, within, is, e) =
    passes_some f xs p (and_parts (f x) (list_all f xs) h).1 (k, y, omega (arith, within), is, e)

abbrev scale_if : Design → Bool → SesScale
scale_if d b = if b then record { unit = d.unit; per = d.per; nm = unit_nm d.unit / d.per }
    else record { unit = Um; per = 1000; nm = 1 }

-- a net's vias and its width are whole
net_if : (d : Design) (net : ℕ) → net < length d.nets → (b : Bool) → keeps_resolution d ≡ b
    → (is_whole (scale_if d b).nm (width_for d net) ≡ true)
    × ((p : ℕ) → IsListed d net p → is_whole_padstack d (scale_if d b).nm p ≡ true)
net_if d net within true e =
    let nm = unit_nm d.unit / d.per in
    let n = at_place d.nets net within in
    let kept = and_parts (nat_lt 0 d.per && is_whole d.per (unit_nm d.unit)) (is_on_scale d nm) e in
    let whole = passes_at (is_whole_net d nm) d.nets net n.0 (nets_whole d nm kept.1) n.1 in
    let parts = and_parts (is_whole nm (net_width d n.0)) (list_all (is_whole_padstack d nm) n.0.vias) whole in (
      width_whole d nm net n.0 (nets_whole d nm kept.1) n.1,
      λ p listed. passes_some (is_whole_padstack d nm) n.0.vias p parts.1
          (subst (λ (o : Option Net). IsSomeAnd o (λ (x : Net). Any (λ v. v ≡ p) x.vias)) n.1 listed),
    )
net_if d net within false e = (one_whole (width_for d net), λ p listed. padstack_one (slice_get d.padstacks p))

net_whole : (d : Design) (net : ℕ) → net < length d.nets
    → (is_whole (scale_of d).nm (width_for d net) ≡ true)
    × ((p : ℕ) → IsListed d net p → is_whole_padstack d (scale_of d).nm p ≡ true)
unfolding scale_of
net_whole d net within = net_if d net within (keeps_resolution d) refl

metal_whole : (d : Design) (nm net : ℕ) (a : Metal) → ((p : ℕ) → IsListed d net p → is_whole_padstack d nm p ≡ true)
    → IsMetalLaid d (Some net) a → IsPathWhole nm a → is_whole_metal d nm a ≡ true
metal_whole d nm net (metal.Wire layer width chain) vias laid h = h
metal_whole d nm net (metal.Via padstack at) vias laid h =
    and_from (is_whole_point nm at) (is_whole_padstack d nm padstack) h (vias padstack laid)
metal_whole d nm net (metal.Pad pin) vias laid h = refl
metal_whole d nm net (metal.Ban wires vias_banned) vias laid h = refl

-- the copper of a walk of a net, laid as the net wants it
pub copper_whole : (d : Design) (m : Mesh) (net : ℕ) (nodes : List ℕ) (moves : List Move) → net < length d.nets
    → HasWholeLines (unit_of d) m → All (λ (a : Metal). IsMetalLaid d (Some net) a) (copper_of d m net nodes moves)
    → All (λ (a : Metal). is_whole_metal d (scale_of d).nm a ≡ true) (copper_of d m net nodes moves)
copper_whole d m net nodes moves there lines laid =
    let nm = (scale_of d).nm in
    let n = net_whole d net there in
    let all = path_whole nm m lines d net nodes moves n.0 in
    λ k e within. metal_whole d nm net (get_or (copper_of d m net nodes moves) k e) n.1 (laid k e within)
    (all k e within)
