-- The lattice of a sound design lies within 2^29, and fits the design.
use Rattle.std.proofs.Common.{◌≡◌, ℕ, ℤ, zero, suc, pos, ◌<◌, ◌≤◌, ◌^◌, ◌<ℤ◌, arith, zero-add, refl, sym, ap, ◌∙◌}
use Rattle.std.proofs.Common.{subst, List, [], ◌∷◌, length, get_or, Bool, true, false, All, unsigned_abs, IfOk}
use Rattle.std.specs.Prelude.{filter, not, slice_get, slice_index_or, Some, Result, Ok, Err, ◌||◌}
use Rattle.std.specs.List.{enumerate_from, list_any}
use Rattle.std.specs.Ordering.{int_eq}
use Rattle.std.specs.Option.{IsSomeAnd}
use Rattle.std.proofs.lemmas.Int.{ints}
use Rattle.std.proofs.lemmas.List.{length-map}
use Rattle.std.proofs.lemmas.List.Elements.{All-head, All-tail, All-map, All-filter, Contains-get_or, filter_passes}
use Rattle.std.proofs.lemmas.List.FromFn.{length-enumerate_from, get_or-enumerate_from}
use Rattle.std.proofs.lemmas.List.Filters.{length-filter_both}
use Rattle.std.proofs.lemmas.Option.{slice_get-get_or}
use Rattle.geo_kernel.specs.Plane.{IsWithin}
use Rattle.pcb_model.specs.declared.design.Design.{Design}
use Rattle.pcb_model.specs.declared.design.BoardLayer.{BoardLayer}
use Rattle.pcb_model.specs.Sound.{IsSound}
use Rattle.route_lattice.specs.declared.make.LatticeFault.{LatticeFault}
use Rattle.route_lattice.specs.Mesh.{Mesh, node_count, point_of, column, row}
use Rattle.route_lattice.specs.Fits.{FitsDesign}
use Rattle.route_lattice.specs.Gather.{unit_of, outline_of, anchors_of, signals_of}
use Rattle.route_lattice.specs.Lines.{line_list, between, is_grid_line, AreLines}
use Rattle.route_lattice.specs.Whole.{lattice_of, IsLatticeOf}
use Rattle.route_lattice.proofs.Order.{between_only}
use Rattle.route_lattice.proofs.Outlines.{outline_within}
use Rattle.route_lattice.proofs.Totals.{lines_by_membership}
use Rattle.route_lattice.proofs.Units.{unit_some, unit_few}

-- ---- lines and points
inside : (low high z : ℤ) → unsigned_abs low ≤ 2 ^ 29 → unsigned_abs high ≤ 2 ^ 29 → low <ℤ z → z <ℤ high
    → unsigned_abs z ≤ 2 ^ 29
inside low high z a b h k = omega (arith, ints)

pub lines_within : (unit grid : ℕ) (low high : ℤ) (anchors : List ℤ) → unsigned_abs low ≤ 2 ^ 29
    → unsigned_abs high ≤ 2 ^ 29 → All (λ x. unsigned_abs x ≤ 2 ^ 29) (line_list unit grid low high anchors)
lines_within unit grid low high anchors a b =
    All-filter (λ x. is_grid_line unit grid x || list_any (λ y. int_eq y x) anchors) (λ x. unsigned_abs x ≤ 2 ^ 29)
    (between low high)
    (λ k d l. let q =
    between_only low high (get_or (between low high) k d) (Contains-get_or (between low high) k d l) in
    inside low high _ a b q.0 q.1)

or_within : (xs : List ℤ) (k : ℕ) → All (λ x. unsigned_abs x ≤ 2 ^ 29) xs → unsigned_abs (slice_index_or xs k (pos 0))
    ≤ 2 ^ 29
or_within [] k a = omega arith
or_within (x ∷ xs) zero a = All-head (λ y. unsigned_abs y ≤ 2 ^ 29) x xs a
or_within (x ∷ xs) (suc k) a = or_within xs k (All-tail (λ y. unsigned_abs y ≤ 2 ^ 29) x xs a)

module _ (d : Design) (grid : ℕ) (s : IsSound d) where
  xs_within : All (λ x. unsigned_abs x ≤ 2 ^ 29) (lattice_of d grid).xs
  xs_within = let b = outline_within d s in
      lines_within (unit_of d) grid (outline_of d).x0 (outline_of d).x1 (anchors_of (unit_of d) false d.pins) b.left
      b.right

  ys_within : All (λ x. unsigned_abs x ≤ 2 ^ 29) (lattice_of d grid).ys
  ys_within = let b = outline_within d s in
      lines_within (unit_of d) grid (outline_of d).y0 (outline_of d).y1 (anchors_of (unit_of d) true d.pins) b.bottom
      b.top

  pub node_within : (node : ℕ) → IsWithin (2 ^ 29) (point_of (lattice_of d grid) node)
  node_within node = (
    or_within (lattice_of d grid).xs (column (lattice_of d grid) node) xs_within,
    or_within (lattice_of d grid).ys (row (lattice_of d grid) node) ys_within,
  )

-- ---- lines by membership
module _ (d : Design) (grid : ℕ) (h : 1 ≤ grid) where
  pub xs_are : AreLines (unit_of d) grid (outline_of d).x0 (outline_of d).x1 (anchors_of (unit_of d) false d.pins)
      (lattice_of d grid).xs
  xs_are = lines_by_membership (unit_of d) grid (outline_of d).x0 (outline_of d).x1
      (anchors_of (unit_of d) false d.pins) (unit_some d) h

  pub ys_are : AreLines (unit_of d) grid (outline_of d).y0 (outline_of d).y1 (anchors_of (unit_of d) true d.pins)
      (lattice_of d grid).ys
  ys_are = lines_by_membership (unit_of d) grid (outline_of d).y0 (outline_of d).y1 (anchors_of (unit_of d) true d.pins)
      (unit_some d) h

-- ---- layers
module _ (layers : List BoardLayer) where
  all_read : (k : ℕ) (q : ℕ × BoardLayer) → k < length (enumerate_from 0 layers)
      → slice_get layers (get_or (enumerate_from 0 layers) k q).0 ≡ Some (get_or (enumerate_from 0 layers) k q).1
  all_read k q l =
      let h : k < length layers = omega (arith, l, length-enumerate_from 0 layers) in
      let e = get_or-enumerate_from 0 layers k q h ∙ ap (λ (n : ℕ). (n, get_or layers k q.1)) (zero-add k) in
      subst (λ (r : ℕ × BoardLayer). slice_get layers r.0 ≡ Some r.1) (sym e) (slice_get-get_or layers k q.1 h)

  off : (b : Bool) → not b ≡ true → b ≡ false
  off true e = cc
  off false e = refl

  pub signals_signal : All (λ i. IsSomeAnd (slice_get layers i) (λ (l : BoardLayer). l.power ≡ false))
      (signals_of layers)
  signals_signal =
      let kept = filter (λ (q : ℕ × BoardLayer). not q.1.power) (enumerate_from 0 layers) in
      let read = All-filter (λ (q : ℕ × BoardLayer). not q.1.power) (λ (q : ℕ × BoardLayer). slice_get layers q.0
      ≡ Some q.1) (enumerate_from 0 layers) all_read in
      let passed = filter_passes (λ (q : ℕ × BoardLayer). not q.1.power) (enumerate_from 0 layers) in
      All-map (λ i. IsSomeAnd (slice_get layers i) (λ (l : BoardLayer). l.power ≡ false)) (λ (q : ℕ × BoardLayer). q.0)
      kept
      (λ k e l. subst (λ o. IsSomeAnd o (λ (b : BoardLayer). b.power ≡ false)) (sym (read k e l))
      (off _ (passed k e l)))

  pub signals_few : length (signals_of layers) ≤ length layers
  signals_few =
      let both = length-filter_both (λ (q : ℕ × BoardLayer). not q.1.power)
      (λ (q : ℕ × BoardLayer). not (not q.1.power)) (λ q. refl) (enumerate_from 0 layers) in
      let mapped = length-map (filter (λ (q : ℕ × BoardLayer). not q.1.power) (enumerate_from 0 layers))
      (λ (q : ℕ × BoardLayer). q.0) in
      omega (arith, both, mapped, length-enumerate_from 0 layers)

-- ---- the whole lattice
pub lattice_fits : (d : Design) (grid : ℕ) → IsSound d → 1 ≤ grid → node_count (lattice_of d grid) ≤ 2 ^ 24
    → FitsDesign d (lattice_of d grid)
lattice_fits d grid s h few = record {
  unit_is = refl;
  some_unit = unit_some d;
  small_unit = unit_few d;
  xs_ascend = (xs_are d grid h).ascends;
  ys_ascend = (ys_are d grid h).ascends;
  xs_within = xs_within d grid s;
  ys_within = ys_within d grid s;
  signal = signals_signal d.layers;
  few_layers = (let a = signals_few d.layers in omega (arith, a, s.parts.few_layers));
  few_nodes = few;
}

pub fits_if_ok : (d : Design) (grid : ℕ) (r : Result Mesh LatticeFault) → IsSound d → 1 ≤ grid
    → IsLatticeOf (lattice_of d grid) r → IfOk r (FitsDesign d)
fits_if_ok d grid (Ok m) s h w = subst (FitsDesign d) (sym w.0) (lattice_fits d grid s h w.1)
fits_if_ok d grid (Err e) s h w = tt
