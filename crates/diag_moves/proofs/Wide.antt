-- The moves of a net with its diagonals: a search may go over them.
use Rattle.std.proofs.Common.{◌≡◌, ℕ, ℤ, ◌+◌, ◌-◌, ◌*◌, ◌<◌, ◌≤◌, ◌^◌, ◌-ℤ◌, nat_lt, unsigned_abs, refl, sym}
use Rattle.std.proofs.Common.{ap, ◌∙◌, subst, arith, inl, inr, ◌⊎◌, Option, Some, None, List, lt-ltb, le-ltb}
use Rattle.std.specs.Option.{option_map}
use Rattle.std.proofs.lemmas.Int.{ints}
use Rattle.std.proofs.lemmas.Nat.{div_below}
use Rattle.geo_kernel.specs.declared.point.Point.{Point}
use Rattle.geo_kernel.specs.Plane.{IsWithin}
use Rattle.pcb_model.specs.declared.item.Item.{Item}
use Rattle.pcb_model.specs.declared.design.Design.{Design}
use Rattle.route_lattice.specs.declared.moves.Move.{Move}
use Rattle.route_lattice.specs.Mesh.{Mesh, node_count, point_of}
use Rattle.route_lattice.specs.Fits.{FitsDesign}
use Rattle.route_lattice.specs.Walks.{Hop, Opens, IsSound as IsGraphSound}
use Rattle.route_lattice.specs.Ways.{way, way_count}
use Rattle.route_lattice.specs.Legal.{IsOpen, probe_of, way_price, legal_graph, CanMove}
use Rattle.route_lattice.proofs.Steps.{yes, no}
use Rattle.route_lattice.proofs.Fitting.{point_within}
use Rattle.path_wire.specs.Diagonals.{diagonal_at, wide_way, diagonal_price, slope_price, wide_price}
use Rattle.path_wire.specs.Diagonals.{wide_graph}
use Rattle.diag_moves.specs.Slopes.{slant_graph}
use Rattle.path_wire.proofs.Diagonals.{IsDiagonal}
use Rattle.path_wire.proofs.Walking.{move_diagonal, move_leads}

-- ---- the first moves and the last
module _ (d : Design) (m : Mesh) (net v i : ℕ) where
  abbrev pub behind : ℕ
  behind = 4 + (i - way_count d m net)

  pub way_first : i < way_count d m net → wide_way d m net v i ≡ way d m net v i
  way_first h = yes (nat_lt i (way_count d m net)) (way d m net v i) (diagonal_at m v behind) (way d m net v i)
      (lt-ltb i (way_count d m net) h) refl

  pub way_last : way_count d m net ≤ i → wide_way d m net v i ≡ diagonal_at m v behind
  way_last h = no (nat_lt i (way_count d m net)) (way d m net v i) (diagonal_at m v behind) (diagonal_at m v behind)
      (le-ltb i (way_count d m net) h) refl

  pub price_first : (via_cost : ℕ) → i < way_count d m net
      → wide_price d m net via_cost v i ≡ way_price m via_cost v (way d m net v i)
  price_first via_cost h = yes (nat_lt i (way_count d m net)) (way_price m via_cost v (way d m net v i))
      (slope_price m v (diagonal_at m v behind)) (way_price m via_cost v (way d m net v i))
      (lt-ltb i (way_count d m net) h) refl

  pub price_last : (via_cost : ℕ) → way_count d m net ≤ i
      → wide_price d m net via_cost v i ≡ slope_price m v (diagonal_at m v behind)
  price_last via_cost h = no (nat_lt i (way_count d m net)) (way_price m via_cost v (way d m net v i))
      (slope_price m v (diagonal_at m v behind)) (slope_price m v (diagonal_at m v behind))
      (le-ltb i (way_count d m net) h) refl

-- ---- prices
pub diagonal_small : (gap : ℕ) → gap ≤ 2 ^ 30 → diagonal_price gap ≤ 2 ^ 35
diagonal_small gap h =
    let b = div_below (gap * 1414214 + 999999) 1000000 (2 ^ 31) (omega arith) (omega (arith, h)) in by _ b
  where
    by : (n : ℕ) → n < 2 ^ 31 → n ≤ 2 ^ 35
    by n k = omega (arith, k)

pub apart_small : (p q : Point) → IsWithin (2 ^ 29) p → IsWithin (2 ^ 29) q → unsigned_abs (q.x -ℤ p.x) ≤ 2 ^ 30
apart_small p q a b = by p.x q.x a.0 b.0
  where
    by : (x y : ℤ) → unsigned_abs x ≤ 2 ^ 29 → unsigned_abs y ≤ 2 ^ 29 → unsigned_abs (y -ℤ x) ≤ 2 ^ 30
    by x y h k = omega (arith, ints)

slope_small : (d : Design) (m : Mesh) (v : ℕ) (o : Option (Move × ℕ)) → FitsDesign d m → v < node_count m
    → ((r : Move × ℕ) → o ≡ Some r → r.1 < node_count m) → slope_price m v o ≤ 2 ^ 35
slope_small d m v None fits h leads = omega arith
slope_small d m v (Some r) fits h leads =
    diagonal_small (unsigned_abs ((point_of m r.1).x -ℤ (point_of m v).x))
    (apart_small (point_of m v) (point_of m r.1) (point_within d m v fits h)
    (point_within d m r.1 fits (leads r refl)))

-- ---- the graph
-- an index is that of a legal move, or behind them
pub either_side : (i n : ℕ) → (i < n) ⊎ (n ≤ i)
either_side i n = grind arith

pub wide_sound : (d : Design) (m : Mesh) (items : List Item) (net via_cost : ℕ) → CanMove d m net via_cost
    → IsGraphSound (legal_graph d m items net via_cost) → IsGraphSound (wide_graph d m items net via_cost)
wide_sound d m items net via_cost can legal = record {
  nodes = legal.nodes;
  leads = λ v i mv to h k e. move_leads d m net can.fits v to mv h (record { index = i; listed = k; leads = e });
  small_price = λ v i p h k e. elim (either_side i (way_count d m net)) [
    | inl first ↦ legal.small_price v i p h first (e ∙ price_first d m net v i via_cost first)
    | inr last ↦
        let small = slope_small d m v (diagonal_at m v (behind d m net v i)) can.fits h
        (λ r f. (move_diagonal d m net can.fits v i r h k (le-ltb i (way_count d m net) last) f).there) in
        let paid : p ≡ slope_price m v (diagonal_at m v (behind d m net v i)) =
        e ∙ price_last d m net v i via_cost last in
        omega (arith, small, paid)
  ];
  one_price = λ v i p q h k e f. e ∙ sym f;
}

-- ---- an open move is a legal one, or an open diagonal
module _ (d : Design) (m : Mesh) (items : List Item) (net via_cost v : ℕ) (hop : Hop)
    (o : Opens (wide_graph d m items net via_cost) v hop) where
  pub opens_legal : hop.index < way_count d m net → Opens (legal_graph d m items net via_cost) v hop
  opens_legal h = record {
    listed = h;
    leads = sym (way_first d m net v hop.index h) ∙ o.leads;
    is_open = subst (λ (x : Option (Move × ℕ)).
        IsOpen d items net (option_map (λ (w : Move × ℕ). probe_of d m net v w.0 w.1) x))
        (way_first d m net v hop.index h) o.is_open;
    costs = o.costs ∙ price_first d m net v hop.index via_cost h;
  }

  pub opens_diagonal : FitsDesign d m → v < node_count m → way_count d m net ≤ hop.index
      → IsDiagonal m v (behind d m net v hop.index) (hop.move, hop.to)
  opens_diagonal fits there h =
      move_diagonal d m net fits v hop.index (hop.move, hop.to) there o.listed
      (le-ltb hop.index (way_count d m net) h) (sym (way_last d m net v hop.index h) ∙ o.leads)

  pub pays_diagonal : way_count d m net ≤ hop.index
      → hop.price ≡ diagonal_price (unsigned_abs ((point_of m hop.to).x -ℤ (point_of m v).x))
  pays_diagonal h =
      o.costs ∙ price_last d m net v hop.index via_cost h
      ∙ ap (slope_price m v) (sym (way_last d m net v hop.index h) ∙ o.leads)

-- ---- the diagonals alone
pub slant_sound : (d : Design) (m : Mesh) (items : List Item) (net via_cost : ℕ) → CanMove d m net via_cost
    → IsGraphSound (legal_graph d m items net via_cost) → IsGraphSound (slant_graph d m items net via_cost)
slant_sound d m items net via_cost can legal =
    let all = wide_sound d m items net via_cost can legal in record {
      nodes = all.nodes;
      leads = λ v i mv to h k e. all.leads v (way_count d m net + i) mv to h (omega (arith, k)) e;
      small_price = λ v i p h k e. all.small_price v (way_count d m net + i) p h (omega (arith, k)) e;
      one_price = λ v i p q h k e f. e ∙ sym f;
    }
