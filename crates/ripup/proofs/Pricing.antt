-- The graph of moves that take routed items out may be searched.
use Rattle.std.proofs.Common.{◌≡◌, ℕ, ℤ, ◌+◌, ◌*◌, ◌<◌, ◌≤◌, ◌^◌, ◌-ℤ◌, List, Option, Some, None, arith, sym, ◌∙◌, ap}
use Rattle.std.specs.Prelude.{unsigned_abs, IfSome}
use Rattle.std.proofs.lemmas.Int.{ints}
use Rattle.std.proofs.lemmas.Nat.{mul-le}
use Rattle.geo_kernel.specs.declared.point.Point.{Point}
use Rattle.geo_kernel.specs.Plane.{IsWithin}
use Rattle.pcb_model.specs.declared.item.Item.{Item}
use Rattle.pcb_model.specs.declared.item.Probe.{Probe}
use Rattle.pcb_model.specs.declared.design.Design.{Design}
use Rattle.route_lattice.specs.Mesh.{Mesh}
use Rattle.route_lattice.specs.Walks.{IsSound as IsGraphSound}
use Rattle.route_lattice.specs.Ways.{way}
use Rattle.route_lattice.specs.declared.moves.Move.{Move}
use Rattle.route_lattice.specs.declared.moves.Move.TheVariants.{Step, Via}
use Rattle.route_lattice.specs.Mesh.{node_count, point_of}
use Rattle.route_lattice.specs.Fits.{FitsDesign}
use Rattle.route_lattice.specs.Legal.{probe_at, way_between, move_price, way_price}
use Rattle.route_lattice.proofs.Fitting.{point_within}
use Rattle.route_lattice.proofs.Leading.{way_leads, way_goes}
use Rattle.ripup.specs.Rips.{IsInWay, IsCharged, CanRip, rip_graph}
use Rattle.ripup.proofs.Counting.{one_count, few}
use Rattle.ripup.specs.declared.moves.TheConstants.{MOST_CHARGED}

one_charge : (d : Design) (items : List Item) (net : ℕ) (o : Option Probe) (m n : ℕ) → IsCharged d items net o m
    → IsCharged d items net o n → m ≡ n
one_charge d items net None m n h k = h ∙ sym k
one_charge d items net (Some p) m n h k = one_count (IsInWay d net p) MOST_CHARGED items m n h k

few_charged : (d : Design) (items : List Item) (net : ℕ) (o : Option Probe) (n : ℕ) → IsCharged d items net o n → n ≤ 16
few_charged d items net None n h = omega (arith, h)
few_charged d items net (Some p) n h = few (IsInWay d net p) MOST_CHARGED items n h

-- ---- ways
between_small : (p q : Point) → IsWithin (2 ^ 29) p → IsWithin (2 ^ 29) q → way_between p q ≤ 2 ^ 31
between_small p q a b = let x = by p.x q.x a.0 b.0 in let y = by p.y q.y a.1 b.1 in omega (arith, x, y)
  where
    by : (x y : ℤ) → unsigned_abs x ≤ 2 ^ 29 → unsigned_abs y ≤ 2 ^ 29 → unsigned_abs (y -ℤ x) ≤ 2 ^ 30
    by x y h k = omega (arith, ints)

move_small : (d : Design) (m : Mesh) (via_cost v : ℕ) (mv : Move) (to : ℕ) → FitsDesign d m → via_cost ≤ 2 ^ 30
    → v < node_count m → to < node_count m → move_price m via_cost v mv to ≤ 2 ^ 31
move_small d m via_cost v (Step dir) to fits cheap h k = between_small (point_of m v) (point_of m to)
    (point_within d m v fits h) (point_within d m to fits k)
move_small d m via_cost v (Via padstack layer) to fits cheap h k = omega (arith, cheap)

way_small : (d : Design) (m : Mesh) (via_cost v : ℕ) (o : Option (Move × ℕ)) → FitsDesign d m → via_cost ≤ 2 ^ 30
    → v < node_count m → IfSome o (λ (w : Move × ℕ). w.1 < node_count m) → way_price m via_cost v o ≤ 2 ^ 31
way_small d m via_cost v None fits cheap h k = omega arith
way_small d m via_cost v (Some w) fits cheap h k = move_small d m via_cost v w.0 w.1 fits cheap h k

pub price_small : (d : Design) (m : Mesh) (items : List Item) (net via_cost penalty node i : ℕ)
    → CanRip d m net via_cost penalty → node < node_count m → way_price m via_cost node (way d m net node i) ≤ 2 ^ 31
price_small d m items net via_cost penalty node i can h = way_small d m via_cost node
    (way d m net node i) can.can_move.fits can.can_move.small_cost h (way_goes d m net node i h)

pub charge_small : (penalty n : ℕ) → penalty ≤ 2 ^ 30 → n ≤ 16 → penalty * n ≤ 2 ^ 34
charge_small penalty n h k = mul-le penalty n (2 ^ 30) 16 h k

pub graph_sound : (d : Design) (m : Mesh) (items : List Item) (net via_cost penalty : ℕ)
    → CanRip d m net via_cost penalty → IsGraphSound (rip_graph d m items net via_cost penalty)
graph_sound d m items net via_cost penalty can = record {
  nodes = let f = can.can_move.fits.few_nodes in omega (arith, f);
  leads = λ node i mv to h k e. way_leads d m net node i mv to h e;
  small_price = λ node i p h k e.
      let w = price_small d m items net via_cost penalty node i can h in
      let c = charge_small penalty e.count can.small_penalty
      (few_charged d items net (probe_at d m net node i) e.count e.counted) in
      omega (arith, e.price_is, w, c);
  one_price = λ node i p q h k e f.
      e.price_is ∙ ap (λ (n : ℕ). way_price m via_cost node (way d m net node i) + penalty * n)
      (one_charge d items net (probe_at d m net node i) e.count f.count e.counted f.counted) ∙ sym f.price_is;
}
