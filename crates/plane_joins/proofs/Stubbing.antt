-- The moves of stubs may be searched.
use Rattle.std.proofs.Common.{◌≡◌, ℕ, ◌<◌, ◌≤◌, ◌+◌, ◌^◌, arith, refl, sym, ◌∙◌, Bool, true, false, cond}
use Rattle.std.proofs.Common.{Some, None}
use Rattle.std.specs.Prelude.{nat_lt}
use Rattle.std.proofs.lemmas.Bool.{ltb-true}
use Rattle.std.proofs.lemmas.Option.{none-some, some_pair_parts}
use Rattle.route_lattice.specs.declared.moves.Move.{Move}
use Rattle.route_lattice.specs.declared.moves.Move.TheVariants.{Step}
use Rattle.route_lattice.specs.Legal.{CanMove, way_price}
use Rattle.route_lattice.specs.Mesh.{node_count}
use Rattle.route_lattice.specs.Walks.{IsSound}
use Rattle.route_lattice.specs.Ways.{way, way_count}
use Rattle.plane_joins.specs.Stubs.{RibGround, moves_on}
use Rattle.plane_joins.specs.inner.Graph.{stub_graph, to_last}

module _ (g : RibGround) (net : ℕ) (can : CanMove g.d g.lat net g.via_cost) (legal : IsSound (moves_on g net)) where
  abbrev nodes : ℕ
  nodes = node_count g.lat

  abbrev ways : ℕ
  ways = way_count g.d g.lat net

  leads : (node i : ℕ) (mv : Move) (to : ℕ) (a b : Bool) → nat_lt node nodes ≡ a → nat_lt i ways ≡ b
      → cond a (cond b (way g.d g.lat net node i) (Some (to_last g))) None ≡ Some (mv, to) → to < nodes + 1
  leads node i mv to false b e f h = absurd (none-some (mv, to) h)
  leads node i mv to true true e f h =
      let less = legal.leads node i mv to (ltb-true node nodes e) (ltb-true i ways f) h in omega (arith, less)
  leads node i mv to true false e f h =
      let at_last = (some_pair_parts (Step 0) mv nodes to h).1 in omega (arith, at_last)

  priced : (node i p : ℕ) (a b : Bool) → nat_lt node nodes ≡ a → nat_lt i ways ≡ b
      → p ≡ cond a (cond b (way_price g.lat g.via_cost node (way g.d g.lat net node i)) g.via_cost) 0 → p ≤ 2 ^ 35
  priced node i p false b e f h = omega (arith, h)
  priced node i p true true e f h =
      legal.small_price node i p (ltb-true node nodes e) (ltb-true i ways f) h
  priced node i p true false e f h = let small = can.small_cost in omega (arith, h, small)

  pub graph_sound : IsSound (stub_graph g net)
  graph_sound = record {
    nodes = let few = can.fits.few_nodes in omega (arith, few);
    leads = λ node i mv to wn wi h. leads node i mv to (nat_lt node nodes) (nat_lt i ways) refl refl h;
    small_price = λ node i p wn wi h. priced node i p (nat_lt node nodes) (nat_lt i ways) refl refl h;
    one_price = λ node i p q wn wi h k. h ∙ sym k;
  }
