-- Islands of a net, and the walk of a stub.
use Rattle.std.proofs.Common.{◌≡◌, ℕ, arith, refl, List, [], ◌∷◌, Contains}
use Rattle.std.proofs.lemmas.List.Elements.{All-contains}
use Rattle.pcb_islands.specs.declared.net.Island.{Island}
use Rattle.pcb_islands.specs.Islands.{AreIslands, IsIsland, pins_of}
use Rattle.route_lattice.specs.declared.moves.Walk.{Walk}
use Rattle.route_lattice.specs.Walks.{IsWalk}
use Rattle.plane_joins.specs.Stubs.{IsStubWalk, RibGround, moves_on}

-- the net of an island
pub net_of : (g : RibGround) (net : ℕ) (found : List Island) (s : Island) → AreIslands g.d g.items net found
    → Contains found s → s.net ≡ net
net_of g net found s are there =
    (All-contains (IsIsland g.d g.items net (pins_of g.d net)) found s are.each there).net_is

-- a stub's walk is a legal one from its start
pub walk_of : (g : RibGround) (s : Island) (w : Walk) (h : IsStubWalk g s w)
    → IsWalk (moves_on g s.net) (h.from ∷ []) (h.to ∷ []) w
walk_of g s w h = record {
  from = h.from;
  hops = h.hops;
  to = h.to;
  starts_in = (0, omega arith, refl);
  ends_in = (0, omega arith, refl);
  leads = h.leads;
  nodes = h.nodes;
  moves = h.moves;
  price = h.price;
}
