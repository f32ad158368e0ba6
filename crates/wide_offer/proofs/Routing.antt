-- Walks with diagonals from an island to another one, and what is found of them.
use Rattle.std.proofs.Common.{◌≡◌, ℕ, ◌<◌, List, ◌∷◌, All}
use Rattle.pcb_model.specs.declared.item.Item.{Item}
use Rattle.pcb_model.specs.declared.design.Design.{Design}
use Rattle.pcb_islands.specs.declared.net.Island.{Island}
use Rattle.route_lattice.specs.declared.moves.Walk.{Walk}
use Rattle.route_lattice.specs.Mesh.{Mesh, node_count}
use Rattle.route_lattice.specs.Fits.{FitsDesign}
use Rattle.route_lattice.specs.Walks.{IsLeastWalk, NoneLeads}
use Rattle.path_wire.specs.Wires.{IsNetWalk}
use Rattle.path_wire.specs.Joins.{last_node}
use Rattle.path_wire.specs.Diagonals.{wide_graph}
use Rattle.cut_certificate.specs.Cuts.{IsGoal, AreStarts, AreGoals}
use Rattle.cut_certificate.proofs.Making.{starts_in_lattice}
use Rattle.path_wire.proofs.Hopping.{wide_walk_of_net, wide_walk_ends}
use Rattle.wide_offer.specs.declared.search.Route.{Route}
use Rattle.wide_offer.specs.Leading.{LeadsWide}
use Rattle.wide_offer.specs.inner.Routes.{IsRoute, IsRouteOf, LeadsBetween}

-- the nodes of a walk from the island, of which the last is a goal
pub record Goes (d : Design) (m : Mesh) (items : List Item) (others : List Island) (net : ℕ) (w : Walk) : Type 0 where
  pub start : ℕ
  pub rest : List ℕ
  pub nodes_are : w.nodes ≡ start ∷ rest
  pub start_there : start < node_count m
  pub goal : IsGoal d m items others (last_node start rest)
  pub net_walk : IsNetWalk d m net w.nodes w.moves

module _ (d : Design) (m : Mesh) (items : List Item) (via_cost : ℕ) (island : Island) (others : List Island)
  where
    pub starts_there : (starts : List ℕ) → AreStarts d m items island starts → All (λ v. v < node_count m) starts
    starts_there starts are = starts_in_lattice d m items island starts are

    pub goes : (w : Walk) → FitsDesign d m → LeadsBetween d m items via_cost island others w
        → Goes d m items others island.net w
    goes w fits h =
        let ends = wide_walk_ends d m items island.net via_cost h.starts h.goals w fits h.walk in
        record {
          start = ends.0;
          rest = ends.1;
          nodes_are = ends.2;
          start_there = ((h.starts_are.exact ends.0).0 ends.3).there;
          goal = (h.goals_are.exact (last_node ends.0 ends.1)).0 ends.4;
          net_walk = wide_walk_of_net d m items island.net via_cost h.starts h.goals w fits
              (starts_there h.starts h.starts_are) h.walk;
        }

    -- where none leads from the starts to a goal, none leads from the island
    pub none_leads : (starts goals : List ℕ) → AreStarts d m items island starts → AreGoals d m items others goals
        → NoneLeads (wide_graph d m items island.net via_cost) starts goals
        → ¬ (LeadsWide d m items via_cost island others)
    none_leads starts goals starts_are goals_are none l =
        none l.from l.hops l.to ((starts_are.exact l.from).1 l.starts) ((goals_are.exact l.to).1 l.ends) l.leads

    pub between : (starts goals : List ℕ) (w : Walk) → AreStarts d m items island starts
        → AreGoals d m items others goals → IsLeastWalk (wide_graph d m items island.net via_cost) starts goals w
        → LeadsBetween d m items via_cost island others w
    between starts goals w starts_are goals_are least = record {
      starts = starts;
      starts_are = starts_are;
      goals = goals;
      goals_are = goals_are;
      walk = least.walk;
    }

    pub is_route : (starts goals : List ℕ) (w : Walk) (route : Route) → AreStarts d m items island starts
        → AreGoals d m items others goals → IsLeastWalk (wide_graph d m items island.net via_cost) starts goals w
        → IsRouteOf d m items island others w route → IsRoute d m items via_cost island others route
    is_route starts goals w route starts_are goals_are least is = record {
      starts = starts;
      starts_are = starts_are;
      goals = goals;
      goals_are = goals_are;
      walk = w;
      least = least;
      of_walk = is;
    }
