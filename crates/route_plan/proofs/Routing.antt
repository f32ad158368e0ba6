-- The walk that a search answers, whichever moves it goes by.
use Rattle.std.proofs.Common.{◌≡◌, ℕ, ◌-◌, ◌<◌, List, [], ◌∷◌, map, length, get_or, Option, Some, None, refl, sym, ap}
use Rattle.std.proofs.Common.{◌∙◌, subst, arith, All}
use Rattle.std.specs.Prelude.{Contains}
use Rattle.pcb_model.specs.declared.item.Item.{Item}
use Rattle.pcb_model.specs.declared.design.Design.{Design}
use Rattle.route_lattice.specs.declared.moves.Walk.{Walk}
use Rattle.route_lattice.specs.Mesh.{Mesh, node_count}
use Rattle.route_lattice.specs.Walks.{MoveGraph, Hop, Leads, to_of, IsWalk}
use Rattle.path_wire.specs.Wires.{IsNetWalk}
use Rattle.path_wire.specs.Joins.{last_node}
use Rattle.path_wire.proofs.Hopping.{walk_of_net}
use Rattle.route_plan.specs.Plans.{moves_of}
use Rattle.least_offer.proofs.Resting.{unpriced_walk, on_fixed}

pub net_walk_of : (d : Design) (m : Mesh) (items : List Item) (net via_cost : ℕ) (q : Option ℕ)
    (starts goals : List ℕ) (w : Walk) → All (λ v. v < node_count m) starts
    → IsWalk (moves_of d m items net via_cost q) starts goals w → IsNetWalk d m net w.nodes w.moves
net_walk_of d m items net via_cost None starts goals w there g =
    walk_of_net d m items net via_cost starts goals w there g
net_walk_of d m items net via_cost (Some p) starts goals w there g =
    walk_of_net d m d.fixed net via_cost starts goals (unpriced_walk d m items net via_cost p starts goals w g) there
    (on_fixed d m items net via_cost p starts goals w g)

leads_to : (graph : MoveGraph) (a b : ℕ) (hs : List Hop) → Leads graph a hs b → last_node a (map to_of hs) ≡ b
leads_to graph a b [] h = h
leads_to graph a b (x ∷ hs) h = leads_to graph x.to b hs h.1

pub ends_at : (graph : MoveGraph) (starts goals : List ℕ) (w : Walk) → (g : IsWalk graph starts goals w)
    → Contains goals (last_node g.from (map to_of g.hops))
ends_at graph starts goals w g = subst (Contains goals) (sym (leads_to graph g.from g.to g.hops g.leads)) g.ends_in

pub last_at : (v : ℕ) (vs : List ℕ) (x : ℕ) → get_or (v ∷ vs) (length vs) x ≡ last_node v vs
last_at v [] x = refl
last_at v (w ∷ vs) x = last_at w vs x

pub last_place : (ns : List ℕ) (v : ℕ) (vs : List ℕ) (x : ℕ) → ns ≡ v ∷ vs → get_or ns (length ns - 1) x
    ≡ last_node v vs
last_place ns v vs x e =
    let n : length (v ∷ vs) - 1 ≡ length vs = omega arith in
    ap (λ (xs : List ℕ). get_or xs (length xs - 1) x) e ∙ ap (λ (k : ℕ). get_or (v ∷ vs) k x) n ∙ last_at v vs x

pub first_place : (ns : List ℕ) (v : ℕ) (vs : List ℕ) (x : ℕ) → ns ≡ v ∷ vs → get_or ns 0 x ≡ v
first_place ns v vs x e = ap (λ (xs : List ℕ). get_or xs 0 x) e

pub some_node : (ns : List ℕ) (v : ℕ) (vs : List ℕ) → ns ≡ v ∷ vs → 0 < length ns
some_node ns v vs e = let l : length ns ≡ length (v ∷ vs) = ap (λ (xs : List ℕ). length xs) e in omega (arith, l)
