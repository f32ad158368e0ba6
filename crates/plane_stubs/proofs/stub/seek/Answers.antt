use Rattle.std.proofs.Common.{◌≡◌, ℕ, ◌+◌, ◌<◌, ◌≤◌, ◌^◌, ◌++◌, ◌∷◌, [], List, arith, cond, nat_lt, sym, ap, ◌∙◌, subst}
use Rattle.std.specs.Prelude.{IfOk}
use Rattle.std.proofs.lemmas.List.Elements.{All-weaker}
use Rattle.route_lattice.specs.Mesh.{node_count}
use Rattle.route_lattice.specs.Walks.{Answers}
use Rattle.wave_search.specs.Bounds.{IsBound}
use Rattle.plane_joins.specs.inner.Graph.{stub_graph}
use Rattle.plane_stubs.proofs.Bounding.{left_bound}
use Rattle.plane_stubs.proofs.stub.seek.Goals as goal

pub guided_walk-requires-clause-bound : goal.guided_walk-requires-clause-bound
guided_walk-requires-clause-bound c =
    let n = c.args.moves.now.on in
    let nodes = node_count n.on.lat in
    let graph = stub_graph n.on n.net in
    let small = subst (λ (k : ℕ). k ≤ 2 ^ 30) c.via_price.ensures.price c.via_price.ensures.small in
    let goals : c.push.new.self ≡ nodes ∷ [] =
    c.in_ok-push.ensures.ok ∙ ap (λ (gs : List ℕ). gs ++ c.count.result ∷ []) c.new-goals.ensures
    ∙ ap (λ (v : ℕ). v ∷ []) c.count.ensures.nodes in
    subst (λ (gs : List ℕ). IsBound graph gs (λ node. cond (nat_lt node c.count.result) c.via_price.result 0))
    (sym goals)
    (subst (λ (k : ℕ). IsBound graph (nodes ∷ []) (λ node. cond (nat_lt node k) c.via_price.result 0))
    (sym c.count.ensures.nodes)
    (subst (λ (v : ℕ). IsBound graph (nodes ∷ []) (λ node. cond (nat_lt node nodes) v 0))
    (sym c.via_price.ensures.price) (left_bound n.on n.net c.are_sound.ensures.moves small)))

pub guided_walk-requires-clause-starts : goal.guided_walk-requires-clause-starts
guided_walk-requires-clause-starts c =
    let nodes = node_count c.args.moves.now.on.on.lat in
    All-weaker (λ v. v < nodes) (λ v. v < nodes + 1) (λ v h. omega (arith, h)) c.args.starts.now c.requires.starts

pub returns : goal.returns
returns c =
    let n = c.args.moves.now.on in
    subst (λ (gs : List ℕ). IfOk c.guided_walk.result (Answers (stub_graph n.on n.net) c.args.starts.now gs))
    (c.in_ok-push.ensures.ok ∙ ap (λ (gs : List ℕ). gs ++ c.count.result ∷ []) c.new-goals.ensures
    ∙ ap (λ (v : ℕ). v ∷ []) c.count.ensures.nodes) c.guided_walk.ensures
