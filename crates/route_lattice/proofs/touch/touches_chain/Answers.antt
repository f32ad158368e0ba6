use Rattle.std.proofs.Common.{subst, IsTrue, ◌↔◌, Any, List}
use Rattle.geo_kernel.specs.Spine.{Touches, Segment}
use Rattle.route_lattice.proofs.Anchoring.{chain_one, chain_more}
use Rattle.route_lattice.proofs.touch.touches_chain.Goals as goal

pub bounds-points-0 : goal.bounds-points-0
bounds-points-0 c = c.requires.some

pub touches_path-requires-clause-p_within : goal.touches_path-requires-clause-p_within
touches_path-requires-clause-p_within c = c.requires.p_within

pub touches_path-requires-clause-start_within : goal.touches_path-requires-clause-start_within
touches_path-requires-clause-start_within c = c.requires.points_within 0 _ c.requires.some

pub touches_path-requires-clause-points_within : goal.touches_path-requires-clause-points_within
touches_path-requires-clause-points_within c = c.requires.points_within

pub touches_path-requires-clause-k_within : goal.touches_path-requires-clause-k_within
touches_path-requires-clause-k_within c = c.requires.k_within

pub bounds-points-0-else-points-eq1 : goal.bounds-points-0-else-points-eq1
bounds-points-0-else-points-eq1 c = c.requires.some

pub slice_bounds-touches_path-count : goal.slice_bounds-touches_path-count
slice_bounds-touches_path-count c = c.requires.some

pub touches_path-requires-else-points-eq1-clause-p_within : goal.touches_path-requires-else-points-eq1-clause-p_within
touches_path-requires-else-points-eq1-clause-p_within c = c.requires.p_within

pub touches_path-requires-else-points-eq1-clause-start_within :
    goal.touches_path-requires-else-points-eq1-clause-start_within
touches_path-requires-else-points-eq1-clause-start_within c = c.requires.points_within 0 _ c.requires.some

pub touches_path-requires-else-points-eq1-clause-k_within : goal.touches_path-requires-else-points-eq1-clause-k_within
touches_path-requires-else-points-eq1-clause-k_within c = c.requires.k_within

pub returns-then-points-eq1 : goal.returns-then-points-eq1
returns-then-points-eq1 c =
    let k = c.args.k in let p = c.args.p in
    subst (λ (s : List Segment). IsTrue c.touches_path.result ↔ Any (Touches k (record { from = p; to = p })) s)
    (chain_one c.args.points.now _ c.if-points-eq1.true) c.touches_path.ensures

pub returns-else-points-eq1 : goal.returns-else-points-eq1
returns-else-points-eq1 c =
    let k = c.args.k in let p = c.args.p in
    subst
    (λ (s : List Segment).
    IsTrue c.touches_path-else-points-eq1.result ↔ Any (Touches k (record { from = p; to = p })) s)
    (chain_more c.args.points.now _ c.requires.some c.if-points-eq1.false) c.touches_path-else-points-eq1.ensures
