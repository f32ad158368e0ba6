use Rattle.std.proofs.Common.{subst, ◌∙◌}
use Rattle.std.proofs.lemmas.Result.{IfOk-weaker}
use Rattle.route_lattice.specs.Walks.{IsReach}
use Rattle.cut_certificate.specs.inner.Marks.{AreListed}
use Rattle.cut_certificate.specs.inner.Listing.{IsBorder, Closes}
use Rattle.cut_certificate.proofs.Closing.{reach_is_closed, border_closes}
use Rattle.cut_certificate.proofs.Same.{flipped, starts_same, reach_same}
use Rattle.cut_certificate.proofs.border.close.Goals as goal

pub flood_marked-requires : goal.flood_marked-requires
flood_marked-requires g c =
    let a = g.L.Moves.graph c.args.legal.now in
    let b = g.M.Moves.graph c.args.shuts in
    starts_same b a (flipped a b c.requires.same) c.args.starts.now c.requires.starts

pub border_of-requires-clause-size : goal.border_of-requires-clause-size
border_of-requires-clause-size g c = c.in_ok-flooded.ensures.size ∙ c.requires.same.count

pub border_of-requires-clause-listed : goal.border_of-requires-clause-listed
border_of-requires-clause-listed g c =
    let f = c.in_ok-flooded.flooded in
    subst (λ n. AreListed f.marks n f.reach.nodes) c.requires.same.count c.in_ok-flooded.ensures.marks

pub border_of-requires-clause-closed : goal.border_of-requires-clause-closed
border_of-requires-clause-closed g c =
    let a = g.L.Moves.graph c.args.legal.now in
    let b = g.M.Moves.graph c.args.shuts in
    let starts = c.args.starts.now in
    let nodes = c.in_ok-flooded.flooded.reach.nodes in
    let r : IsReach b starts nodes = reach_same a b c.requires.same starts nodes c.in_ok-flooded.ensures.reach in
    reach_is_closed b c.have_prices.ensures starts nodes c.are_sound.ensures c.requires.starts r

pub returns : goal.returns
returns g c =
    let a = g.L.Moves.graph c.args.legal.now in
    let b = g.M.Moves.graph c.args.shuts in
    let starts = c.args.starts.now in
    let goals = c.args.goals.now in
    let nodes = c.in_ok-flooded.flooded.reach.nodes in
    let r : IsReach b starts nodes = reach_same a b c.requires.same starts nodes c.in_ok-flooded.ensures.reach in
    IfOk-weaker c.border_of.result (IsBorder b (g.M.Shuts.shut_by c.args.shuts) nodes goals)
    (Closes b (g.M.Shuts.shut_by c.args.shuts) starts goals)
    (border_closes b (g.M.Shuts.shut_by c.args.shuts) starts goals nodes r) c.border_of.ensures
