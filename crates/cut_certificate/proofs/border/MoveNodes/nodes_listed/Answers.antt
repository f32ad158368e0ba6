use Rattle.std.proofs.Common.{get_or}
use Rattle.cut_certificate.specs.inner.Listing.{AllListed}
use Rattle.cut_certificate.proofs.Each.{each_more, each_true, each_false, unless}
use Rattle.cut_certificate.proofs.border.MoveNodes.nodes_listed.Goals as goal

pub loop-v-preserved : goal.loop-v-preserved
loop-v-preserved g c =
    each_more (AllListed (g.M.Moves.graph c.args.self.now.on).at (g.M.Moves.graph c.args.self.now.on).arity
    c.args.self.now.nodes.now
    c.args.blocked.now) c.args.self.now.nodes.now c.loop-v.v-index 0 c.loop-v-test.true c.loop-v.invariant
    (c.all_listed.ensures.0 c.if-not-all_listed.false)

pub returns : goal.returns
returns g c =
    each_true (AllListed (g.M.Moves.graph c.args.self.now.on).at (g.M.Moves.graph c.args.self.now.on).arity
    c.args.self.now.nodes.now
    c.args.blocked.now) c.args.self.now.nodes.now c.loop-v.v-index c.loop-v-test.false c.loop-v.invariant

pub returns-then-not-all_listed : goal.returns-then-not-all_listed
returns-then-not-all_listed g c =
    each_false (AllListed (g.M.Moves.graph c.args.self.now.on).at (g.M.Moves.graph c.args.self.now.on).arity
    c.args.self.now.nodes.now
    c.args.blocked.now) c.args.self.now.nodes.now c.loop-v.v-index 0 c.loop-v-test.true
    (unless c.all_listed.result
    (AllListed (g.M.Moves.graph c.args.self.now.on).at (g.M.Moves.graph c.args.self.now.on).arity
    c.args.self.now.nodes.now
    c.args.blocked.now (get_or c.args.self.now.nodes.now c.loop-v.v-index 0)) c.all_listed.ensures
    c.if-not-all_listed.true)
