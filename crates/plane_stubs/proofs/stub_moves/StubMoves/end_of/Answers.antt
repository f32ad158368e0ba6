use Rattle.std.proofs.Common.{sym, ◌∙◌, true≢false}
use Rattle.plane_joins.specs.inner.Graph.{EndsBy}
use Rattle.plane_stubs.proofs.Ending.{none_next}
use Rattle.plane_stubs.proofs.stub_moves.StubMoves.end_of.Goals as goal

pub loop-i-preserved : goal.loop-i-preserved
loop-i-preserved c =
    let n = c.args.self.now.on in
    none_next (EndsBy n.on n.net c.args.node) c.loop-i.i c.loop-i.invariant
    (λ ends. true≢false (sym (c.ends_by.ensures.1 ends) ∙ c.if-ends_by.false))
