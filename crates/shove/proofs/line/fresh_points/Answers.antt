use Rattle.std.proofs.Common.{◌≡◌, true, false, ◌∙◌, not, Bool}
use Rattle.shove.proofs.Chaining.{fresh_more, nothing_more}
use Rattle.shove.proofs.line.fresh_points.Goals as goal
use Rattle.shove.proofs.line.fresh_points.Goals.{then-ne+in_ok-push-2, else-ne}

untrue : (b r : Bool) → r ≡ not b → r ≡ true → b ≡ false
untrue true r e t = cc
untrue false r e t = cc

true_then : (b r : Bool) → r ≡ not b → r ≡ false → b ≡ true
true_then true r e t = cc
true_then false r e t = cc

pub loop-q-preserved : goal.loop-q-preserved
loop-q-preserved c = elim c.if-ne.branch [
  | then-ne+in_ok-push-2 w ↦ fresh_more c.args.first c.args.rest.now c.loop-q.q-index _ c.loop-q.last c.loop-q.fresh
      c.if-ne.fresh false c.loop-q-test.true c.loop-q.invariant (untrue _ _ c.ne.ensures w.if-ne.true) (w.fresh-is
      ∙ w.in_ok-push-2.ensures.ok)
  | else-ne w ↦ fresh_more c.args.first c.args.rest.now c.loop-q.q-index _ c.loop-q.last c.loop-q.fresh c.if-ne.fresh
      true c.loop-q-test.true c.loop-q.invariant (true_then _ _ c.ne.ensures w.if-ne.false)
      (nothing_more _ _ w.fresh-is)
]
