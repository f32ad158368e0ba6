use Rattle.std.proofs.Common.{◌≤◌, ◌<◌, ap, arith, inl, inr, min}
use Rattle.std.specs.Prelude.{not}
use Rattle.route_run.specs.Runs.{RunOf}
use Rattle.route_run.specs.inner.States.{PassStateOf}
use Rattle.route_run.proofs.States.{goes_on, gone_more, later_more}
use Rattle.route_run.proofs.passes.Passes.go_on.Goals as goal
use Rattle.route_run.proofs.passes.Passes.go_on.Goals.{then-loop-more-test+else-made-most, else-loop-more-test}

pub loop-more-preserved : goal.loop-more-preserved
loop-more-preserved g c =
    let s = c.loop-more.state in
    let most = c.most.ensures.most in
    let own = ap (λ (x : PassStateOf). x.run.passes) c.self.view_is in
    let same = ap (λ (r : RunOf). r.passes) c.loop-more.invariant.later.run_is in
    let cap = c.min-most.ensures in
    let within : c.loop-more.made < s.run.passes = omega (arith, c.if-made-most.true, cap, most, own, same) in
    record {
      gone = gone_more c.loop-more.made s c.in_ok-next.next c.loop-more.more c.in_ok-next.on
          c.loop-more.invariant.gone c.loop-more-test.true within c.in_ok-next.ensures;
      later = later_more c.loop-more.made s c.in_ok-next.next c.loop-more.more c.in_ok-next.on
          c.loop-more.invariant.gone c.loop-more-test.true within c.in_ok-next.ensures c.args.self
          c.loop-more.invariant.later;
    }

pub returns : goal.returns
returns g c =
    let s = c.loop-more.state in
    let made = c.loop-more.made in
    let is = c.loop-more.invariant in
    let most = c.most.ensures.most in
    let own = ap (λ (x : PassStateOf). x.run.passes) c.self.view_is in
    let same = ap (λ (r : RunOf). r.passes) is.later.run_is in
    let cap = c.min-most.ensures in
    elim c.loop-more-test.branch [
      | then-loop-more-test+else-made-most w ↦
          let enough : min c.args.most s.run.passes ≤ made =
          omega (arith, w.if-made-most.false, cap, most, own, same) in
          goes_on c.args.most made c.args.self s c.loop-more.more is.gone is.later (inr enough)
      | else-loop-more-test w ↦
          goes_on c.args.most made c.args.self s c.loop-more.more is.gone is.later
          (inl (ap not w.loop-more-test.false))
    ]
