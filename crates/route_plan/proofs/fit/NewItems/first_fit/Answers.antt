use Rattle.std.proofs.Common.{◌-◌, ◌≤◌, length, None, Some, true, false, subst, arith}
use Rattle.shove.specs.Shoves.{chain_of}
use Rattle.route_plan.specs.inner.Ways.{FindsFit}
use Rattle.route_plan.proofs.Fitting.{one_more, first_up, first_down, none_at_all}
use Rattle.route_plan.proofs.fit.NewItems.first_fit.Goals as goal

pub returns-in-Some : goal.returns-in-Some
returns-in-Some g c =
    let d = c.args.self.now.on.d in
    let m = c.args.self.now.on.lat in
    let items = c.args.self.now.on.items in
    let new = c.args.self.now.new in
    let a = c.args.item.now in
    first_up d m items new a c.loop-run.run c.in-Some.moved c.loop-run.invariant
    (subst (FindsFit d m items new a c.loop-run.run true) {x = _} {y = Some c.in-Some.moved} c.in-Some.is
    c.in_ok-moved.ensures)

pub returns-in-Some-2 : goal.returns-in-Some-2
returns-in-Some-2 g c =
    let d = c.args.self.now.on.d in
    let m = c.args.self.now.on.lat in
    let items = c.args.self.now.on.items in
    let new = c.args.self.now.new in
    let a = c.args.item.now in
    first_down d m items new a c.loop-run.run c.in-Some-2.moved c.loop-run.invariant
    (subst (FindsFit d m items new a c.loop-run.run true) {x = _} {y = None} c.in_default.is c.in_ok-moved.ensures)
    (subst (FindsFit d m items new a c.loop-run.run false) {x = _} {y = Some c.in-Some-2.moved} c.in-Some-2.is
    c.in_ok-moved-2.ensures)

pub loop-run-preserved : goal.loop-run-preserved
loop-run-preserved g c =
    let d = c.args.self.now.on.d in
    let m = c.args.self.now.on.lat in
    let items = c.args.self.now.on.items in
    let new = c.args.self.now.new in
    let a = c.args.item.now in
    one_more d m items new a c.loop-run.run c.loop-run.invariant
    (subst (FindsFit d m items new a c.loop-run.run true) {x = _} {y = None} c.in_default.is c.in_ok-moved.ensures)
    (subst (FindsFit d m items new a c.loop-run.run false) {x = _} {y = None} c.in_default-2.is c.in_ok-moved-2.ensures)

pub returns : goal.returns
returns g c =
    let a = c.args.item.now in
    let end : length (chain_of a.metal) - 1 ≤ c.loop-run.run = omega (
      arith,
      c.run_count-run-end.ensures,
      c.loop-run-test.false,
    ) in
    none_at_all c.args.self.now.on.d c.args.self.now.on.lat c.args.self.now.on.items c.args.self.now.new a
    c.loop-run.run end
    c.loop-run.invariant
