use Rattle.std.proofs.Common.{◌≡◌, ◌≤◌, ◌^◌, ℕ, ◌+◌, arith, subst, sym}
use Rattle.ripup.specs.inner.Steps.{IsPassed}
use Rattle.ripup.proofs.Charging.{begins, passes, no_more, no_higher, limit_met}
use Rattle.ripup.proofs.moves.count_in_way.Goals as goal

pub loop-n-init : goal.loop-n-init
loop-n-init g c =
    let d = c.args.on.now.d in
    let items = c.args.on.now.items in
    let serves = c.keeps.ensures.serves in
    subst (λ (n : ℕ). IsPassed d items c.args.net c.args.probe.now n 0) (sym c.fixed_count-from.ensures)
    (begins d items c.args.net c.args.probe.now c.keeps.ensures.sound serves c.in_order.ensures.ascends)

pub returns-in_default-clause-counted : goal.returns-in_default-clause-counted
returns-in_default-clause-counted g c =
    let d = c.args.on.now.d in
    let items = c.args.on.now.items in
    let serves = c.keeps.ensures.serves in
    no_more d items c.args.net c.args.probe.now c.keeps.ensures.sound serves c.in_order.ensures.ascends c.loop-n.from
    c.loop-n.n
    c.loop-n.invariant (omega arith) c.in_default.ensures

pub returns-in_default-checked_add-clause-counted : goal.returns-in_default-checked_add-clause-counted
returns-in_default-checked_add-clause-counted g c =
    let d = c.args.on.now.d in
    let items = c.args.on.now.items in
    let serves = c.keeps.ensures.serves in
    let high : 2 ^ 64 ≤ c.in-Some.id + 1 = omega (arith, c.in_default-checked_add.ensures) in
    no_higher d items c.args.net c.args.probe.now c.keeps.ensures.sound serves c.in_order.ensures.ascends
    (c.in-Some.id + 1)
    (c.loop-n.n + 1)
    (passes d items c.args.net c.args.probe.now c.keeps.ensures.sound serves c.in_order.ensures.ascends c.loop-n.from
    c.in-Some.id c.loop-n.n c.loop-n.invariant c.in-Some.ensures)
    (omega arith) high c.in_order.ensures.ids

pub loop-n-preserved : goal.loop-n-preserved
loop-n-preserved g c =
    let d = c.args.on.now.d in
    let items = c.args.on.now.items in
    let serves = c.keeps.ensures.serves in
    let next_is : c.in-Some.id + 1 ≡ c.in-Some-checked_add.next = omega (arith, c.in-Some-checked_add.ensures) in
    subst (λ (n : ℕ). IsPassed d items c.args.net c.args.probe.now n (c.loop-n.n + 1)) next_is
    (passes d items c.args.net c.args.probe.now c.keeps.ensures.sound serves c.in_order.ensures.ascends c.loop-n.from
    c.in-Some.id c.loop-n.n c.loop-n.invariant c.in-Some.ensures)

pub returns-clause-counted : goal.returns-clause-counted
returns-clause-counted g c =
    let d = c.args.on.now.d in
    let items = c.args.on.now.items in
    let serves = c.keeps.ensures.serves in
    let all : c.loop-n.n ≡ 16 = omega (arith, c.loop-n-test.false, c.loop-n.auto.n-end) in
    limit_met d items c.args.net c.args.probe.now c.keeps.ensures.sound serves c.in_order.ensures.ascends c.loop-n.from
    (subst (λ (n : ℕ). IsPassed d items c.args.net c.args.probe.now c.loop-n.from n) all c.loop-n.invariant)
