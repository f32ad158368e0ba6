use Rattle.std.proofs.Common.{◌≡◌, ◌+◌, ◌≤◌, ◌^◌, refl, arith}
use Rattle.copper_change.proofs.Parting.{lone_next, lone_all, lone_by}
use Rattle.copper_change.proofs.between.lone_items.Goals as goal

pub returns-in_default-checked_add : goal.returns-in_default-checked_add
returns-in_default-checked_add g c =
    let items = g.A.Copper.items c.args.copper.now in
    let other = g.B.Copper.items c.args.other.now in
    let item = c.in-Some.item.now in
    let high : 2 ^ 64 ≤ c.in-Some.item.now.id + 1 = omega (arith, c.in_default-checked_add.ensures) in
    lone_by items other (item.id + 1) (2 ^ 64) c.push_alone.new.lone
    (lone_next items other c.loop-item.from (item.id + 1) item c.loop-item.lone c.push_alone.new.lone
    c.in_order.ensures.ascends c.in-Some.ensures refl c.in_ok-push_alone.ensures c.loop-item.invariant)
    high c.in_order.ensures.ids

pub loop-item-preserved : goal.loop-item-preserved
loop-item-preserved g c =
    let items = g.A.Copper.items c.args.copper.now in
    let other = g.B.Copper.items c.args.other.now in
    let item = c.in-Some.item.now in
    let next_is : c.in-Some.item.now.id + 1 ≡ c.in-Some-checked_add.next =
    omega (arith, c.in-Some-checked_add.ensures) in
    lone_next items other c.loop-item.from c.in-Some-checked_add.next item c.loop-item.lone c.push_alone.new.lone
    c.in_order.ensures.ascends c.in-Some.ensures next_is c.in_ok-push_alone.ensures c.loop-item.invariant

pub returns : goal.returns
returns g c =
    lone_all (g.A.Copper.items c.args.copper.now) (g.B.Copper.items c.args.other.now) c.loop-item.from
    c.loop-item.lone c.loop-item.invariant c.in_default.ensures
