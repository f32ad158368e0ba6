use Rattle.std.proofs.Common.{arith}
use Rattle.move_maps.proofs.Covering.{so_far_first, so_far_next, so_far_all}
use Rattle.move_maps.proofs.cover.cover.Goals as goal

pub loop-padstack-init : goal.loop-padstack-init
loop-padstack-init c =
    let k = c.step_window-window.ensures in
    so_far_first c.args.group.now.d c.args.group.now.lat c.args.group.now.first c.args.extent
    c.vias-padstack-items.result.now
    c.step_window-window.result k.covers k.left k.right k.bottom k.top

pub loop-padstack-preserved : goal.loop-padstack-preserved
loop-padstack-preserved c =
    let s = c.loop-padstack.invariant in
    let v = c.via_window.ensures in
    let j = c.joined-window.ensures in
    so_far_next c.args.group.now.d c.args.group.now.lat c.args.group.now.first c.args.extent
    c.vias-padstack-items.result.now
    c.loop-padstack.padstack-index c.loop-padstack.window c.via_window.result c.joined-window.result
    c.loop-padstack-test.true s v.covers j.a j.b
    (let a = s.left in let b = v.left in let e = j.left in omega (arith, a, b, e))
    (let a = s.right in let b = v.right in let e = j.right in omega (arith, a, b, e))
    (let a = s.bottom in let b = v.bottom in let e = j.bottom in omega (arith, a, b, e))
    (let a = s.top in let b = v.top in let e = j.top in omega (arith, a, b, e))

pub returns-clause-covers : goal.returns-clause-covers
returns-clause-covers c =
    so_far_all c.args.group.now.d c.args.group.now.lat c.args.group.now.first c.args.extent
    c.vias-padstack-items.result.now c.loop-padstack.padstack-index c.loop-padstack.window c.ordered.result
    c.vias-padstack-items.ensures c.loop-padstack-test.false c.loop-padstack.invariant c.ordered.ensures.held

pub returns-clause-within : goal.returns-clause-within
returns-clause-within c =
    let s = c.loop-padstack.invariant in
    let o = c.ordered.ensures in
    record {
      columns = (let l = o.left in let r = o.right in omega (arith, l, r));
      right = (let l = o.right in let a = s.left in let r = s.right in omega (arith, l, a, r));
      rows = (let l = o.bottom in let r = o.top in omega (arith, l, r));
      top = (let l = o.top in let a = s.bottom in let r = s.top in omega (arith, l, a, r));
    }
