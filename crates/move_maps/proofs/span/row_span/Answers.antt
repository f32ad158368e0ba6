use Rattle.std.proofs.Common.{◌≤◌, arith}
use Rattle.move_maps.proofs.Spanning.{span_first, span_next, span_last}
use Rattle.move_maps.proofs.span.row_span.Goals as goal

pub loop-window-init : goal.loop-window-init
loop-window-init c = span_first c.args.windows.now c.args.columns c.args.row c.args.columns

pub loop-window-preserved : goal.loop-window-preserved
loop-window-preserved c =
    let s = c.loop-window.span in let t = c.spread-span.result in let k = c.spread-span.ensures in
    span_next c.args.windows.now c.args.columns c.args.row c.loop-window.window-index
    (record { left = 0; right = 0; bottom = 0; top = 0 }) s.left s.right t.left t.right c.loop-window-test.true k.left
    k.right k.within k.outs c.loop-window.invariant

pub returns-clause-span : goal.returns-clause-span
returns-clause-span c =
    let s = c.loop-window.span in
    let first = c.min.result in
    let e : first ≤ s.left = omega (arith, c.min.ensures) in
    span_last c.args.windows.now c.args.columns c.args.row c.loop-window.window-index s.left s.right first
    c.loop-window-test.false e
    c.loop-window.invariant
