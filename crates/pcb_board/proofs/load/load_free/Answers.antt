use Rattle.std.proofs.Common.{◌+◌, List, arith, ap, drop, length, subst}
use Rattle.std.proofs.lemmas.List.{drop_all}
use Rattle.pcb_model.specs.declared.design.FreeWire.{FreeWire}
use Rattle.pcb_board.specs.inner.Loading.{AreLoaded}
use Rattle.pcb_board.proofs.Loading.{one_loaded, rest_one}
use Rattle.pcb_board.proofs.load.load_free.Goals as goal

pub loop-w-preserved : goal.loop-w-preserved
loop-w-preserved c =
    let d = c.args.d.now in
    let rest = drop (c.loop-w.w-index + 1) c.args.d.now.free in
    let is = rest_one d.free c.as_slice-w-items.result.now c.loop-w.w-index c.w-item.result c.as_slice-w-items.ensures
    c.loop-w-test.true c.w-item.is in
    one_loaded d c.w-item.result rest c.loop-w.loaded c.load_one.new.loaded
    (subst (λ (ws : List FreeWire). AreLoaded c.args.d.now ws c.loop-w.loaded) is c.loop-w.invariant)
    c.in_ok-load_one.ensures.kept c.in_ok-load_one.ensures.one

pub returns : goal.returns
returns c =
    subst (λ (ws : List FreeWire). AreLoaded c.args.d.now ws c.loop-w.loaded)
    (let e = ap length c.as_slice-w-items.ensures in
    drop_all c.loop-w.w-index c.args.d.now.free (omega (arith, e, c.loop-w-test.false)))
    c.loop-w.invariant
