use Rattle.std.proofs.Common.{◌==◌, ap, sym, ◌∙◌, ◌&&◌}
use Rattle.pcb_model.specs.Scale.{is_whole_piece, is_whole_spine}
use Rattle.pcb_model.proofs.Answered.{test_passes, tests_pass}
use Rattle.pcb_model.proofs.scale.has_whole_pieces.Goals as goal

pub loop-c-preserved : goal.loop-c-preserved
loop-c-preserved c =
    let x = c.c-item.result in
    let e = ap (λ n. n == 0) c.if-c-nm-ne0.false in
    test_passes (is_whole_piece c.args.nm) c.args.pieces.now c.loop-c.c-index x c.has_whole_spine.result
    c.loop-c-test.true c.c-item.is
    (c.has_whole_spine.ensures ∙ ap (λ b. b && is_whole_spine c.args.nm x.spine) (sym e))
    c.if-not-has_whole_spine.false c.loop-c.invariant

pub returns : goal.returns
returns c =
    tests_pass (is_whole_piece c.args.nm) c.args.pieces.now c.loop-c.c-index c.loop-c-test.false c.loop-c.invariant
