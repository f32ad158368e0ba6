use Rattle.std.proofs.Common.{ap, ◌∙◌}
use Rattle.geo_kernel.specs.declared.spine.Spine.{Spine}
use Rattle.pcb_model.specs.declared.item.Piece.{Piece}
use Rattle.pcb_model.proofs.Lookups.{copied_more}
use Rattle.std.proofs.lemmas.List.{take_all}
use Rattle.pcb_model.proofs.make.copy_pieces.Goals as goal

pub loop-p-preserved : goal.loop-p-preserved
loop-p-preserved c =
    let p = c.p-item.result in
    let y : Spine → Piece = λ s. record { layer = p.layer; spine = s; width = p.width } in
    c.in_ok-push.ensures.ok
    ∙ copied_more c.args.ps.now c.loop-p.p-index p c.loop-p.copies
    (y c.in_ok-copy_spine.field-0) c.loop-p-test.true c.p-item.is c.loop-p.invariant (ap y c.in_ok-copy_spine.ensures)

pub returns : goal.returns
returns c = c.loop-p.invariant ∙ take_all c.loop-p.p-index c.args.ps.now c.loop-p-test.false
