use Rattle.std.proofs.Common.{List, refl, subst, flat_map}
use Rattle.pcb_model.specs.declared.item.Piece.{Piece}
use Rattle.ses_writer.specs.Words.{Appends}
use Rattle.ses_writer.specs.Session.{shape_line}
use Rattle.ses_writer.proofs.Puts.{with_next, at_end, leads_on, all_put}
use Rattle.ses_writer.proofs.library.put_shapes.Goals as goal

pub loop-c-init : goal.loop-c-init
loop-c-init c = record { is = refl }

pub loop-c-preserved : goal.loop-c-preserved
loop-c-preserved c =
    let left = with_next (flat_map (shape_line c.args.d.now c.args.nm)) c.as_slice-c-items.result.now
    c.loop-c.c-index c.c-item.result c.loop-c-test.true c.c-item.is c.loop-c.invariant in
    leads_on left c.in_ok-put_shape.ensures

pub returns : goal.returns
returns c =
    let F = flat_map (shape_line c.args.d.now c.args.nm) in
    let left = at_end F c.as_slice-c-items.result.now c.loop-c.c-index c.loop-c-test.false c.loop-c.invariant in
    subst (λ (ps : List Piece). Appends c.args.out.now.items c.loop-c.out.items (F ps)) c.as_slice-c-items.ensures
    (all_put left)
