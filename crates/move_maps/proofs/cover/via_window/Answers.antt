use Rattle.std.proofs.Common.{subst}
use Rattle.pcb_model.specs.Near.{IsExtentOf}
use Rattle.pcb_model.specs.Pieces.{padstack_pieces}
use Rattle.move_maps.specs.Settings.{GroupOf, IsGroup}
use Rattle.move_maps.proofs.Covering.{via_covered, window_around}
use Rattle.move_maps.proofs.cover.via_window.Goals as goal

pub returns-clause-covers : goal.returns-clause-covers
returns-clause-covers c =
    let s = c.args.group.now in
    let reach = c.group.inside.reach in
    let k = subst (λ (s : GroupOf). IsGroup s c.group.inside.arity reach) c.group.view_is c.group.invariant in
    let e = c.padstack_extent-stack.result in
    let f = c.args.extent in
    let r = c.around.result in
    let grow = c.grow_for-grow.result in
    let w = c.window_for.result in
    λ b of_b. via_covered s.d s.lat s.first c.args.padstack b e f reach grow w k.rules
    (subst (λ (s : GroupOf). IsExtentOf (padstack_pieces s.d c.args.padstack) e) c.group.view_is
    c.padstack_extent-stack.ensures.has) of_b c.grow_for-grow.ensures.enough
    (window_around s.lat r f.bounds e.bounds grow w c.around.ensures.x0 c.around.ensures.y0 c.around.ensures.x1
    c.around.ensures.y1 c.window_for.ensures.window)
