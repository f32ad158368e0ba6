use Rattle.std.proofs.Common.{◌≡◌, List, Option, Some, length, refl, sym, ◌∙◌, subst}
use Rattle.std.specs.Prelude.{IfSome, slice_get}
use Rattle.std.proofs.lemmas.Option.{slice_get_read}
use Rattle.geo_kernel.specs.declared.point.Point.{Point}
use Rattle.geo_kernel.specs.declared.spine.Spine.TheVariants.{Area}
use Rattle.geo_kernel.specs.Boxes.{IsBoxOf}
use Rattle.pcb_model.specs.Bounds.{IsBoundFit}
use Rattle.pcb_board.proofs.Loading.{box_area, no_area}
use Rattle.pcb_board.proofs.load.area_of.Goals as goal

pub box_of-area-requires-clause-well_formed : goal.box_of-area-requires-clause-well_formed
box_of-area-requires-clause-well_formed c =
    let look = c.in-Some.ensures.lookup in
    let fit : IsBoundFit c.in_ok-copy_loops-in-Some.field-0 =
    subst IsBoundFit (sym look.1 ∙ sym (c.in_ok-copy_loops-in-Some.ensures ∙ c.as_slice.ensures))
    (c.requires 0 c.in-Some.loops.now look.3.0) in
    (fit.some, fit.loops_close)

pub box_of-area-requires-clause-within : goal.box_of-area-requires-clause-within
box_of-area-requires-clause-within c =
    let look = c.in-Some.ensures.lookup in
    let fit : IsBoundFit c.in_ok-copy_loops-in-Some.field-0 =
    subst IsBoundFit (sym look.1 ∙ sym (c.in_ok-copy_loops-in-Some.ensures ∙ c.as_slice.ensures))
    (c.requires 0 c.in-Some.loops.now look.3.0) in
    fit.loops_within

pub returns-in_ok-copy_loops-in-Some-clause-area : goal.returns-in_ok-copy_loops-in-Some-clause-area
returns-in_ok-copy_loops-in-Some-clause-area c =
    let look = c.in-Some.ensures.lookup in
    let fit : IsBoundFit c.in_ok-copy_loops-in-Some.field-0 =
    subst IsBoundFit (sym look.1 ∙ sym (c.in_ok-copy_loops-in-Some.ensures ∙ c.as_slice.ensures))
    (c.requires 0 c.in-Some.loops.now look.3.0) in
    box_area c.in_ok-copy_loops-in-Some.field-0 c.box_of-area.result fit c.box_of-area.ensures

pub returns-in_ok-copy_loops-in-Some-clause-least : goal.returns-in_ok-copy_loops-in-Some-clause-least
returns-in_ok-copy_loops-in-Some-clause-least c =
    let look = c.in-Some.ensures.lookup in
    let at : slice_get c.args.bounds.now 0 ≡ Some c.in-Some.loops.now =
    slice_get_read c.args.bounds.now (length c.args.bounds.now) 0 c.in-Some.loops.now refl look.3.0 look.1 in
    subst (λ (o : Option (List (List Point))). IfSome o (λ loops. IsBoxOf (Area loops) c.box_of-area.result)) (sym at)
    (subst (λ (loops : List (List Point)). IsBoxOf (Area loops) c.box_of-area.result)
    (c.in_ok-copy_loops-in-Some.ensures ∙ c.as_slice.ensures) c.box_of-area.ensures)

pub returns-in-None-clause-area : goal.returns-in-None-clause-area
returns-in-None-clause-area c = no_area
