use Rattle.std.proofs.Common.{◌^◌, subst, sym, List}
use Rattle.std.specs.Prelude.{All, IfSome}
use Rattle.geo_kernel.specs.Spine.{IsSpineWithin}
use Rattle.pcb_model.proofs.Within.{All-at}
use Rattle.dsn_shapes.specs.declared.parts.LayerShape.{LayerShape}
use Rattle.dsn_shapes.specs.Within.{IsStackWithin}
use Rattle.dsn_placement.proofs.copper.stack_shapes.Goals as goal

pub returns-in-Some-clause-within : goal.returns-in-Some-clause-within
returns-in-Some-clause-within c =
    let within : IsStackWithin c.in-Some.stack.now =
    subst (λ o. IfSome o IsStackWithin) (sym c.in-Some.ensures.value)
    (All-at IsStackWithin c.args.stacks.now c.args.pin.now.stack c.requires) in
    subst (λ (shapes : List LayerShape). All (λ (s : LayerShape). IsSpineWithin (2 ^ 29) s.spine) shapes)
    (sym c.as_slice.ensures) within.shapes
