use Rattle.std.proofs.Common.{◌≡◌, Some, false, [], ◌∷◌, ◌++◌, ap, ◌∙◌, subst}
use Rattle.pcb_model.specs.declared.item.Metal.{Metal}
use Rattle.pcb_model.specs.declared.item.Item.{Item}
use Rattle.pcb_model.specs.Pieces.{item_of}
use Rattle.route_lattice.specs.Ground.{GroundOf}
use Rattle.route_plan.proofs.added.add_item.Goals as goal

pub returns : goal.returns
returns g c =
    let made = subst (λ (y : GroundOf). c.in_ok-make_item.field-0
    ≡ item_of y.d c.args.id (Some c.args.net) false c.in_ok-metal.metal) c.on.view_is c.in_ok-make_item.ensures in
    c.in_ok-push.ensures.ok ∙ ap (λ (a : Item). c.args.items.now ++ a ∷ [])
    (made ∙ ap (λ (x : Metal). item_of c.args.on.now.d c.args.id (Some c.args.net) false x) c.in_ok-metal.ensures)
