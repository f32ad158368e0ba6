use Rattle.std.proofs.Common.{◌∙◌, ◌++◌, ◌∷◌, [], ap, false, length, Some, subst, sym, ℕ}
use Rattle.pcb_model.specs.declared.item.Item.{Item}
use Rattle.pcb_model.specs.declared.item.Metal.{Metal}
use Rattle.pcb_model.specs.Bounds.{IsMetalFit}
use Rattle.pcb_model.specs.Pieces.{item_of}
use Rattle.route_check.proofs.Boards.{item_fits}
use Rattle.route_check.proofs.board.push_item.Goals as goal

pub make_item-requires-clause-place : goal.make_item-requires-clause-place
make_item-requires-clause-place c = subst IsMetalFit (sym c.in_ok-metal.ensures)
    (item_fits c.args.d.now c.requires.sound 0 c.args.x.now c.requires.item).metal_fits

pub make_item-requires-clause-padstacks : goal.make_item-requires-clause-padstacks
make_item-requires-clause-padstacks c = c.requires.sound.fits.padstacks_fit

pub returns : goal.returns
returns c =
    let x = c.args.x.now in
    c.in_ok-push.ensures.ok
    ∙ ap (λ (a : Item). c.args.items.now ++ a ∷ [])
    (c.in_ok-make_item.ensures
    ∙ ap (λ (id : ℕ). item_of c.args.d.now id (Some x.net) false c.in_ok-metal.metal) c.len-id.ensures
    ∙ ap (λ (m : Metal). item_of c.args.d.now (length c.args.items.now) (Some x.net) false m) c.in_ok-metal.ensures)
