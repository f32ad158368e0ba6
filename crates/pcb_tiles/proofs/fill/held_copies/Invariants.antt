use Rattle.std.proofs.Common.{◌≡◌, ◌<◌, ◌^◌, take, All}
use Rattle.pcb_model.specs.declared.item.Item.{Item}
use Rattle.pcb_tiles.proofs.fill.held_copies.Given as goal

abbrev pub invariant-loop-item : goal.invariant-loop-item
invariant-loop-item l = record {
  is : l.held ≡ take l.item-index l.items;
  ids : All (λ (b : Item). b.id < 2 ^ 64) (take l.item-index l.items);
}
