use Rattle.std.proofs.Common.{◌≡◌, drop}
use Rattle.std.specs.List.{list_all}
use Rattle.pcb_model.specs.declared.item.Item.{Item}
use Rattle.pcb_model.specs.Scale.{is_whole_metal}
use Rattle.pcb_model.proofs.scale.has_whole_items.Given as goal

abbrev pub invariant-loop-a : goal.invariant-loop-a
invariant-loop-a l =
    list_all (λ (a : Item). is_whole_metal l.d l.nm a.metal) (drop l.a-index l.items)
    ≡ list_all (λ (a : Item). is_whole_metal l.d l.nm a.metal) l.items
