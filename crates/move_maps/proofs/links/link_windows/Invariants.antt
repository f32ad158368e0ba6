use Rattle.std.proofs.Common.{All, take, flat_map}
use Rattle.pcb_model.specs.declared.item.Item.{Item}
use Rattle.move_maps.specs.Paint.{CoverTogether}
use Rattle.move_maps.specs.Parts.{parts_by}
use Rattle.move_maps.proofs.links.link_windows.Given as goal

-- the pieces so far
abbrev pub invariant-loop-piece : goal.invariant-loop-piece
invariant-loop-piece l = All (λ (a : Item). CoverTogether l.group.d l.group.lat l.group.first a l.windows.items)
    (flat_map (parts_by l.item) (take l.piece-index l.item.pieces))
