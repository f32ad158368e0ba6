use Rattle.std.proofs.Common.{◌≡◌, take, flat_map}
use Rattle.move_maps.specs.Parts.{parts_by}
use Rattle.move_maps.proofs.parts.parts_of.Given as goal

-- the parts of the pieces so far
abbrev pub invariant-loop-piece : goal.invariant-loop-piece
invariant-loop-piece l = l.parts ≡ flat_map (parts_by l.item) (take l.piece-index l.item.pieces)
