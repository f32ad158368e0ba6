use Rattle.std.proofs.Common.{All, take}
use Rattle.geo_kernel.specs.Spine.{IsFirst}
use Rattle.pcb_model.specs.declared.item.Piece.{Piece}
use Rattle.pcb_model.specs.Sound.{origin}
use Rattle.move_maps.proofs.centred.begin_at_origin.Given as goal

-- the pieces so far begin there
abbrev pub invariant-loop-piece : goal.invariant-loop-piece
invariant-loop-piece l = All (λ (q : Piece). IsFirst q.spine origin) (take l.piece-index l.pieces)
