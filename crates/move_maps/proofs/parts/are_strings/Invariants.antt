use Rattle.std.proofs.Common.{All, take}
use Rattle.move_maps.specs.Parts.{IsString}
use Rattle.move_maps.proofs.parts.are_strings.Given as goal

-- the pieces so far
abbrev pub invariant-loop-piece : goal.invariant-loop-piece
invariant-loop-piece l = All IsString (take l.piece-index l.pieces)
