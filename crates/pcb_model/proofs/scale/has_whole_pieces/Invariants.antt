use Rattle.std.proofs.Common.{◌≡◌, drop}
use Rattle.std.specs.List.{list_all}
use Rattle.pcb_model.specs.Scale.{is_whole_piece}
use Rattle.pcb_model.proofs.scale.has_whole_pieces.Given as goal

abbrev pub invariant-loop-c : goal.invariant-loop-c
invariant-loop-c l =
    list_all (is_whole_piece l.nm) (drop l.c-index l.pieces) ≡ list_all (is_whole_piece l.nm) l.pieces
