use Rattle.std.proofs.Common.{◌≡◌, ◌++◌, take}
use Rattle.pcb_tiles.proofs.shelf.share_all.Given as goal

abbrev pub invariant-loop-c : goal.invariant-loop-c
invariant-loop-c l = l.all ≡ l.fn.all ++ take l.c-index l.chunks
