use Rattle.std.proofs.Common.{◌≡◌, ◌*◌, take, All}
use Rattle.pcb_tiles.specs.Shelves.{flat, IsChunk}
use Rattle.pcb_tiles.proofs.fill.chunks_of.Given as goal

abbrev pub invariant-loop-at : goal.invariant-loop-at
invariant-loop-at l = record {
  items : flat l.chunks ≡ take (l.at * 128) l.held;
  chunks : All IsChunk l.chunks;
}
