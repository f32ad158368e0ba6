use Rattle.std.proofs.Common.{◌∙◌}
use Rattle.pcb_tiles.specs.Shelves.{flat}
use Rattle.pcb_tiles.proofs.Filling.{part_more}
use Rattle.pcb_tiles.proofs.fill.chunks_of.Goals as goal

pub loop-at-preserved : goal.loop-at-preserved
loop-at-preserved c = record {
  items = part_more c.args.held.now c.in_ok-shares_of.field-0 (flat c.loop-at.chunks) (flat c.add_chunk.new.chunks)
      c.loop-at.at c.loop-at.invariant.items (c.in_ok-shares_of.ensures ∙ c.part_from-part.ensures.is)
      c.in_ok-add_chunk.ensures.items;
  chunks = c.in_ok-add_chunk.ensures.chunks;
}
