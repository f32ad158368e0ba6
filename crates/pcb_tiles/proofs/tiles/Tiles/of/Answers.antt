use Rattle.std.proofs.Common.{All, ap, sym, subst, ◌∙◌}
use Rattle.pcb_model.specs.Bounds.{IsItemFit}
use Rattle.pcb_tiles.specs.Cells.{grid_of}
use Rattle.pcb_tiles.specs.Shelves.{flat, IsChunk}
use Rattle.pcb_tiles.proofs.Filling.{spread_of}
use Rattle.pcb_tiles.proofs.tiles.Tiles.of.Goals as goal

pub fill_grid-requires-clause-fit : goal.fill_grid-requires-clause-fit
fill_grid-requires-clause-fit c =
    subst (All IsItemFit) (sym (c.as_slice-2.ensures ∙ c.in_ok-held.ensures.is)) c.requires.fit

pub invariant_of-result : goal.invariant_of-result
invariant_of-result c =
    spread_of c.args.area c.args.reach c.args.items.now c.in_ok-shelf.shelf c.in_ok-grid.grid c.requires.area
    c.requires.reach_within c.requires.ascends c.in_ok-held.ensures.ids c.requires.fit
    (subst (All IsChunk) (sym c.in_ok-shelf.ensures.ok) c.in_ok-chunks_of.ensures.chunks)
    (ap flat c.in_ok-shelf.ensures.ok
    ∙ (c.in_ok-chunks_of.ensures.items ∙ (c.as_slice.ensures ∙ c.in_ok-held.ensures.is)))
    (c.in_ok-grid.ensures ∙ ap (grid_of c.args.area) (c.as_slice-2.ensures ∙ c.in_ok-held.ensures.is))
