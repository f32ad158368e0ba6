use Rattle.std.proofs.Common.{All, ap, map, sym, subst, ◌∙◌}
use Rattle.pcb_tiles.specs.Cells.{entry_of}
use Rattle.pcb_tiles.specs.declared.fill.Along.TheVariants.{Rows}
use Rattle.pcb_tiles.specs.Filling.{IsMade, row_of_tiles}
use Rattle.pcb_tiles.proofs.Filling.{all_made, grid_filled, places_made}
use Rattle.pcb_tiles.proofs.fill.fill_grid.Goals as goal

pub fill_rows-requires-clause-made : goal.fill_rows-requires-clause-made
fill_rows-requires-clause-made c =
    subst (All (All IsMade)) (sym (c.as_slice.ensures.value ∙ c.in_ok-places.ensures))
    (places_made c.args.area Rows (map entry_of c.args.held.now) (all_made c.args.held.now c.requires.fit))

pub returns : goal.returns
returns c =
    c.in_ok-new.ensures.ok ∙ (c.in_ok-rows.ensures
    ∙ (ap (map (row_of_tiles c.args.area)) (c.as_slice.ensures.value ∙ c.in_ok-places.ensures)
    ∙ grid_filled c.args.area c.args.held.now))
