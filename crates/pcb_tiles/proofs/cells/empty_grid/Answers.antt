use Rattle.pcb_tiles.proofs.Grids.{empty_is}
use Rattle.pcb_tiles.proofs.cells.empty_grid.Goals as goal

pub returns : goal.returns
returns c =
    empty_is c.args.area c.rows_in.result c.columns_in.result c.in_ok-row.row c.in_ok-rows.rows c.in_ok-new.field-0
    c.rows_in.ensures.is c.columns_in.ensures.is c.in_ok-row.ensures c.in_ok-rows.ensures c.in_ok-new.ensures.ok
