use Rattle.std.proofs.Common.{arith}
use Rattle.pcb_tiles.specs.Cells.{next_cell}
use Rattle.pcb_tiles.proofs.Best.{at_cell}
use Rattle.pcb_tiles.proofs.Grids.{next_is, made_more}
use Rattle.pcb_tiles.proofs.cells.change_row.Goals as goal

pub loop-i-preserved : goal.loop-i-preserved
loop-i-preserved c =
    made_more (next_cell c.args.change.now c.args.b.now c.args.row.now) c.loop-i.cells c.push.new.self c.loop-i.i
    c.in_ok-next_cell.field-0 c.loop-i.invariant c.in_ok-push.ensures.ok
    (next_is c.args.change.now c.args.b.now c.args.row.now c.loop-i.i c.in_ok-next_cell.field-0 c.index-row-i.result
    c.is_from_to-changes.result c.in_ok-next_cell.ensures c.is_from_to-changes.ensures
    (at_cell c.args.row.now c.loop-i.i c.index-row-i.result (omega (arith, c.loop-i-test.true)) c.index-row-i.is))
