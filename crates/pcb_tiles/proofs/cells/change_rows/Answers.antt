use Rattle.std.proofs.Common.{arith}
use Rattle.pcb_tiles.specs.Cells.{next_row}
use Rattle.pcb_tiles.proofs.Best.{at_row}
use Rattle.pcb_tiles.proofs.Grids.{next_row_is, made_more}
use Rattle.pcb_tiles.proofs.cells.change_rows.Goals as goal

pub loop-i-preserved : goal.loop-i-preserved
loop-i-preserved c =
    made_more (next_row c.args.change.now c.args.b.now c.args.rows.now) c.loop-i.changed c.push.new.self
    c.loop-i.i c.in_ok-next_row.field-0 c.loop-i.invariant c.in_ok-push.ensures.ok
    (next_row_is c.args.change.now c.args.b.now c.args.rows.now c.loop-i.i c.in_ok-next_row.field-0
    c.index-rows-i.result c.is_from_to-changes.result c.in_ok-next_row.ensures c.is_from_to-changes.ensures
    (at_row c.args.rows.now c.loop-i.i c.index-rows-i.result
    (omega (arith, c.loop-i-test.true)) c.index-rows-i.is))
