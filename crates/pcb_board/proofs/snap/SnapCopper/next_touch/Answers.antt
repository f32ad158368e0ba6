use Rattle.std.proofs.Common.{length, ap, arith}
use Rattle.pcb_model.specs.Near.{box_of_points, vertices_of, greatest_width}
use Rattle.pcb_tiles.specs.Tiling.{half_up}
use Rattle.pcb_board.specs.Boards.{SnapOf}
use Rattle.pcb_board.proofs.Ticks.{few_entries}
use Rattle.pcb_board.proofs.snap.SnapCopper.next_touch.Goals as goal

pub returns-clause-cost : goal.returns-clause-cost
returns-clause-cost g c =
    let t = c.self.inside.tiles in
    let ps = c.args.a.now.pieces in
    let few = few_entries t.area (box_of_points (vertices_of ps)) t.items (half_up (greatest_width ps))
    c.self.invariant.is_area in
    let same = ap (λ (s : SnapOf). length s.items) c.self.view_is in
    omega (arith, few, same, c.next_touch.ensures.cost)
