use Rattle.std.proofs.Common.{◌+◌, length, ap, arith}
use Rattle.pcb_model.specs.Pieces.{pieces_of, metal_of}
use Rattle.pcb_model.specs.Near.{box_of_points, vertices_of, greatest_width}
use Rattle.pcb_tiles.specs.Tiling.{half_up}
use Rattle.pcb_board.specs.Boards.{SnapOf}
use Rattle.pcb_board.proofs.Ticks.{few_entries}
use Rattle.pcb_board.proofs.snap.SnapCopper.is_blocked.Goals as goal

pub returns-clause-cost : goal.returns-clause-cost
returns-clause-cost g c =
    let t = c.self.inside.tiles in
    let ps = pieces_of c.args.d.now (metal_of c.args.p.now) in
    let few = few_entries t.area (box_of_points (vertices_of ps)) t.items (t.reach + half_up (greatest_width ps))
    c.self.invariant.is_area in
    let same = ap (λ (s : SnapOf). length s.items) c.self.view_is in
    omega (arith, few, same, c.is_blocked.ensures.cost)
