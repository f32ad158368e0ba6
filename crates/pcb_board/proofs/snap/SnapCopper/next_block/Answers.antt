use Rattle.std.proofs.Common.{◌+◌, List, None, length, ap, subst, arith}
use Rattle.pcb_model.specs.declared.item.Item.{Item}
use Rattle.pcb_model.specs.Pairs.{ProbeAgrees}
use Rattle.pcb_model.specs.Pieces.{pieces_of, metal_of}
use Rattle.pcb_model.specs.Copper.{Finds}
use Rattle.pcb_model.specs.Near.{box_of_points, vertices_of, greatest_width}
use Rattle.pcb_tiles.specs.Tiling.{half_up}
use Rattle.pcb_board.specs.Boards.{SnapOf}
use Rattle.pcb_board.proofs.Ticks.{few_entries}
use Rattle.pcb_board.proofs.snap.SnapCopper.next_block.Goals as goal

pub returns-clause-finds : goal.returns-clause-finds
returns-clause-finds g c =
    subst (λ (xs : List Item). Finds (λ b. ProbeAgrees c.args.d.now c.args.net c.args.p.now b → ⊥)
    (ProbeAgrees c.args.d.now c.args.net c.args.p.now) c.args.from None xs c.next_block.result)
    (ap (λ (t : SnapOf). t.items) c.self.view_is) c.next_block.ensures.finds

pub returns-clause-cost : goal.returns-clause-cost
returns-clause-cost g c =
    let t = c.self.inside.tiles in
    let ps = pieces_of c.args.d.now (metal_of c.args.p.now) in
    let few = few_entries t.area (box_of_points (vertices_of ps)) t.items (t.reach + half_up (greatest_width ps))
    c.self.invariant.is_area in
    let same = ap (λ (s : SnapOf). length s.items) c.self.view_is in
    omega (arith, few, same, c.next_block.ensures.cost)
