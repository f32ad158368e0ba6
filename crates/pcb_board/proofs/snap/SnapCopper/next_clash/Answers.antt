use Rattle.std.proofs.Common.{◌+◌, List, Some, length, ap, subst, arith}
use Rattle.pcb_model.specs.declared.item.Item.{Item}
use Rattle.pcb_model.specs.Pairs.{Agrees}
use Rattle.pcb_model.specs.Copper.{Finds}
use Rattle.pcb_model.specs.Near.{box_of_points, vertices_of, greatest_width}
use Rattle.pcb_board.specs.Boards.{SnapOf}
use Rattle.pcb_board.proofs.Ticks.{few_entries}
use Rattle.pcb_board.proofs.snap.SnapCopper.next_clash.Goals as goal

pub returns-clause-finds : goal.returns-clause-finds
returns-clause-finds g c =
    subst (λ (xs : List Item). Finds (λ b. Agrees c.args.d.now c.args.a.now b → ⊥) (Agrees c.args.d.now c.args.a.now)
    c.args.from (Some c.args.a.now.id) xs c.next_clash.result)
    (ap (λ (t : SnapOf). t.items) c.self.view_is) c.next_clash.ensures.finds

pub returns-clause-cost : goal.returns-clause-cost
returns-clause-cost g c =
    let t = c.self.inside.tiles in
    let ps = c.args.a.now.pieces in
    let few = few_entries t.area (box_of_points (vertices_of ps)) t.items (t.reach + greatest_width ps)
    c.self.invariant.is_area in
    let same = ap (λ (s : SnapOf). length s.items) c.self.view_is in
    omega (arith, few, same, c.next_clash.ensures.cost)
