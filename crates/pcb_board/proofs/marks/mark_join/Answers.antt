use Rattle.std.proofs.Common.{ℕ, false, List, map, sym, subst}
use Rattle.board_offers.specs.declared.offer.Shoved.{Shoved}
use Rattle.board_offers.specs.Items.{gone, shoved_ids}
use Rattle.pcb_board.specs.declared.answer.Entry.{Entry}
use Rattle.pcb_board.specs.declared.answer.Entry.TheVariants.{Join}
use Rattle.pcb_board.specs.inner.Turning.{ArePut, MarksJoin}
use Rattle.pcb_board.proofs.Turns.{put_both}
use Rattle.pcb_board.proofs.marks.mark_join.Goals as goal

pub returns-in-Join : goal.returns-in-Join
returns-in-Join c =
    let old = c.args.marks.now.items in
    let ripped = c.clear_all.new.marks.items in
    let out = c.clear_shoved.new.marks.items in
    let put : ArePut (gone c.in-Join.offer) false c.args.marks.now.items c.clear_shoved.new.marks.items =
    put_both c.in-Join.offer.rip (shoved_ids c.in-Join.offer) false old ripped out
    (subst (λ (xs : List ℕ). ArePut xs false c.args.marks.now.items c.clear_all.new.marks.items)
    c.as_slice.ensures c.clear_all.ensures)
    (subst (λ (xs : List Shoved). ArePut (map (λ (s : Shoved). s.id) xs) false c.clear_all.new.marks.items
    c.clear_shoved.new.marks.items) c.as_slice-in-Join.ensures c.clear_shoved.ensures) in
    let h : MarksJoin (Join c.in-Join.offer c.in-Join.first c.in-Join.after) c.args.marks.now.items
    c.mark_range.new.marks.items = (out, put, c.mark_range.ensures) in
    subst (λ (e : Entry). MarksJoin e c.args.marks.now.items c.mark_range.new.marks.items) (sym c.in-Join.is) h
