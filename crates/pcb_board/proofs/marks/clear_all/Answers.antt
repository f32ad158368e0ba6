use Rattle.std.proofs.Common.{ℕ, List, false, subst}
use Rattle.std.proofs.lemmas.List.{take_all}
use Rattle.pcb_board.specs.inner.Turning.{ArePut}
use Rattle.pcb_board.proofs.Turns.{put_none, put_more}
use Rattle.pcb_board.proofs.marks.clear_all.Goals as goal

pub loop-id-init : goal.loop-id-init
loop-id-init c = put_none false c.args.marks.now.items

pub loop-id-preserved : goal.loop-id-preserved
loop-id-preserved c =
    put_more c.args.ids.now c.loop-id.id-index false c.args.marks.now.items c.loop-id.marks.items
    c.clear.new.marks.items c.loop-id-test.true c.loop-id.invariant c.clear.ensures

pub returns : goal.returns
returns c =
    subst (λ (xs : List ℕ). ArePut xs false c.args.marks.now.items c.loop-id.marks.items)
    (take_all c.loop-id.id-index c.args.ids.now c.loop-id-test.false) c.loop-id.invariant
