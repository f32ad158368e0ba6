use Rattle.std.proofs.Common.{List, false, map, subst}
use Rattle.std.proofs.lemmas.List.{take_all}
use Rattle.board_offers.specs.declared.offer.Shoved.{Shoved}
use Rattle.pcb_board.specs.inner.Turning.{ArePut}
use Rattle.pcb_board.proofs.Turns.{put_none, put_shoved}
use Rattle.pcb_board.proofs.marks.clear_shoved.Goals as goal

pub loop-s-init : goal.loop-s-init
loop-s-init c = put_none false c.args.marks.now.items

pub loop-s-preserved : goal.loop-s-preserved
loop-s-preserved c =
    put_shoved c.args.shoves.now c.loop-s.s-index c.s-item.result false c.args.marks.now.items c.loop-s.marks.items
    c.clear.new.marks.items c.loop-s-test.true c.s-item.is c.loop-s.invariant c.clear.ensures

pub returns : goal.returns
returns c =
    subst (λ (xs : List Shoved). ArePut (map (λ (s : Shoved). s.id) xs) false c.args.marks.now.items
    c.loop-s.marks.items) (take_all c.loop-s.s-index c.args.shoves.now c.loop-s-test.false) c.loop-s.invariant
