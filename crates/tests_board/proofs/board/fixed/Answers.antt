use Rattle.std.proofs.Common.{sym, subst, Option, IfSome}
use Rattle.pcb_model.specs.declared.item.Item.{Item}
use Rattle.pcb_model.specs.Bounds.{IsItemFit}
use Rattle.tests_board.proofs.Serving.{some_fits}
use Rattle.tests_board.proofs.board.fixed.Goals as goal

pub returns : goal.returns
returns c = subst (λ (found : Option Item). IfSome found IsItemFit) (sym c.get.ensures.value)
    (some_fits c.args.d.now c.requires c.args.at)
