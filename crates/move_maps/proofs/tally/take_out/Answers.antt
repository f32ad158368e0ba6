use Rattle.std.proofs.Common.{◌++◌, List, refl, sym, ◌∙◌, subst}
use Rattle.std.proofs.lemmas.List.{drop_all}
use Rattle.pcb_model.specs.declared.item.Item.{Item}
use Rattle.pcb_model.specs.Sound.{IsItemOf}
use Rattle.move_maps.specs.Paint.{AreTallied}
use Rattle.move_maps.proofs.Tallied.{go_next}
use Rattle.move_maps.proofs.tally.take_out.Goals as goal

pub loop-item-init : goal.loop-item-init
loop-item-init c = (refl, λ kept t. t)

pub paint_item-requires-clause-item : goal.paint_item-requires-clause-item
paint_item-requires-clause-item c = subst (IsItemOf c.args.group.now.d) (sym c.item-item.is)
    (c.requires.items c.loop-item.item-index c.item-item.result c.loop-item-test.true)

pub paint_item-requires-clause-size : goal.paint_item-requires-clause-size
paint_item-requires-clause-size c = c.loop-item.invariant.0 ∙ c.requires.size

pub loop-item-preserved : goal.loop-item-preserved
loop-item-preserved c = (
  c.paint_item.ensures.size ∙ c.loop-item.invariant.0,
  λ kept t. go_next c.args.group.now.d c.args.group.now.lat c.args.group.now.first c.args.gone.now
      c.loop-item.item-index c.item-item.result kept
      c.loop-item.counts c.paint_item.new.counts c.loop-item-test.true c.item-item.is c.paint_item.ensures
      (c.loop-item.invariant.1 kept t),
)

pub returns-clause-size : goal.returns-clause-size
returns-clause-size c = c.loop-item.invariant.0

pub returns-clause-goes : goal.returns-clause-goes
returns-clause-goes c =
    λ kept t. subst (λ (l : List Item). AreTallied c.args.group.now.d c.args.group.now.lat c.args.group.now.first (l
    ++ kept) c.loop-item.counts)
    (drop_all c.loop-item.item-index c.args.gone.now c.loop-item-test.false) (c.loop-item.invariant.1 kept t)
