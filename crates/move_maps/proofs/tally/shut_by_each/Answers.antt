use Rattle.std.proofs.Common.{◌∙◌, List, sym, subst}
use Rattle.std.proofs.lemmas.List.{take_all}
use Rattle.pcb_model.specs.declared.item.Item.{Item}
use Rattle.pcb_model.specs.Sound.{IsItemOf}
use Rattle.move_maps.specs.Paint.{Shuts}
use Rattle.move_maps.proofs.Shutting.{shut_first, shut_next}
use Rattle.move_maps.proofs.tally.shut_by_each.Goals as goal

pub loop-item-init : goal.loop-item-init
loop-item-init c = shut_first c.args.group.now.d c.args.group.now.lat c.args.group.now.first c.args.items.now
    c.args.counts.now

pub paint_item-requires-clause-item : goal.paint_item-requires-clause-item
paint_item-requires-clause-item c = subst (IsItemOf c.args.group.now.d) (sym c.item-item.is)
    (c.requires.items c.loop-item.item-index c.item-item.result c.loop-item-test.true)

pub paint_item-requires-clause-size : goal.paint_item-requires-clause-size
paint_item-requires-clause-size c = c.loop-item.invariant.size ∙ c.requires.size

pub loop-item-preserved : goal.loop-item-preserved
loop-item-preserved c =
    shut_next c.args.group.now.d c.args.group.now.lat c.args.group.now.first c.args.items.now c.loop-item.item-index
    c.item-item.result
    c.args.counts.now c.loop-item.counts c.paint_item.new.counts c.loop-item-test.true c.item-item.is
    c.paint_item.ensures c.loop-item.invariant

pub returns : goal.returns
returns c =
    subst (λ (l : List Item). Shuts c.args.group.now.d c.args.group.now.lat c.args.group.now.first l c.args.counts.now
    c.loop-item.counts)
    (take_all c.loop-item.item-index c.args.items.now c.loop-item-test.false) c.loop-item.invariant
