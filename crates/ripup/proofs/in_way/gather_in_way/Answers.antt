use Rattle.std.proofs.Common.{List, subst, sym}
use Rattle.pcb_model.specs.Bounds.{IsItemFit}
use Rattle.ripup.proofs.Ripping.{one_more}
use Rattle.std.proofs.lemmas.List.{take_all}
use Rattle.pcb_model.specs.declared.item.Item.{Item}
use Rattle.ripup.specs.inner.Steps.{AreInWayOfAll}
use Rattle.ripup.proofs.in_way.gather_in_way.Goals as goal

pub push_in_way-requires : goal.push_in_way-requires
push_in_way-requires g c = subst IsItemFit (sym c.item-item.is)
    (c.requires c.loop-item.item-index c.item-item.result c.loop-item-test.true)

pub loop-item-preserved : goal.loop-item-preserved
loop-item-preserved g c =
    one_more c.args.on.now.d c.args.on.now.items c.args.new.now c.loop-item.item-index c.item-item.result
    c.item-item.result _ _ c.loop-item-test.true c.item-item.is c.loop-item.invariant c.in_ok-push_in_way.ensures

pub returns : goal.returns
returns g c =
    subst (λ (new : List Item). AreInWayOfAll c.args.on.now.d c.args.on.now.items new c.loop-item.found.items)
    (take_all c.loop-item.item-index c.args.new.now c.loop-item-test.false) c.loop-item.invariant
