use Rattle.std.proofs.Common.{◌∙◌, List, All, sym, subst}
use Rattle.pcb_model.specs.declared.item.Item.{Item}
use Rattle.pcb_model.specs.Sound.{IsItemOf}
use Rattle.move_maps.specs.Paint.{Shuts}
use Rattle.move_maps.proofs.Tallied.{come_painted}
use Rattle.move_maps.proofs.Stringing.{parts_fit}
use Rattle.move_maps.proofs.Shutting.{come_strung}
use Rattle.move_maps.proofs.fill.bring.Goals as goal

pub returns-then-not-is_edge : goal.returns-then-not-is_edge
returns-then-not-is_edge c =
    λ items t. come_painted c.args.group.now.d c.args.group.now.lat c.args.group.now.first c.args.item.now items
    c.args.counts.now
    c.paint_item.new.counts c.paint_item.ensures t

pub parts_of-requires : goal.parts_of-requires
parts_of-requires c = c.is_edge.ensures c.if-not-is_edge.false

pub shut_by_each-requires-clause-items : goal.shut_by_each-requires-clause-items
shut_by_each-requires-clause-items c =
    subst (All (IsItemOf c.args.group.now.d)) (sym (c.as_slice.ensures ∙ c.in_ok-parts.ensures))
    (parts_fit c.args.group.now.d c.args.item.now (c.is_edge.ensures c.if-not-is_edge.false) c.requires.item)

pub returns : goal.returns
returns c =
    λ items t. come_strung c.args.group.now.d c.args.group.now.lat c.args.group.now.first c.args.item.now items
    c.args.counts.now
    c.shut_by_each.new.counts (c.is_edge.ensures c.if-not-is_edge.false)
    (subst (λ (l : List Item). Shuts c.args.group.now.d c.args.group.now.lat c.args.group.now.first l c.args.counts.now
    c.shut_by_each.new.counts) (c.as_slice.ensures ∙ c.in_ok-parts.ensures) c.shut_by_each.ensures) t
