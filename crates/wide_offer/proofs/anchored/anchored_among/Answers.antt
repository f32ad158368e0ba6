use Rattle.std.proofs.Common.{true≢false, sym, ◌∙◌}
use Rattle.std.proofs.lemmas.List.Elements.{Contains-get_or}
use Rattle.wide_offer.proofs.Anchoring.{none_there, not_there, none_more, none_among}
use Rattle.wide_offer.proofs.anchored.anchored_among.Goals as goal

pub loop-id-preserved-in_default : goal.loop-id-preserved-in_default
loop-id-preserved-in_default g c =
    let items = c.args.on.now.items in
    none_more c.args.on.now.d c.args.on.now.lat items c.args.node c.args.ids.now c.loop-id.id-index c.loop-id-test.true
    c.loop-id.invariant (none_there c.args.on.now.d c.args.on.now.lat items c.args.node _ c.in_default.ensures)

pub anchor-requires-clause-item : goal.anchor-requires-clause-item
anchor-requires-clause-item g c = c.in-Some.ensures.2

pub loop-id-preserved : goal.loop-id-preserved
loop-id-preserved g c =
    let items = c.args.on.now.items in
    none_more c.args.on.now.d c.args.on.now.lat items c.args.node c.args.ids.now c.loop-id.id-index c.loop-id-test.true
    c.loop-id.invariant
    (not_there c.args.on.now.d c.args.on.now.lat items c.args.node _ c.in-Some.item.now c.in_order.ensures.ascends
    c.in-Some.ensures.0 c.in-Some.ensures.1 (λ h. true≢false (sym (c.anchor.ensures.1 h) ∙ c.if-anchor.false)))

pub returns : goal.returns
returns g c = none_among c.args.on.now.d c.args.on.now.lat
    c.args.on.now.items c.args.node c.args.ids.now c.loop-id.id-index c.loop-id-test.false
    c.loop-id.invariant

pub returns-then-anchor : goal.returns-then-anchor
returns-then-anchor g c = record {
  item = c.in-Some.item.now;
  there = c.in-Some.ensures.0;
  id_is = c.in-Some.ensures.1;
  asked = Contains-get_or c.args.ids.now c.loop-id.id-index 0 c.loop-id-test.true;
  anchors = c.anchor.ensures.0 c.if-anchor.true;
}
