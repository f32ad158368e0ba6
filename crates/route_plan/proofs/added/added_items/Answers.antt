use Rattle.std.proofs.Common.{Some, false, refl, ap, ◌∙◌}
use Rattle.std.proofs.lemmas.List.{take_all}
use Rattle.std.proofs.lemmas.List.Elements.{All-same}
use Rattle.pcb_model.specs.Pieces.{item_of}
use Rattle.pcb_model.specs.Bounds.{IsItemFit}
use Rattle.board_offers.specs.Items.{added_from}
use Rattle.route_plan.proofs.Adding.{all_fit, one_added}
use Rattle.route_plan.proofs.added.added_items.Goals as goal

pub loop-i-preserved : goal.loop-i-preserved
loop-i-preserved g c =
    let d = c.args.on.now.d in
    let m = c.index-metals-i.result in
    one_added d c.args.net c.args.metals.now c.loop-i.i m m (item_of d c.loop-i.i (Some c.args.net) false m)
    c.loop-i.items c.add_item.new.items c.loop-i-test.true c.index-metals-i.is c.loop-i.invariant refl
    c.in_ok-add_item.ensures

pub returns-clause-fit : goal.returns-clause-fit
returns-clause-fit g c =
    let d = c.args.on.now.d in
    let ms = c.args.metals.now in
    All-same IsItemFit c.loop-i.items (added_from d c.args.net 0 ms) (c.loop-i.invariant
    ∙ ap (added_from d c.args.net 0) (take_all c.loop-i.i ms c.loop-i-test.false))
    (all_fit d c.args.net 0 ms c.requires)
