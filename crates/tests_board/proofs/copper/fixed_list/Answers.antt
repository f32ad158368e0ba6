use Rattle.std.proofs.Common.{◌≡◌, ◌<◌, sym, ◌∙◌, ap, subst, length, get_or, arith}
use Rattle.std.proofs.lemmas.List.{take_all}
use Rattle.pcb_model.specs.Bounds.{IsItemFit}
use Rattle.route_plan.proofs.Serving.{fixed_at}
use Rattle.tests_board.proofs.copper.fixed_list.Goals as goal

pub add_plain-requires-clause-fits : goal.add_plain-requires-clause-fits
add_plain-requires-clause-fits c =
    let same : length c.as_slice-item-items.result.now ≡ length c.args.d.now.fixed =
    ap length c.as_slice-item-items.ensures in
    let within : c.loop-item.item-index < length c.args.d.now.fixed = omega (arith, same) in
    let is : c.item-item.result ≡ get_or c.args.d.now.fixed c.loop-item.item-index c.item-item.result =
    c.item-item.is
    ∙ ap (λ xs. get_or xs c.loop-item.item-index c.item-item.result) c.as_slice-item-items.ensures in
    subst IsItemFit (sym c.in_ok-copy.ensures)
    (subst IsItemFit (sym is)
    (fixed_at c.args.d.now c.requires c.loop-item.item-index c.item-item.result within).item.fits)

pub returns : goal.returns
returns c =
    let same : length c.as_slice-item-items.result.now ≡ length c.args.d.now.fixed =
    ap length c.as_slice-item-items.ensures in
    let past = c.loop-item-test.false in
    c.loop-item.invariant ∙ take_all c.loop-item.item-index c.args.d.now.fixed (omega (arith, same, past))
