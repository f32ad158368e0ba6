use Rattle.std.proofs.Common.{◌≡◌, ◌<◌, List, All, sym, ◌∙◌, ap, subst, length, get_or, take, arith}
use Rattle.std.proofs.lemmas.List.{take_all}
use Rattle.pcb_model.specs.declared.item.Item.{Item}
use Rattle.pcb_model.specs.Bounds.{IsItemFit}
use Rattle.pcb_model.specs.Sound.{Serves}
use Rattle.route_plan.proofs.Serving.{fixed_at, fixed_serve}
use Rattle.tests_board.proofs.Serving.{fixed_above}
use Rattle.tests_board.proofs.copper.fixed_tiles.Goals as goal

pub add_item-requires-clause-fits : goal.add_item-requires-clause-fits
add_item-requires-clause-fits c =
    let same : length c.as_slice-item-items.result.now ≡ length c.args.d.now.fixed =
    ap length c.as_slice-item-items.ensures in
    let within : c.loop-item.item-index < length c.args.d.now.fixed = omega (arith, same) in
    let G : List Item → Item = λ xs. get_or xs c.loop-item.item-index c.item-item.result in
    let is : c.item-item.result ≡ get_or c.args.d.now.fixed c.loop-item.item-index c.item-item.result =
    c.item-item.is ∙ ap G c.as_slice-item-items.ensures in
    subst IsItemFit (sym c.in_ok-copy.ensures)
    (subst IsItemFit (sym is)
    (fixed_at c.args.d.now c.requires.sound c.loop-item.item-index c.item-item.result within).item.fits)

pub add_item-requires-clause-above : goal.add_item-requires-clause-above
add_item-requires-clause-above c =
    let same : length c.as_slice-item-items.result.now ≡ length c.args.d.now.fixed =
    ap length c.as_slice-item-items.ensures in
    let within : c.loop-item.item-index < length c.args.d.now.fixed = omega (arith, same) in
    let G : List Item → Item = λ xs. get_or xs c.loop-item.item-index c.item-item.result in
    let is : c.item-item.result ≡ get_or c.args.d.now.fixed c.loop-item.item-index c.item-item.result =
    c.item-item.is ∙ ap G c.as_slice-item-items.ensures in
    let F : Item → Type 0 = λ x. All (λ (b : Item). b.id < x.id) (take c.loop-item.item-index c.args.d.now.fixed) in
    let H : List Item → Type 0 = λ xs. All (λ (b : Item). b.id < c.in_ok-copy.copy.id) xs in
    subst H (sym c.loop-item.invariant.items)
    (subst F (sym c.in_ok-copy.ensures)
    (fixed_above c.args.d.now c.requires.sound c.loop-item.item-index c.item-item.result within is))

pub returns : goal.returns
returns c =
    let same : length c.as_slice-item-items.result.now ≡ length c.args.d.now.fixed =
    ap length c.as_slice-item-items.ensures in
    let past = c.loop-item-test.false in
    let F : List Item → Type 0 = λ xs. Serves xs c.args.d.now in
    record {
      serves =
          subst F
          (sym (c.loop-item.invariant.items ∙ take_all c.loop-item.item-index c.args.d.now.fixed
          (omega (arith, same, past))))
          (fixed_serve c.args.d.now c.requires.sound);
      reaches = c.loop-item.invariant.reaches;
    }
