use Rattle.std.proofs.Common.{◌≡◌, ◌<◌, ◌++◌, ℕ, List, [], ◌∷◌, All, sym, ◌∙◌, ap, subst, take, length, get_or, arith}
use Rattle.std.proofs.lemmas.List.{take_all, take_more, get_or-take, length-take}
use Rattle.pcb_model.specs.declared.item.Item.{Item}
use Rattle.pcb_model.specs.declared.design.Design.{Design}
use Rattle.pcb_model.specs.Bounds.{IsItemFit}
use Rattle.pcb_model.specs.Sound.{IsSound}
use Rattle.route_plan.proofs.Serving.{fixed_at}
use Rattle.route_plan.proofs.fixed_copper.fixed_copper.Goals as goal

-- the first fixed items have ids below the next
ids_below : (d : Design) → IsSound d → (k : ℕ) → All (λ (b : Item). b.id < k) (take k d.fixed)
ids_below d sound k = λ j x less.
    let e = length-take k d.fixed in
    let low : j < k = omega (arith, e, less) in
    let within : j < length d.fixed = omega (arith, e, less) in
    subst (λ (b : Item). b.id < k) (sym (get_or-take k d.fixed j x low))
    (subst (λ n. n < k) (sym (fixed_at d sound j x within).numbered) low)

pub loop-item-init : goal.loop-item-init
loop-item-init c = c.new-copper.ensures

pub add_item-requires-clause-above : goal.add_item-requires-clause-above
add_item-requires-clause-above c =
    let d = c.args.d.now in let k = c.loop-item.item-index in let a = c.item-item.result in
    let within : k < length d.fixed =
    subst (λ (xs : List Item). k < length xs) c.as_slice-item-items.ensures c.loop-item-test.true in
    let is : a ≡ get_or d.fixed k a = c.item-item.is ∙ ap (λ xs. get_or xs k a) c.as_slice-item-items.ensures in
    let id : a.id ≡ k = ap (λ (b : Item). b.id) is ∙ (fixed_at d c.requires k a within).numbered in
    subst (λ (b : Item). All (λ (o : Item). o.id < b.id) c.loop-item.copper) (sym c.in-Ok.ensures)
    (subst (λ n. All (λ (o : Item). o.id < n) c.loop-item.copper) (sym id)
    (subst (λ (xs : List Item). All (λ (o : Item). o.id < k) xs) (sym c.loop-item.invariant)
    (ids_below d c.requires k)))

pub loop-item-preserved : goal.loop-item-preserved
loop-item-preserved c =
    let d = c.args.d.now in let k = c.loop-item.item-index in let a = c.item-item.result in
    let within : k < length d.fixed =
    subst (λ (xs : List Item). k < length xs) c.as_slice-item-items.ensures c.loop-item-test.true in
    let is : a ≡ get_or d.fixed k a = c.item-item.is ∙ ap (λ xs. get_or xs k a) c.as_slice-item-items.ensures in
    c.in_default.ensures
    ∙ (ap (λ (xs : List Item). xs ++ c.in-Ok.copy ∷ []) c.loop-item.invariant
    ∙ (ap (λ (b : Item). take k d.fixed ++ b ∷ []) (c.in-Ok.ensures ∙ is)
    ∙ sym (take_more d.fixed k a within)))

pub add_item-requires-clause-fits : goal.add_item-requires-clause-fits
add_item-requires-clause-fits c =
    let same : length c.as_slice-item-items.result.now ≡ length c.args.d.now.fixed =
    ap length c.as_slice-item-items.ensures in
    let within : c.loop-item.item-index < length c.args.d.now.fixed = omega (arith, same) in
    let is : c.item-item.result ≡ get_or c.args.d.now.fixed c.loop-item.item-index c.item-item.result =
    c.item-item.is
    ∙ ap (λ xs. get_or xs c.loop-item.item-index c.item-item.result) c.as_slice-item-items.ensures in
    subst IsItemFit (sym c.in-Ok.ensures)
    (subst IsItemFit (sym is)
    (fixed_at c.args.d.now c.requires c.loop-item.item-index c.item-item.result within).item.fits)

pub returns : goal.returns
returns c =
    let same : length c.as_slice-item-items.result.now ≡ length c.args.d.now.fixed =
    ap length c.as_slice-item-items.ensures in
    let past = c.loop-item-test.false in
    c.loop-item.invariant ∙ take_all c.loop-item.item-index c.args.d.now.fixed (omega (arith, same, past))
