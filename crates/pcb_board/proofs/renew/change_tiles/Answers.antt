use Rattle.std.proofs.Common.{◌≡◌, ◌<◌, ◌++◌, ◌∷◌, [], ℕ, List, Some, get_or, length, take, refl, sym}
use Rattle.std.proofs.Common.{◌∙◌, ap, subst}
use Rattle.std.specs.Prelude.{All, slice_get}
use Rattle.std.proofs.lemmas.List.{append-nil, append_assoc, take_all, take_more}
use Rattle.std.proofs.lemmas.Option.{slice_get_read}
use Rattle.pcb_model.specs.declared.item.Item.{Item}
use Rattle.pcb_model.specs.Bounds.{IsItemFit}
use Rattle.pcb_tiles.specs.Spread.{Spread, holding}
use Rattle.board_offers.specs.Items.{without}
use Rattle.pcb_board.proofs.Taking.{taken_out, without_more, without_none, below_next}
use Rattle.pcb_board.proofs.renew.change_tiles.Goals as goal

pub loop-id-init : goal.loop-id-init
loop-id-init c = ap (holding c.args.tiles.now) (sym (without_none c.args.tiles.now.items))

pub loop-id-preserved : goal.loop-id-preserved
loop-id-preserved c =
    let ids = c.args.gone.now in
    let id = get_or c.args.gone.now c.loop-id.id-index 0 in
    let items = c.args.tiles.now.items in
    taken_out c.loop-id.tiles c.remove.new.self id c.in_ok-remove.field-0 c.in_order.ensures.ascends
    c.in_ok-remove.ensures.ok
    ∙ ap (λ (t : Spread). holding t (without (id ∷ []) t.items)) c.loop-id.invariant
    ∙ ap (holding c.args.tiles.now) (without_more (take c.loop-id.id-index ids) id items)
    ∙ ap (λ (xs : List ℕ). holding c.args.tiles.now (without xs items))
    (sym (take_more ids c.loop-id.id-index 0 c.loop-id-test.true))

pub add_copy-requires-clause-above : goal.add_copy-requires-clause-above
add_copy-requires-clause-above c =
    let at : slice_get c.args.come.now c.loop-item.item-index ≡ Some c.item-item.result =
    slice_get_read c.args.come.now (length c.args.come.now) c.loop-item.item-index c.item-item.result refl
    c.loop-item-test.true c.item-item.is in
    let all = below_next c.args.gone.now c.args.tiles.now.items c.args.come.now c.args.first c.loop-item.item-index
    c.item-item.result c.requires.below c.requires.numbered at in
    subst (λ (xs : List Item). All (λ (b : Item). b.id < c.item-item.result.id) xs)
    (sym (ap (λ (t : Spread). t.items) c.loop-item.invariant)) all

pub add_copy-requires-clause-fits : goal.add_copy-requires-clause-fits
add_copy-requires-clause-fits c =
    subst IsItemFit (sym c.item-item.is)
    (c.requires.fit c.loop-item.item-index c.item-item.result c.loop-item-test.true)

pub loop-item-init : goal.loop-item-init
loop-item-init c =
    let items = c.args.tiles.now.items in
    c.loop-id.invariant
    ∙ ap (λ (xs : List ℕ). holding c.args.tiles.now (without xs items))
    (take_all c.loop-id.id-index c.args.gone.now c.loop-id-test.false)
    ∙ ap (holding c.args.tiles.now) (sym (append-nil (without c.args.gone.now items)))

pub loop-item-preserved : goal.loop-item-preserved
loop-item-preserved c =
    let stay = without c.args.gone.now c.args.tiles.now.items in
    let front = take c.loop-item.item-index c.args.come.now in
    c.in_ok-add_copy.ensures.ok
    ∙ ap (λ (t : Spread). holding t (t.items ++ c.item-item.result ∷ [])) c.loop-item.invariant
    ∙ ap (holding c.args.tiles.now) (append_assoc stay front (c.item-item.result ∷ []))
    ∙ ap (λ (xs : List Item). holding c.args.tiles.now (stay ++ xs))
    (ap (λ (a : Item). front ++ a ∷ []) c.item-item.is
    ∙ sym (take_more c.args.come.now c.loop-item.item-index c.item-item.result c.loop-item-test.true))

pub returns : goal.returns
returns c =
    let stay = without c.args.gone.now c.args.tiles.now.items in
    c.loop-item.invariant
    ∙ ap (λ (xs : List Item). holding c.args.tiles.now (stay ++ xs))
    (take_all c.loop-item.item-index c.args.come.now c.loop-item-test.false)
