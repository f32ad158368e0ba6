use Rattle.std.proofs.Common.{ℕ, ◌+◌, ◌++◌, All, List, length, sym, ◌∙◌, ap, ap₂, subst, arith, length-append}
use Rattle.std.proofs.lemmas.List.Elements.{All-drop, All-weaker}
use Rattle.pcb_model.specs.declared.item.Item.{Item}
use Rattle.pcb_model.specs.Bounds.{IsItemFit}
use Rattle.pcb_model.specs.Sound.{IsItemOf}
use Rattle.board_offers.specs.declared.offer.Shoved.{Shoved}
use Rattle.board_offers.specs.Items.{gone, added, replaced}
use Rattle.board_offers.specs.Troubles.{FailsLeast, IsThere, AgreesWithNew, IsClear}
use Rattle.board_offers.specs.inner.Searching.{IsNamedThere, AgreesWithAll, StaysWithAll, least_of}
use Rattle.board_offers.proofs.New.{added_length, replaced_length}
use Rattle.board_offers.proofs.Troubles.{three_clear}
use Rattle.board_offers.proofs.Parting.{behind_added, joined_least}
use Rattle.board_offers.proofs.trouble.least_trouble.Goals as goal

pub returns : goal.returns
returns g c =
    let d = c.args.d.now in
    let given = c.args.given.now in
    let items = (g.C.Copper.items c.args.c.now) in
    let o = c.args.offer.now in
    let missing : FailsLeast (IsThere items o) c.least_missing-missing.result =
    subst (λ (ids : List ℕ). FailsLeast (IsNamedThere items ids) c.least_missing-missing.result)
    (c.as_slice-2.ensures.value ∙ c.in_ok-extend_from_slice.ensures.items
    ∙ ap₂ (λ (xs ys : List ℕ). xs ++ ys) c.in_ok-wanted.ensures.items (c.as_slice.ensures.value ∙ c.in_ok-gone.ensures))
    c.least_missing-missing.ensures in
    let clash : FailsLeast (AgreesWithNew d given items o) c.least_clash-clash.result =
    subst (λ (ns : List Item). FailsLeast (AgreesWithAll d items (gone o) ns) c.least_clash-clash.result) c.requires.new
    (subst (λ (ids : List ℕ). FailsLeast (AgreesWithAll d items ids c.args.new.now) c.least_clash-clash.result)
    (c.as_slice-3.ensures.value ∙ c.in_ok-gone.ensures) c.least_clash-clash.ensures) in
    let parted = joined_least d given items o c.least_parted-parted.result c.requires.given c.requires.stand
    (subst (λ (rs : List Item). FailsLeast (StaysWithAll given o.shoves rs items o.shoves) c.least_parted-parted.result)
    (c.behind-replaced.ensures ∙ behind_added d given o c.args.new.now c.len.result c.requires.new c.len.ensures)
    (subst (λ (ss : List Shoved). FailsLeast (StaysWithAll given ss c.behind-replaced.result.now items ss)
    c.least_parted-parted.result) c.as_slice-4.ensures
    c.least_parted-parted.ensures)) in
    subst (FailsLeast (IsClear d given items o))
    (sym (c.earlier-2.ensures ∙ ap (least_of c.least_missing-missing.result) c.earlier.ensures))
    (three_clear d given items o c.least_missing-missing.result c.least_clash-clash.result
    c.least_parted-parted.result missing clash parted)

pub behind-replaced-requires : goal.behind-replaced-requires
behind-replaced-requires g c =
    let e = ap length c.requires.new in
    let l = length-append (added c.args.d.now c.args.given.now c.args.offer.now)
    (replaced c.args.d.now c.args.given.now c.args.offer.now) in
    let a = added_length c.args.d.now c.args.offer.now.net (length c.args.given.now) c.args.offer.now.add in
    let n = c.len.ensures in
    omega (arith, e, l, a, n)

pub least_parted-parted-requires-clause-paired : goal.least_parted-parted-requires-clause-paired
least_parted-parted-requires-clause-paired g c =
    let d = c.args.d.now in
    let given = c.args.given.now in
    let o = c.args.offer.now in
    let e = ap length
    (c.behind-replaced.ensures ∙ behind_added d given o c.args.new.now c.len.result c.requires.new c.len.ensures) in
    let r = replaced_length d given (length given + length o.add) o.shoves in
    let s = ap length c.as_slice-4.ensures in
    omega (arith, e, r, s)

pub least_parted-parted-requires-clause-fit : goal.least_parted-parted-requires-clause-fit
least_parted-parted-requires-clause-fit g c =
    subst (All IsItemFit) (sym c.behind-replaced.ensures)
    (All-drop IsItemFit c.len.result c.args.new.now c.requires.fit)

pub least_parted-parted-requires-clause-items_fit : goal.least_parted-parted-requires-clause-items_fit
least_parted-parted-requires-clause-items_fit g c =
    All-weaker (IsItemOf c.args.d.now) IsItemFit (λ a h. h.fits) (g.C.Copper.items c.args.c.now)
    (g.met.C.Copper.serving _ _ c.requires.serves).items_fit

pub least_clash-clash-requires-clause-above : goal.least_clash-clash-requires-clause-above
least_clash-clash-requires-clause-above g c = c.requires.above
