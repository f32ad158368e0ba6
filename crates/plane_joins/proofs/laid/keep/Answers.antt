use Rattle.std.proofs.Common.{ℕ, ◌<◌, ◌+◌, ◌∷◌, List, All, length, sym, ap, ap₂, ◌∙◌, subst}
use Rattle.std.proofs.lemmas.List.{length-append}
use Rattle.pcb_model.specs.declared.item.Item.{Item}
use Rattle.plane_joins.proofs.Growing.{laid_more}
use Rattle.plane_joins.proofs.Routed.{ids_below}
use Rattle.plane_joins.proofs.laid.keep.Goals as goal

pub hold-requires-clause-above : goal.hold-requires-clause-above
hold-requires-clause-above c =
    let d = c.args.d.now in
    let ribs = c.args.laid.now.ribs in
    subst (λ (n : ℕ). All (λ (b : Item). b.id < n) c.args.laid.now.tiles.items)
    (sym (ap₂ (λ (a b : ℕ). a + b) (ap (λ (xs : List Item). length xs) c.as_slice.ensures)
    (ap (λ (xs : List Item). length xs) c.as_slice-2.ensures) ∙ sym (length-append d.fixed ribs)))
    (ids_below d c.requires.sound (c.args.t.now.p.now ∷ c.args.t.now.later.now) c.args.laid.now c.requires.laid)

pub returns-clause-laid : goal.returns-clause-laid
returns-clause-laid c =
    let d = c.args.d.now in
    let ribs = c.args.laid.now.ribs in
    laid_more d c.requires.sound c.args.t.now.p.now c.requires.trial.plane c.args.t.now.later.now c.args.c
    c.requires.fit c.args.laid.now c.requires.laid c.args.t.now.is_met c.requires.trial.met_is _
    (ap₂ (λ (a b : ℕ). a + b) (ap (λ (xs : List Item). length xs) c.as_slice.ensures)
    (ap (λ (xs : List Item). length xs) c.as_slice-2.ensures) ∙ sym (length-append d.fixed ribs))
    c.hold.new.tiles c.in_ok-hold.ensures c.in_ok-rib.rib c.in_ok-rib.ensures c.push.new.self c.in_ok-push.ensures.ok
