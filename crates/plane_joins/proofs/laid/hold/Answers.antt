use Rattle.std.proofs.Common.{◌<◌, ◌∷◌, ◌++◌, [], ℕ, All, inl, inr, refl, sym, ap, ◌∙◌, subst}
use Rattle.std.proofs.lemmas.Result.{on_ok_weaker}
use Rattle.pcb_model.specs.declared.item.Item.{Item}
use Rattle.pcb_model.specs.Bounds.{IsItemFit}
use Rattle.pcb_tiles.specs.Spread.{holding}
use Rattle.plane_joins.proofs.Ribbing.{wire_of_design}
use Rattle.plane_joins.proofs.laid.hold.Goals as goal

pub add-requires-clause-above : goal.add-requires-clause-above
add-requires-clause-above c =
    subst (λ (n : ℕ). All (λ (b : Item). b.id < n) c.args.tiles.now.items)
    (sym (ap (λ (a : Item). a.id) c.in_ok-wire.ensures)) c.requires.above

pub add-requires-clause-fits : goal.add-requires-clause-fits
add-requires-clause-fits c =
    let w = wire_of_design c.args.d.now c.args.t.now.p.now _ _ c.args.c c.requires.sound c.requires.trial.plane
    c.requires.fit in
    subst IsItemFit (sym c.in_ok-wire.ensures) w.fits

pub returns : goal.returns
returns c =
    on_ok_weaker c.add.result
    (λ e. inl (e ∙ ap (λ (a : Item). holding c.args.tiles.now (c.args.tiles.now.items ++ a ∷ [])) c.in_ok-wire.ensures))
    c.add.ensures

pub returns-then-not-t : goal.returns-then-not-t
returns-then-not-t c = inr (c.if-not-t.true, refl)
