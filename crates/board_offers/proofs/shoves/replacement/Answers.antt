use Rattle.std.proofs.Common.{◌≡◌, Option, Some, None, true≢false, List, sym, ◌∙◌, ap, subst}
use Rattle.std.specs.Option.{IsSomeAnd}
use Rattle.std.proofs.lemmas.Option.{get_or_from_slice_get}
use Rattle.geo_kernel.specs.declared.point.Point.{Point}
use Rattle.pcb_model.specs.declared.item.Item.{Item}
use Rattle.pcb_model.specs.Bounds.{IsItemFit, IsMetalFit}
use Rattle.pcb_model.specs.Board.{AreInside}
use Rattle.board_offers.specs.Items.{no_item, reshaped, with_chain}
use Rattle.board_offers.specs.inner.Adding.{IsShovableOf}
use Rattle.board_offers.proofs.New.{reshaped_made}
use Rattle.board_offers.proofs.shoves.replacement.Goals as goal

pub inside_board-requires-clause-a_fits : goal.inside_board-requires-clause-a_fits
inside_board-requires-clause-a_fits c =
    let d = c.args.d.now in
    let s = c.args.s.now in
    let old = c.in-Some.old.now in
    let chained : c.in_ok-item.item ≡ reshaped d c.args.id s.chain old =
    c.in_ok-item.ensures ∙ ap (λ (ps : List Point). reshaped d c.args.id ps old) c.as_slice.ensures in
    let f = c.has_chain_for.ensures.0 c.if-not-has_chain_for.false in
    subst IsItemFit (sym chained)
    (reshaped_made d c.args.id s.id s.chain old c.requires.sound
    (c.requires.given s.id old (sym c.in-Some.ensures)) f.0.routed f.1 f.2 f.3).fits.fits

pub returns-then-not-has_chain_for : goal.returns-then-not-has_chain_for
returns-then-not-has_chain_for c = λ may.
    let P : Item → Type 0 = IsShovableOf c.args.d.now c.args.net c.args.added.now c.args.s.now in
    let f = subst (λ (o : Option Item). IsSomeAnd o P) {x = _} {y = Some c.in-Some.old.now}
    (sym c.in-Some.ensures) may in
    true≢false
    (sym (c.has_chain_for.ensures.1 (f.in_the_way, f.wire, f.points, f.within)) ∙ c.if-not-has_chain_for.true)

pub returns-then-inside_board : goal.returns-then-inside_board
returns-then-inside_board c =
    let d = c.args.d.now in
    let s = c.args.s.now in
    let old = c.in-Some.old.now in
    let P : Item → Type 0 = IsShovableOf d c.args.net c.args.added.now s in
    let chained : c.in_ok-item.item ≡ reshaped d c.args.id s.chain old =
    c.in_ok-item.ensures ∙ ap (λ (ps : List Point). reshaped d c.args.id ps old) c.as_slice.ensures in
    let f = c.has_chain_for.ensures.0 c.if-not-has_chain_for.false in
    let fine : P old = record {
      in_the_way = f.0;
      wire = f.1;
      points = f.2;
      within = f.3;
      inside =
          subst (λ (a : Item). AreInside d.bounds a.pieces) chained (c.inside_board.ensures.0 c.if-inside_board.true);
    } in (
      subst (λ (o : Option Item). IsSomeAnd o P) {x = Some old} {y = _} c.in-Some.ensures fine,
      chained ∙ sym
          (ap (reshaped d c.args.id s.chain)
          (get_or_from_slice_get c.args.given.now s.id old no_item (sym c.in-Some.ensures))),
    )

pub returns-else-inside_board : goal.returns-else-inside_board
returns-else-inside_board c = λ may.
    let d = c.args.d.now in
    let s = c.args.s.now in
    let old = c.in-Some.old.now in
    let P : Item → Type 0 = IsShovableOf d c.args.net c.args.added.now s in
    let f = subst (λ (o : Option Item). IsSomeAnd o P) {x = _} {y = Some old} (sym c.in-Some.ensures) may in
    let chained : c.in_ok-item.item ≡ reshaped d c.args.id s.chain old =
    c.in_ok-item.ensures ∙ ap (λ (ps : List Point). reshaped d c.args.id ps old) c.as_slice.ensures in
    true≢false
    (sym (c.inside_board.ensures.1 (subst (λ (a : Item). AreInside d.bounds a.pieces) (sym chained) f.inside))
    ∙ c.if-inside_board.false)

pub returns-in_default : goal.returns-in_default
returns-in_default c = λ may.
    let P : Item → Type 0 = IsShovableOf c.args.d.now c.args.net c.args.added.now c.args.s.now in
    subst (λ (o : Option Item). IsSomeAnd o P) {x = _} {y = None} (sym c.in_default.ensures) may

pub has_chain_for-requires-clause-a_fits : goal.has_chain_for-requires-clause-a_fits
has_chain_for-requires-clause-a_fits c =
    (c.requires.given c.args.s.now.id c.in-Some.old.now (sym c.in-Some.ensures)).fits.fits

pub reshaped-requires-clause-padstacks : goal.reshaped-requires-clause-padstacks
reshaped-requires-clause-padstacks c = c.requires.sound.fits.padstacks_fit

pub reshaped-requires-clause-fit : goal.reshaped-requires-clause-fit
reshaped-requires-clause-fit c =
    let s = c.args.s.now in
    let old = c.in-Some.old.now in
    let f = c.has_chain_for.ensures.0 c.if-not-has_chain_for.false in
    subst (λ (ps : List Point). IsMetalFit (with_chain ps old.metal)) (sym c.as_slice.ensures)
    (reshaped_made c.args.d.now c.args.id s.id s.chain old c.requires.sound
    (c.requires.given s.id old (sym c.in-Some.ensures)) f.0.routed f.1 f.2 f.3).fits.metal_fits

pub inside_board-requires-clause-bounds_fit : goal.inside_board-requires-clause-bounds_fit
inside_board-requires-clause-bounds_fit c = c.requires.sound.fits.bounds_fit
