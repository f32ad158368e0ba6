use Rattle.std.proofs.Common.{◌∙◌, ◌≤◌, ◌^◌, ℤ, List, All, unsigned_abs, sym, subst}
use Rattle.std.proofs.lemmas.Bool.{false≢true}
use Rattle.geo_kernel.specs.Spine.{IsFirst}
use Rattle.pcb_model.specs.declared.item.Piece.{Piece}
use Rattle.pcb_model.specs.Bounds.{IsFit}
use Rattle.pcb_model.specs.Sound.{origin}
use Rattle.pcb_model.proofs.Probes.{stack_fit}
use Rattle.geo_kernel.proofs.Bounds.{seen}
use Rattle.move_maps.specs.Starts.{StaysNear}
use Rattle.move_maps.proofs.Centring.{centred, near_unseen, unseen_small}
use Rattle.move_maps.proofs.centred.is_centred.Goals as goal

-- what the code passes on is no larger
still_small : (z : ℤ) → unsigned_abs z ≤ 2 ^ 29 → unsigned_abs (seen z) ≤ 2 ^ 29
still_small z h = subst (λ y. unsigned_abs y ≤ 2 ^ 29) (sym (unseen_small z h)) h

pub begin_at_origin-requires : goal.begin_at_origin-requires
begin_at_origin-requires c =
    subst (λ (ps : List Piece). All IsFit ps) (sym c.padstack_pieces.ensures)
    (stack_fit c.args.d.now c.args.padstack c.requires.sound.fits)

pub returns-then-not-begin_at_origin : goal.returns-then-not-begin_at_origin
returns-then-not-begin_at_origin c = λ e. absurd (false≢true e)

pub stay_near-requires-clause-zs : goal.stay_near-requires-clause-zs
stay_near-requires-clause-zs c =
    subst (λ (zs : List ℤ). All (λ z. unsigned_abs z ≤ 2 ^ 29) zs) (sym (c.as_slice.ensures ∙ c.xs.ensures))
    c.requires.fits.xs_within

pub stay_near-requires-clause-low : goal.stay_near-requires-clause-low
stay_near-requires-clause-low c =
    still_small c.padstack_extent.result.bounds.x0 c.padstack_extent.ensures.within.x0_within

pub stay_near-requires-clause-high : goal.stay_near-requires-clause-high
stay_near-requires-clause-high c =
    still_small c.padstack_extent.result.bounds.x1 c.padstack_extent.ensures.within.x1_within

pub returns-then-not-stay_near : goal.returns-then-not-stay_near
returns-then-not-stay_near c = λ e. absurd (false≢true e)

pub stay_near-requires-2-clause-zs : goal.stay_near-requires-2-clause-zs
stay_near-requires-2-clause-zs c =
    subst (λ (zs : List ℤ). All (λ z. unsigned_abs z ≤ 2 ^ 29) zs) (sym (c.as_slice-2.ensures ∙ c.ys.ensures))
    c.requires.fits.ys_within

pub stay_near-requires-2-clause-low : goal.stay_near-requires-2-clause-low
stay_near-requires-2-clause-low c =
    still_small c.padstack_extent.result.bounds.y0 c.padstack_extent.ensures.within.y0_within

pub stay_near-requires-2-clause-high : goal.stay_near-requires-2-clause-high
stay_near-requires-2-clause-high c =
    still_small c.padstack_extent.result.bounds.y1 c.padstack_extent.ensures.within.y1_within

pub returns : goal.returns
returns c = λ e.
    let f = c.padstack_extent.result in
    let within = c.padstack_extent.ensures.within in
    centred c.args.d.now c.args.lat.now c.args.padstack f
    (subst (All (λ (q : Piece). IsFirst q.spine origin)) c.padstack_pieces.ensures
    (c.begin_at_origin.ensures c.if-not-begin_at_origin.false))
    c.padstack_extent.ensures.has
    (subst (All (StaysNear f.bounds.x0 f.bounds.x1)) (c.as_slice.ensures ∙ c.xs.ensures)
    (near_unseen f.bounds.x0 f.bounds.x1 c.as_slice.result.now within.x0_within within.x1_within
    (c.stay_near.ensures c.if-not-stay_near.false)))
    (subst (All (StaysNear f.bounds.y0 f.bounds.y1)) (c.as_slice-2.ensures ∙ c.ys.ensures)
    (near_unseen f.bounds.y0 f.bounds.y1 c.as_slice-2.result.now within.y0_within within.y1_within
    (c.stay_near-2.ensures e)))
