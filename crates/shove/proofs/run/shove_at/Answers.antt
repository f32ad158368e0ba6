use Rattle.std.proofs.Common.{◌≡◌, ◌<◌, ◌+◌, List, length, sym, ◌∙◌, ap, subst, pos, arith}
use Rattle.geo_kernel.specs.declared.point.Point.{Point}
use Rattle.pcb_model.specs.declared.item.Metal.TheVariants.{Wire}
use Rattle.shove.specs.Shoves.{chain_of}
use Rattle.shove.proofs.Touching.{unless}
use Rattle.shove.proofs.Running.{none, shoved_by, new_metal_fits, new_fits, fits_not, is_shove}
use Rattle.pcb_model.specs.declared.item.Item.{Item}
use Rattle.shove.proofs.run.shove_at.Goals as goal

abbrev origin : Point
origin = record { x = pos 0; y = pos 0 }

pub returns-in_default-moved_run : goal.returns-in_default-moved_run
returns-in_default-moved_run g c =
    none c.args.d.now c.args.lat.now
    (g.C.Copper.items c.args.c.now) c.args.item.now c.args.run c.args.up c.in-Wire.layer c.in-Wire.width
    c.as_slice-points.result.now
    (c.in-Wire.is ∙ ap (λ (ps : List Point). Wire c.in-Wire.layer c.in-Wire.width ps)
    (sym c.as_slice-points.ensures)) origin c.in_default-moved_run.ensures

pub make_item-requires-clause-place : goal.make_item-requires-clause-place
make_item-requires-clause-place g c =
    let points = c.as_slice-points.result.now in
    let metal_is : c.args.item.now.metal ≡ Wire c.in-Wire.layer c.in-Wire.width points = c.in-Wire.is
    ∙ ap (λ (ps : List Point). Wire c.in-Wire.layer c.in-Wire.width ps) (sym c.as_slice-points.ensures) in
    let run : c.args.run + 1 < length points = subst (λ (ps : List Point). c.args.run + 1 < length ps)
    (ap chain_of metal_is) c.requires.run in
    let shoved = shoved_by c.args.d.now c.args.lat.now
    (g.C.Copper.items c.args.c.now) c.args.item.now c.args.run c.args.up c.in-Wire.layer c.in-Wire.width points metal_is
    origin c.in-Some.to_a c.in-Some.to_b c.in_ok-shoved.shoved run c.in-Some.ensures c.in_ok-shoved.ensures in
    new_metal_fits c.args.d.now c.args.lat.now
    (g.C.Copper.items c.args.c.now) c.args.item.now c.args.run c.args.up c.in-Wire.layer c.in-Wire.width points metal_is
    origin c.in_ok-shoved.shoved shoved c.requires.fits c.requires.item.metal_fits

pub can_replace-requires-clause-new_fits : goal.can_replace-requires-clause-new_fits
can_replace-requires-clause-new_fits g c =
    let points = c.as_slice-points.result.now in
    let metal_is : c.args.item.now.metal ≡ Wire c.in-Wire.layer c.in-Wire.width points = c.in-Wire.is
    ∙ ap (λ (ps : List Point). Wire c.in-Wire.layer c.in-Wire.width ps) (sym c.as_slice-points.ensures) in
    let run : c.args.run + 1 < length points = subst (λ (ps : List Point). c.args.run + 1 < length ps)
    (ap chain_of metal_is) c.requires.run in
    let shoved = shoved_by c.args.d.now c.args.lat.now
    (g.C.Copper.items c.args.c.now) c.args.item.now c.args.run c.args.up c.in-Wire.layer c.in-Wire.width points metal_is
    origin c.in-Some.to_a c.in-Some.to_b c.in_ok-shoved.shoved run c.in-Some.ensures c.in_ok-shoved.ensures in
    new_fits c.args.d.now c.args.lat.now
    (g.C.Copper.items c.args.c.now) c.args.item.now c.args.run c.args.up c.in-Wire.layer c.in-Wire.width points
    metal_is
    origin c.in_ok-shoved.shoved shoved c.requires.fits c.requires.item.metal_fits c.in_ok-new.new
    c.in_ok-new.ensures

pub can_replace-requires-clause-old_fits : goal.can_replace-requires-clause-old_fits
can_replace-requires-clause-old_fits g c = c.requires.item.fits

pub invariant_of-change : goal.invariant_of-change
invariant_of-change g c = record {
  one_net = ap (λ (a : Item). a.net) c.in_ok-new.ensures;
  one_id = ap (λ (a : Item). a.id) c.in_ok-new.ensures;
}

pub returns-then-not-can_replace : goal.returns-then-not-can_replace
returns-then-not-can_replace g c =
    let points = c.as_slice-points.result.now in
    let metal_is : c.args.item.now.metal ≡ Wire c.in-Wire.layer c.in-Wire.width points = c.in-Wire.is
    ∙ ap (λ (ps : List Point). Wire c.in-Wire.layer c.in-Wire.width ps) (sym c.as_slice-points.ensures) in
    let run : c.args.run + 1 < length points = subst (λ (ps : List Point). c.args.run + 1 < length ps)
    (ap chain_of metal_is) c.requires.run in
    let shoved = shoved_by c.args.d.now c.args.lat.now
    (g.C.Copper.items c.args.c.now) c.args.item.now c.args.run c.args.up c.in-Wire.layer c.in-Wire.width points metal_is
    origin c.in-Some.to_a c.in-Some.to_b c.in_ok-shoved.shoved run c.in-Some.ensures c.in_ok-shoved.ensures in
    fits_not c.args.d.now c.args.lat.now
    (g.C.Copper.items c.args.c.now) c.args.item.now c.args.run c.args.up c.in-Wire.layer c.in-Wire.width points metal_is
    origin c.in_ok-shoved.shoved shoved c.requires.fits c.requires.item.metal_fits c.in_ok-new.new
    c.in_ok-new.ensures
    (unless c.can_replace.result _ c.can_replace.ensures c.if-not-can_replace.true)

pub returns : goal.returns
returns g c =
    let points = c.as_slice-points.result.now in
    let metal_is : c.args.item.now.metal ≡ Wire c.in-Wire.layer c.in-Wire.width points = c.in-Wire.is
    ∙ ap (λ (ps : List Point). Wire c.in-Wire.layer c.in-Wire.width ps) (sym c.as_slice-points.ensures) in
    let run : c.args.run + 1 < length points = subst (λ (ps : List Point). c.args.run + 1 < length ps)
    (ap chain_of metal_is) c.requires.run in
    let shoved = shoved_by c.args.d.now c.args.lat.now
    (g.C.Copper.items c.args.c.now) c.args.item.now c.args.run c.args.up c.in-Wire.layer c.in-Wire.width points metal_is
    origin c.in-Some.to_a c.in-Some.to_b c.in_ok-shoved.shoved run c.in-Some.ensures c.in_ok-shoved.ensures in
    is_shove c.args.d.now c.args.lat.now
    (g.C.Copper.items c.args.c.now) c.args.item.now c.args.run c.args.up c.in-Wire.layer c.in-Wire.width points metal_is
    origin c.in_ok-shoved.shoved shoved c.requires.fits c.requires.item.metal_fits c.in_ok-new.new
    c.in-Wire-metal.chain c.in-Wire-metal.layer c.in-Wire-metal.width c.in_ok-new.ensures c.in-Wire-metal.is
    (c.can_replace.ensures.0 c.if-not-can_replace.false)

pub shoved_chain-requires : goal.shoved_chain-requires
shoved_chain-requires g c =
    let points = c.as_slice-points.result.now in
    let metal_is : c.args.item.now.metal ≡ Wire c.in-Wire.layer c.in-Wire.width points = c.in-Wire.is
    ∙ ap (λ (ps : List Point). Wire c.in-Wire.layer c.in-Wire.width ps) (sym c.as_slice-points.ensures) in
    let run : c.args.run + 1 < length points = subst (λ (ps : List Point). c.args.run + 1 < length ps)
    (ap chain_of metal_is) c.requires.run in
    omega (arith, run)

pub make_item-requires-clause-padstacks : goal.make_item-requires-clause-padstacks
make_item-requires-clause-padstacks g c = c.requires.sound.fits.padstacks_fit

pub invariant_of-on : goal.invariant_of-on
invariant_of-on g c = record {
  sound = c.requires.sound;
  fits = c.requires.fits;
  serves = c.requires.serves;
  in_order = c.in_order.ensures.ascends;
}
