use Rattle.std.proofs.Common.{◌*◌, length, sym, subst}
use Rattle.move_maps.specs.Groups.{AreMapped}
use Rattle.move_maps.specs.Starts.{AreInner}
use Rattle.move_maps.proofs.map.MoveMaps.of.Goals as goal

pub invariant_of-on : goal.invariant_of-on
invariant_of-on g c = record {
  sound = c.requires.sound;
  fits = c.requires.fits;
  serves = c.requires.serves;
  in_order = c.in_order.ensures.ascends;
}

pub maps_for-requires-clause-inner : goal.maps_for-requires-clause-inner
maps_for-requires-clause-inner g c =
    let m = c.args.lat.now in
    subst (AreInner c.args.d.now m (length m.ys * length m.xs)) (sym c.as_slice.ensures) c.in_ok-inner.ensures

pub maps_for-requires-clause-firsts : goal.maps_for-requires-clause-firsts
maps_for-requires-clause-firsts g c =
    subst (AreMapped c.args.d.now c.args.lat.now) (sym c.as_slice-2.ensures) c.in_ok-firsts.ensures

pub returns : goal.returns
returns g c = c.in_ok-maps.ensures
