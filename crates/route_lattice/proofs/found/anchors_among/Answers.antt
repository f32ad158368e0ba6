use Rattle.route_lattice.proofs.Gaining.{gains_more, gains_all, gains_less}
use Rattle.route_lattice.proofs.Among.{among_ids, among_are}
use Rattle.route_lattice.proofs.found.anchors_among.Goals as goal

pub loop-id-preserved : goal.loop-id-preserved
loop-id-preserved g c =
    let items = g.C.Copper.items c.args.c.now in
    gains_more _ _ _ _ _ _ _ c.loop-id.invariant
    (gains_less _ _ _ _ _ _ (λ v h. h)
    (λ v h. among_ids c.args.d.now c.args.lat.now items c.args.ids.now c.loop-id.id-index v c.loop-id-test.true h)
    c.in_ok-push_of_id.ensures)

pub returns : goal.returns
returns g c =
    among_are c.args.d.now c.args.lat.now (g.C.Copper.items c.args.c.now) c.args.ids.now _ _
    (gains_all _ _ _ _ _ _ _ c.loop-id-test.false c.loop-id.invariant) c.ascending.ensures

pub invariant_of-on : goal.invariant_of-on
invariant_of-on g c = record {
  sound = c.requires.sound;
  fits = c.requires.fits;
  serves = c.requires.serves;
  in_order = c.in_order.ensures.ascends;
}
