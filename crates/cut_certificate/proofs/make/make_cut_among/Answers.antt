use Rattle.cut_certificate.proofs.Same.{same_self}
use Rattle.cut_certificate.proofs.make.make_cut_among.Goals as goal

pub invariant_of-on : goal.invariant_of-on
invariant_of-on g c = record {
  sound = c.requires.can_move.sound;
  fits = c.requires.can_move.fits;
  serves = c.requires.serves;
  in_order = c.in_order.ensures.ascends;
}

pub make_cut_with-requires-clause-legal : goal.make_cut_with-requires-clause-legal
make_cut_with-requires-clause-legal g c =
    let e = c.moves-legal.ensures in
    rw (e.d, e.lat, e.items, e.net, e.via_cost) (same_self _)

pub make_cut_with-requires-clause-ready : goal.make_cut_with-requires-clause-ready
make_cut_with-requires-clause-ready g c = c.moves-legal.ensures.ready
