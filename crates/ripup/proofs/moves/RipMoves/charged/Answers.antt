use Rattle.ripup.proofs.moves.RipMoves.charged.Goals as goal

pub invariant_of-on : goal.invariant_of-on
invariant_of-on g c = record {
  sound = c.requires.can_rip.can_move.sound;
  fits = c.requires.can_rip.can_move.fits;
  serves = c.requires.serves;
  in_order = c.in_order.ensures.ascends;
}
