use Rattle.std.proofs.Common.{refl}
use Rattle.pcb_model.proofs.search.joins.Goals as goal

pub returns-then-is_far_from-clause-no : goal.returns-then-is_far_from-clause-no
returns-then-is_far_from-clause-no g c = λ o t.
    (c.if-is_far_from.ensures.apart refl c.args.a.now.pieces c.args.b.now.pieces c.requires.a_fits.pieces_fit
    c.requires.b_fits.pieces_fit c.requires.around_a c.requires.extent_of).stay_off t.touch
