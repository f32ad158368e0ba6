use Rattle.std.proofs.Common.{sym, subst}
use Rattle.pcb_model.specs.Sound.{IsSound}
use Rattle.plane_stubs.proofs.planned.with_ribs.Goals as goal

pub returns-in_ok-with_more-in-Ok-clause-sound : goal.returns-in_ok-with_more-in-Ok-clause-sound
returns-in_ok-with_more-in-Ok-clause-sound c =
    let more = c.in-Ok.more in
    let hold = c.ribs_hold.ensures c.args.d c.args.planes.now more c.requires.sound c.requires.planes
    c.in-Ok.ensures.0 in
    subst IsSound (sym c.in_ok-with_more-in-Ok.ensures)
    (c.further_items_serve.ensures.sound c.args.d more c.requires.sound hold.follow)
