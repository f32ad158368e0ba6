use Rattle.ripup.specs.Rips.{CanRip}
use Rattle.tests_board.proofs.plans.passing_price.Goals as goal

pub price_between-requires-clause-sound : goal.price_between-requires-clause-sound
price_between-requires-clause-sound c =
    let of = c.of-moves in
    let legal = of.result.legal in
    let can : CanRip legal.d.now legal.lat.now legal.net legal.via_cost of.result.penalty =
    rw (of.ensures.d, of.ensures.lat, of.ensures.net, of.ensures.via_cost, of.ensures.penalty) c.requires.can in
    c.rip_graph_sound.ensures legal.d.now legal.lat.now legal.c.now.items legal.net legal.via_cost of.result.penalty
    can
