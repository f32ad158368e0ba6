use Rattle.std.proofs.Common.{◌<◌, arith}
use Rattle.route_plan.proofs.Telling.{fixed_opens}
use Rattle.route_plan.proofs.rips.MapRipsMoves.is_open.Goals as goal

pub returns-then-fixed-eq0-clause-opens : goal.returns-then-fixed-eq0-clause-opens
returns-then-fixed-eq0-clause-opens g c =
    let s = c.args.self.now.moves in
    let t = s.by_map.legal in
    fixed_opens t.d.now t.lat.now (g.C.Copper.items t.c.now) t.net s.by_map.map.now c.args.self.now.fixed.now s.own
    c.requires.ready.1 c.requires.ready.0.0.can_move.sound
    (g.met.C.Copper.serving t.c.now t.d.now c.requires.ready.0.1) c.args.node c.args.i c.requires.node
    c.requires.index c.fixed_tally-fixed.result c.if-fixed-eq0.true c.fixed_tally-fixed.ensures

pub is_shut-requires-clause-tally : goal.is_shut-requires-clause-tally
is_shut-requires-clause-tally g c = c.fixed_tally-fixed.ensures

pub is_shut-requires-clause-counted : goal.is_shut-requires-clause-counted
is_shut-requires-clause-counted g c =
    let counted : 0 < c.fixed_tally-fixed.result = omega (arith, c.if-fixed-eq0.false) in counted
