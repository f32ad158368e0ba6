use Rattle.std.proofs.Common.{◌+◌, ◌*◌, arith, ap}
use Rattle.ripup.proofs.Pricing.{price_small, charge_small}
use Rattle.route_plan.proofs.rips.MapRipsMoves.price.Goals as goal

pub price-requires-clause-ready : goal.price-requires-clause-ready
price-requires-clause-ready g c =
    let r = c.requires.ready in
    ((r.0.0.can_move, r.0.1), r.1.map_is, r.1.alike, r.1.own_is)

pub overflow_mul-result : goal.overflow_mul-result
overflow_mul-result g c =
    let can = c.requires.ready.0.0 in
    let charge = charge_small c.args.self.now.penalty c.in-Some.n can.small_penalty c.in-Some.ensures.few in
    omega (arith, charge)

pub overflow_add-result : goal.overflow_add-result
overflow_add-result g c =
    let s = c.args.self.now in
    let t = s.moves.by_map.legal in
    let can = c.requires.ready.0.0 in
    let way = price_small t.d.now t.lat.now (g.C.Copper.items t.c.now) t.net t.via_cost s.penalty c.args.node c.args.i
    can c.requires.node in
    let charge = charge_small s.penalty c.in-Some.n can.small_penalty c.in-Some.ensures.few in
    omega (arith, c.price.ensures, way, charge)

pub returns : goal.returns
returns g c = record {
  count = c.in-Some.n;
  counted = c.in-Some.ensures.counted;
  price_is = ap (λ x. x + c.args.self.now.penalty * c.in-Some.n) c.price.ensures;
}
