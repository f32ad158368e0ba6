use Rattle.std.proofs.Common.{ℕ, ◌+◌, ◌*◌, arith, ap}
use Rattle.ripup.proofs.Pricing.{price_small, charge_small}
use Rattle.ripup.proofs.moves.RipMovesMoves.price.Goals as goal

pub overflow_add-result : goal.overflow_add-result
overflow_add-result g c =
    let s = c.args.self.now in
    let way = price_small s.legal.d.now s.legal.lat.now
    (g.C.Copper.items s.legal.c.now) s.legal.net s.legal.via_cost s.penalty c.args.node c.args.i c.requires.ready.0
    c.requires.node in
    let charge = charge_small s.penalty c.charged.result c.requires.ready.0.small_penalty c.charged.ensures.few in
    omega (arith, c.price.ensures, way, charge)

pub returns : goal.returns
returns g c = record {
  count = c.charged.result;
  counted = c.charged.ensures.counted;
  price_is = ap (λ (way : ℕ). way + c.args.self.now.penalty * c.charged.result) c.price.ensures;
}
