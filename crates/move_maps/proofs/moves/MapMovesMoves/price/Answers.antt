use Rattle.std.proofs.Common.{sym, ap, ◌∙◌}
use Rattle.std.proofs.lemmas.Bool.{OnTrue_at}
use Rattle.route_lattice.specs.Legal.{way_price}
use Rattle.move_maps.proofs.moves.MapMovesMoves.price.Goals as goal

pub step_price-requires-clause-dir : goal.step_price-requires-clause-dir
step_price-requires-clause-dir g c = (OnTrue_at c.if-is_step.true c.is_step.ensures).is_step

pub returns-then-is_step : goal.returns-then-is_step
returns-then-is_step g c =
    let s = c.args.self.now.legal in
    let h = OnTrue_at c.if-is_step.true c.is_step.ensures in
    c.step_price.ensures h.to s.via_cost h.there ∙ ap (way_price s.lat.now s.via_cost c.args.node) (sym h.way_is)

pub returns-then-is_via : goal.returns-then-is_via
returns-then-is_via g c =
    let s = c.args.self.now.legal in
    let h = OnTrue_at c.if-is_via.true c.is_via.ensures in
    ap (way_price s.lat.now s.via_cost c.args.node) (sym h.way_is)

pub price-requires-clause-ready : goal.price-requires-clause-ready
price-requires-clause-ready g c = c.requires.ready.0

pub returns : goal.returns
returns g c = c.price.ensures

pub is_step-requires-clause-ready : goal.is_step-requires-clause-ready
is_step-requires-clause-ready g c = record {
  can_move = c.requires.ready.0.0;
  map = c.requires.ready.1;
  alike = c.requires.ready.2;
}

pub is_via-requires-clause-ready : goal.is_via-requires-clause-ready
is_via-requires-clause-ready g c = record {
  can_move = c.requires.ready.0.0;
  map = c.requires.ready.1;
  alike = c.requires.ready.2;
}
