use Rattle.std.proofs.Common.{ℕ, Some, sym, ap, ◌∙◌, arith}
use Rattle.std.proofs.lemmas.Bool.{OnTrue_at}
use Rattle.route_lattice.specs.declared.moves.Move.{Move}
use Rattle.move_maps.proofs.moves.MapMovesMoves.at.Goals as goal

pub is_step-requires-clause-ready : goal.is_step-requires-clause-ready
is_step-requires-clause-ready g c = record {
  can_move = c.requires.ready.0.0;
  map = c.requires.ready.1;
  alike = c.requires.ready.2;
}

pub is_step-requires-clause-node : goal.is_step-requires-clause-node
is_step-requires-clause-node g c = c.requires.node

pub is_step-requires-clause-index : goal.is_step-requires-clause-index
is_step-requires-clause-index g c = c.requires.index

pub step_to-requires-clause-node : goal.step_to-requires-clause-node
step_to-requires-clause-node g c = c.requires.node

pub step_to-requires-clause-dir : goal.step_to-requires-clause-dir
step_to-requires-clause-dir g c = (OnTrue_at c.if-is_step.true c.is_step.ensures).is_step

pub returns-then-is_step : goal.returns-then-is_step
returns-then-is_step g c =
    let h = OnTrue_at c.if-is_step.true c.is_step.ensures in
    ap (λ (w : Move × ℕ). Some w) (c.step_to.ensures h.to h.there) ∙ sym h.way_is

pub is_via-requires-clause-ready : goal.is_via-requires-clause-ready
is_via-requires-clause-ready g c = record {
  can_move = c.requires.ready.0.0;
  map = c.requires.ready.1;
  alike = c.requires.ready.2;
}

pub is_via-requires-clause-node : goal.is_via-requires-clause-node
is_via-requires-clause-node g c = c.requires.node

pub is_via-requires-clause-index : goal.is_via-requires-clause-index
is_via-requires-clause-index g c = c.requires.index

pub via_to-requires-clause-can_move : goal.via_to-requires-clause-can_move
via_to-requires-clause-can_move g c =
    let k = c.requires.ready.0.0 in
    record { sound = k.sound; fits = k.fits; net_there = k.net_there; small_cost = omega arith }

pub via_to-requires-clause-node : goal.via_to-requires-clause-node
via_to-requires-clause-node g c = c.requires.node

pub via_to-requires-clause-via : goal.via_to-requires-clause-via
via_to-requires-clause-via g c = (OnTrue_at c.if-is_via.true c.is_via.ensures).is_via

pub via_to-requires-clause-index : goal.via_to-requires-clause-index
via_to-requires-clause-index g c = c.requires.index

pub returns-then-is_via : goal.returns-then-is_via
returns-then-is_via g c =
    let h = OnTrue_at c.if-is_via.true c.is_via.ensures in
    ap (λ (w : Move × ℕ). Some w) (c.via_to.ensures h.padstack h.layer h.to h.way_is) ∙ sym h.way_is

pub at-requires-clause-ready : goal.at-requires-clause-ready
at-requires-clause-ready g c = c.requires.ready.0

pub at-requires-clause-node : goal.at-requires-clause-node
at-requires-clause-node g c = c.requires.node

pub at-requires-clause-index : goal.at-requires-clause-index
at-requires-clause-index g c = c.requires.index

pub returns : goal.returns
returns g c = c.at.ensures
