use Rattle.std.proofs.Common.{◌≡◌, ℕ, None, sym, subst}
use Rattle.pcb_model.specs.declared.design.Design.{Design}
use Rattle.pcb_model.specs.Sound.{Serves}
use Rattle.pcb_board.specs.Boards.{SnapOf}
use Rattle.route_lattice.specs.Mesh.{Mesh}
use Rattle.route_lattice.specs.Legal.{CanMove}
use Rattle.route_plan.proofs.Asking.{legal_same, plan_asks}
use Rattle.route_plan.proofs.Planning.{can_walk}
use Rattle.route_plan.proofs.planner.Planner.stated_from.Goals as goal

-- the moves by maps
pub over-requires-clause-moves : goal.over-requires-clause-moves
over-requires-clause-moves c =
    let s = c.self.inside in
    let n = c.args.island.now.net in
    let e = c.in-Ok-Some.ensures in
    let is = c.in-Ok-Some.field-0-is in
    let own = c.self.invariant.1 in
    let can = plan_asks s.d.now s.lat.now s.snap.now n s.via_cost s.worker None c.args.self.now
    c.self.invariant.0 own c.self.view_is (record { net_there = c.requires.net; small_penalty = tt }) in
    let d = rw is at e.d in
    let lat = rw is at e.lat in
    let copper = rw is at e.c in
    let net = rw is at e.net in
    let cost = rw is at e.via_cost in
    record {
      ready = rw (d, lat, copper, net, cost) (
        ((can_walk s.d.now s.lat.now s.snap.now n s.via_cost None can).move, (can.own, can.serves)),
        rw is at e.map,
        rw is at e.alike,
        rw is at e.own,
      );
      same = legal_same _ _ _ _ _ _ _ _ _ _ s.worker c.args.self.now d lat copper net cost own c.self.view_is;
    }

-- and those that ask the copper
pub over-requires-2-clause-moves : goal.over-requires-2-clause-moves
over-requires-2-clause-moves c =
    let s = c.self.inside in
    let n = c.args.island.now.net in
    let e = c.of-moves.ensures in
    let own = c.self.invariant.1 in
    let can = plan_asks s.d.now s.lat.now s.snap.now n s.via_cost s.worker None c.args.self.now
    c.self.invariant.0 own c.self.view_is (record { net_there = c.requires.net; small_penalty = tt }) in
    record {
      ready = subst (λ (y : Design × Mesh × SnapOf × ℕ × ℕ).
          CanMove y.0 y.1 y.3 y.4 × ((y.2.design ≡ y.0) × Serves y.2.items y.0))
          (λ i. (sym e.d i, sym e.lat i, sym e.c i, sym e.net i, sym e.via_cost i))
          ((can_walk s.d.now s.lat.now s.snap.now n s.via_cost None can).move, (can.own, can.serves));
      same = legal_same _ _ _ _ _ _ _ _ _ _ s.worker c.args.self.now e.d e.lat e.c e.net e.via_cost own
          c.self.view_is;
    }
