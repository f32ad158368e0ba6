use Rattle.std.proofs.Common.{◌≡◌, ◌∙◌, ℕ, sym, subst}
use Rattle.pcb_model.specs.declared.design.Design.{Design}
use Rattle.pcb_model.specs.Sound.{Serves}
use Rattle.pcb_board.specs.Boards.{SnapOf}
use Rattle.route_lattice.specs.Mesh.{Mesh}
use Rattle.ripup.specs.Rips.{CanRip}
use Rattle.route_plan.proofs.Asking.{rip_same, rip_asks}
use Rattle.route_plan.proofs.planner.Planner.passing.Goals as goal

pub of-rips-requires : goal.of-rips-requires
of-rips-requires c =
    let s = c.self.inside in
    record {
      can_rip = rip_asks s.d.now s.lat.now s.snap.now c.args.net s.via_cost s.worker c.args.penalty c.args.self.now
          c.self.invariant.0 c.self.invariant.1 c.self.view_is c.requires.asks;
    }

-- the moves by maps
pub over-requires-clause-moves : goal.over-requires-clause-moves
over-requires-clause-moves c =
    let s = c.self.inside in
    let r = c.of-rips.ensures in
    let e = c.in-Ok-Some.ensures in
    let is = c.in-Ok-Some.field-0-is in
    let own = c.self.invariant.1 in
    let can = rip_asks s.d.now s.lat.now s.snap.now c.args.net s.via_cost s.worker c.args.penalty c.args.self.now
    c.self.invariant.0 own c.self.view_is c.requires.asks in
    let d = rw is at e.d ∙ r.d in
    let lat = rw is at e.lat ∙ r.lat in
    let copper = rw is at e.c ∙ r.c in
    let net = rw is at e.net ∙ r.net in
    let cost = rw is at e.via_cost ∙ r.via_cost in
    let penalty = rw is at e.penalty ∙ r.penalty in
    record {
      ready = rw (d, lat, copper, net, cost, penalty) (
        (can, (own, subst (Serves s.snap.now.items) own c.self.invariant.0.serves)),
        rw (r.d, r.lat, r.c, r.net) at (rw is at e.rip_maps),
      );
      same = rip_same _ _ _ _ _ _ _ _ _ _ s.worker c.args.self.now d lat copper net cost own c.self.view_is
          c.args.penalty _ penalty;
    }

-- and those that ask the copper
pub over-requires-2-clause-moves : goal.over-requires-2-clause-moves
over-requires-2-clause-moves c =
    let s = c.self.inside in
    let e = c.of-rips.ensures in
    let own = c.self.invariant.1 in
    let can = rip_asks s.d.now s.lat.now s.snap.now c.args.net s.via_cost s.worker c.args.penalty c.args.self.now
    c.self.invariant.0 own c.self.view_is c.requires.asks in
    record {
      ready = subst (λ (y : Design × Mesh × SnapOf × ℕ × ℕ × ℕ).
          CanRip y.0 y.1 y.3 y.4 y.5 × ((y.2.design ≡ y.0) × Serves y.2.items y.0))
          (λ i. (sym e.d i, sym e.lat i, sym e.c i, sym e.net i, sym e.via_cost i, sym e.penalty i))
          (can, (own, subst (Serves s.snap.now.items) own c.self.invariant.0.serves));
      same = rip_same _ _ _ _ _ _ _ _ _ _ s.worker c.args.self.now e.d e.lat e.c e.net e.via_cost own c.self.view_is
          c.args.penalty _ e.penalty;
    }
