use Rattle.std.proofs.Common.{ap, sym, subst}
use Rattle.pcb_model.specs.declared.design.Design.{Design}
use Rattle.route_plan.specs.Planners.{PlannerOf, NetPlanOf, AreMovesOf}
use Rattle.route_plan.specs.Plans.{moves_of}
use Rattle.route_plan.proofs.Asking.{plan_asks}
use Rattle.route_plan.proofs.planner.Planner.over.Goals as goal

pub invariant_of-result : goal.invariant_of-result
invariant_of-result g c =
    let s = c.self.inside in
    let net = c.args.net in
    let q = c.args.penalty in
    let own = c.self.invariant.1 in (
      plan_asks s.d.now s.lat.now s.snap.now net s.via_cost s.worker q c.args.self.now c.self.invariant.0 own
          c.self.view_is c.requires.asks,
      c.self.invariant.0.closer,
      subst (λ (d : Design). AreMovesOf g.M.Moves c.args.moves.now
          (moves_of d s.lat.now s.snap.now.items net s.via_cost q)) own
          (subst (λ (y : PlannerOf). AreMovesOf g.M.Moves c.args.moves.now
          (moves_of y.snap.design y.lat y.snap.items net y.via_cost q)) (sym c.self.view_is) c.requires.moves),
    )

pub returns : goal.returns
returns g c =
    ap (λ (y : PlannerOf). let plan : NetPlanOf = record { by = y; net = c.args.net; penalty = c.args.penalty } in plan)
    c.self.view_is
