use Rattle.std.proofs.Common.{ℕ, sym, subst}
use Rattle.pcb_model.specs.declared.design.Design.{Design}
use Rattle.route_lattice.specs.Mesh.{Mesh}
use Rattle.ripup.specs.Rips.{CanRip}
use Rattle.route_plan.proofs.rips.RipMove.is_open_on_copper.Goals as goal

pub is_open-requires-clause-ready : goal.is_open-requires-clause-ready
is_open-requires-clause-ready g c =
    let e = c.of-rips.ensures in
    let t = c.self.inside.moves.now.by_map.legal in (
      subst (λ (y : Design × Mesh × ℕ × ℕ × ℕ). CanRip y.0 y.1 y.2 y.3 y.4)
          (λ i. (sym e.d i, sym e.lat i, sym e.net i, sym e.via_cost i, sym e.penalty i)) c.self.invariant.0.rip,
      subst (λ x. g.C.Copper.serves x c.of-rips.result.legal.d.now) (sym e.c)
          (subst (g.C.Copper.serves t.c.now) (sym e.d) c.self.invariant.1),
    )
