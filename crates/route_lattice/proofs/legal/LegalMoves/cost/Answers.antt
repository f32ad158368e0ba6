use Rattle.std.proofs.Common.{◌^◌, sym, subst, ap, ap₂, ◌∙◌}
use Rattle.geo_kernel.specs.Plane.{IsWithin}
use Rattle.route_lattice.specs.declared.moves.Move.{Move}
use Rattle.route_lattice.specs.Legal.{way_between, move_price}
use Rattle.route_lattice.proofs.Fitting.{point_within}
use Rattle.route_lattice.proofs.legal.LegalMoves.cost.Goals as goal

pub way_between-requires-clause-p_within : goal.way_between-requires-clause-p_within
way_between-requires-clause-p_within g c =
    let s = c.args.self.now in
    subst (IsWithin (2 ^ 29)) (sym c.point.ensures)
    (point_within s.d.now s.lat.now c.args.node c.requires.fits c.requires.node)

pub way_between-requires-clause-q_within : goal.way_between-requires-clause-q_within
way_between-requires-clause-q_within g c =
    let s = c.args.self.now in
    subst (IsWithin (2 ^ 29)) (sym c.point-in-Step.ensures)
    (point_within s.d.now s.lat.now c.args.to c.requires.fits c.requires.to)

pub returns-in-Step : goal.returns-in-Step
returns-in-Step g c =
    let s = c.args.self.now in
    c.way_between.ensures ∙ ap₂ way_between c.point.ensures c.point-in-Step.ensures
    ∙ ap (λ (m : Move). move_price s.lat.now s.via_cost c.args.node m c.args.to) (sym c.in-Step.is)
