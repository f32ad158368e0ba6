use Rattle.std.proofs.Common.{◌^◌, sym, subst, arith}
use Rattle.geo_kernel.specs.declared.spine.Spine.{Spine}
use Rattle.geo_kernel.specs.Spine.{IsSpineWithin}
use Rattle.route_lattice.proofs.Fitting.{width_small}
use Rattle.plane_joins.proofs.Ribbing.{closed_within, probe_fit}
use Rattle.plane_joins.proofs.trial.Trial.is_rib.Goals as goal

pub points_keep-requires-clause-within : goal.points_keep-requires-clause-within
points_keep-requires-clause-within c =
    subst (λ (t : Spine). IsSpineWithin (2 ^ 29) t) (sym c.requires.trial.rim_is.edge)
    (closed_within c.args.self.now.p.now.rim c.requires.trial.plane.within)

pub points_keep-requires-clause-k_within : goal.points_keep-requires-clause-k_within
points_keep-requires-clause-k_within c =
    let w = width_small c.args.d.now c.args.self.now.p.now.net c.requires.sound in
    omega (arith, c.max.ensures, c.width_of-width.ensures, w)

pub is_clear-requires-clause-p_fits : goal.is_clear-requires-clause-p_fits
is_clear-requires-clause-p_fits c =
    let w = width_small c.args.d.now c.args.self.now.p.now.net c.requires.sound in
    probe_fit c.args.d.now c.args.self.now.p.now.layer c.width_of-width.result c.args.c
    (omega (arith, c.width_of-width.ensures, w)) c.requires.fit
