use Rattle.std.proofs.Common.{◌≡◌, ◌≤◌, ap, ap₂, ◌∙◌, subst, refl, unwrap_or}
use Rattle.pcb_model.specs.declared.design.Design.{Design}
use Rattle.route_lattice.specs.declared.gather.Parts.{Parts}
use Rattle.route_lattice.specs.Mesh.{Mesh}
use Rattle.route_lattice.specs.Parts.{mesh_of, parts_of, first_grid}
use Rattle.route_lattice.specs.Whole.{default_grid, IsLatticeOf}
use Rattle.route_lattice.proofs.Within.{fits_if_ok}
use Rattle.route_lattice.proofs.mesh.Lattice.of.Goals as goal

default_is : (d : Design) → first_grid (parts_of d) ≡ default_grid d
unfolding first_grid default_grid
default_is d = refl

pub returns-clause-lattice : goal.returns-clause-lattice
returns-clause-lattice c =
    let d = c.args.d.now in
    let parts = c.in_ok-parts.ensures.value in
    let grid = c.in_ok-grid.ensures.value ∙ ap (λ (p : Parts). unwrap_or c.args.grid (first_grid p)) parts
    ∙ ap (unwrap_or c.args.grid) (default_is d) in
    subst (λ (m : Mesh). IsLatticeOf m c.build.result) (ap₂ mesh_of parts grid) c.build.ensures

pub returns-clause-fits : goal.returns-clause-fits
returns-clause-fits c =
    let d = c.args.d.now in
    let parts = c.in_ok-parts.ensures.value in
    let grid = c.in_ok-grid.ensures.value ∙ ap (λ (p : Parts). unwrap_or c.args.grid (first_grid p)) parts
    ∙ ap (unwrap_or c.args.grid) (default_is d) in
    fits_if_ok d (unwrap_or c.args.grid (default_grid d)) c.build.result c.requires.sound
    (subst (λ n. 1 ≤ n) grid c.in_ok-grid.ensures.some) (returns-clause-lattice c)
