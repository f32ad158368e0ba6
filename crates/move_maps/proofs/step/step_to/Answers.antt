use Rattle.std.proofs.Common.{◌≡◌, ℕ, ◌+◌, ◌-◌, Some, ap, ◌∙◌, subst, arith}
use Rattle.route_lattice.specs.declared.moves.Move.TheVariants.{Step}
use Rattle.route_lattice.specs.Ways.{step_at}
use Rattle.move_maps.proofs.Strides.{right_is, left_is, above_is, below_is}
use Rattle.move_maps.proofs.step.step_to.Goals as goal

pub returns-in-0 : goal.returns-in-0
returns-in-0 c = λ w e. (right_is c.args.lat.now c.args.node w
    (subst (λ n. step_at c.args.lat.now c.args.node n ≡ Some w) c.in-0.is e)).1

pub returns-in-1 : goal.returns-in-1
returns-in-1 c = λ w e. ap (λ (n : ℕ). (Step 1, n)) c.saturating_sub.ensures
    ∙ (left_is c.args.lat.now c.args.node w
    (subst (λ n. step_at c.args.lat.now c.args.node n ≡ Some w) c.in-1.is e)).1

pub returns-in-2 : goal.returns-in-2
returns-in-2 c = λ w e. ap (λ (n : ℕ). (Step 2, c.args.node + n)) c.width_at-width.ensures
    ∙ (above_is c.args.lat.now c.args.node w
    (subst (λ n. step_at c.args.lat.now c.args.node n ≡ Some w) c.in-2.is e)).1

pub returns-in_default : goal.returns-in_default
returns-in_default c = λ w e.
    let three : c.args.dir ≡ 3 = omega (arith, c.in_default, c.requires.dir) in
    ap (λ (n : ℕ). (Step 3, n)) (c.saturating_sub-in_default.ensures
    ∙ ap (λ n. c.args.node - n) c.width_at-width.ensures)
    ∙ (below_is c.args.lat.now c.args.node w
    (subst (λ n. step_at c.args.lat.now c.args.node n ≡ Some w) three e)).1
