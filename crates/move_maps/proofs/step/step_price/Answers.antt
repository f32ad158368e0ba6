use Rattle.std.proofs.Common.{◌≡◌, Some, ◌∙◌, subst, arith}
use Rattle.route_lattice.specs.Ways.{step_at}
use Rattle.move_maps.proofs.Strides.{priced_right, priced_left, priced_above, priced_below}
use Rattle.move_maps.proofs.step.step_price.Goals as goal

pub returns-in-0 : goal.returns-in-0
returns-in-0 c = λ w cost e. priced_right c.args.lat.now c.args.node cost c.gap.result w c.requires.node
    c.as_slice-xs.result.now (c.as_slice-xs.ensures ∙ c.xs.ensures) c.gap.ensures
    (subst (λ n. step_at c.args.lat.now c.args.node n ≡ Some w) c.in-0.is e)

pub returns-in-1 : goal.returns-in-1
returns-in-1 c = λ w cost e. priced_left c.args.lat.now c.args.node cost c.gap-in-1.result w c.requires.node
    c.as_slice-xs.result.now (c.as_slice-xs.ensures ∙ c.xs.ensures) (rw (← c.saturating_sub.ensures) c.gap-in-1.ensures)
    (subst (λ n. step_at c.args.lat.now c.args.node n ≡ Some w) c.in-1.is e)

pub returns-in-2 : goal.returns-in-2
returns-in-2 c = λ w cost e. priced_above c.args.lat.now c.args.node cost c.gap-in-2.result w c.requires.node
    c.as_slice-xs.result.now (c.as_slice-xs.ensures ∙ c.xs.ensures)
    c.as_slice-ys.result.now (c.as_slice-ys.ensures ∙ c.ys.ensures) c.gap-in-2.ensures
    (subst (λ n. step_at c.args.lat.now c.args.node n ≡ Some w) c.in-2.is e)

pub returns-in_default : goal.returns-in_default
returns-in_default c = λ w cost e.
    let three : c.args.dir ≡ 3 = omega (arith, c.in_default, c.requires.dir) in
    priced_below c.args.lat.now c.args.node cost c.gap-in_default.result w c.requires.node
    c.as_slice-xs.result.now (c.as_slice-xs.ensures ∙ c.xs.ensures)
    c.as_slice-ys.result.now (c.as_slice-ys.ensures ∙ c.ys.ensures)
    (rw (← c.saturating_sub-in_default.ensures) c.gap-in_default.ensures)
    (subst (λ n. step_at c.args.lat.now c.args.node n ≡ Some w) three e)
