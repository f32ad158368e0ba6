use Rattle.std.proofs.Common.{◌≡◌, ℕ, ◌+◌, ◌*◌, ◌≤◌, ◌^◌, ◌∙◌, min, length, ap, sym, subst, arith}
use Rattle.pcb_model.specs.Rules.{width_for}
use Rattle.route_lattice.proofs.Fitting.{width_small}
use Rattle.move_maps.specs.Settings.{GroupOf, IsGroup}
use Rattle.move_maps.proofs.Covering.{steps_covered}
use Rattle.move_maps.proofs.cover.step_window.Goals as goal

pub grow_for-grow-requires-clause-one : goal.grow_for-grow-requires-clause-one
grow_for-grow-requires-clause-one c =
    let t = c.group.inside in
    subst (λ n. n ≤ 2 ^ 28) (sym c.width_of.ensures) (width_small t.d.now t.first c.group.invariant.can_move.sound)

pub widened-requires-clause-right : goal.widened-requires-clause-right
widened-requires-clause-right c =
    subst (λ n. c.window_for-window.result.right ≤ n)
    (sym (c.len.ensures ∙ (ap length c.xs.ensures ∙ ap (λ (s : GroupOf). length s.lat.xs) c.group.view_is)))
    c.window_for-window.ensures.right

pub widened-requires-clause-top : goal.widened-requires-clause-top
widened-requires-clause-top c =
    subst (λ n. c.window_for-window.result.top ≤ n)
    (sym (c.len-2.ensures ∙ (ap length c.ys.ensures ∙ ap (λ (s : GroupOf). length s.lat.ys) c.group.view_is)))
    c.window_for-window.ensures.top

pub returns-clause-covers : goal.returns-clause-covers
returns-clause-covers c =
    let f = c.args.extent in
    let s = c.args.group.now in
    let reach = c.group.inside.reach in
    let k = subst (λ (s : GroupOf). IsGroup s c.group.inside.arity reach) c.group.view_is c.group.invariant in
    let grow = c.grow_for-grow.result in
    let w = c.window_for-window.result in
    let u = c.widened.result in
    let enough = subst (λ n. 2 * reach + n + f.width + 1 ≤ 2 * grow) (c.width_of.ensures
    ∙ ap (λ (s : GroupOf). width_for s.d s.first) c.group.view_is) c.grow_for-grow.ensures.enough in
    let nx = c.len.ensures ∙ (ap length c.xs.ensures ∙ ap (λ (s : GroupOf). length s.lat.xs) c.group.view_is) in
    let ny = c.len-2.ensures ∙ (ap length c.ys.ensures ∙ ap (λ (s : GroupOf). length s.lat.ys) c.group.view_is) in
    λ b of_b. steps_covered s.d s.lat s.first b f reach grow w u k.can_move.sound k.can_move.fits k.rules of_b enough
    c.window_for-window.ensures.window c.widened.ensures.left
    (c.widened.ensures.right ∙ ap (λ n. min n (w.right + 1)) nx) c.widened.ensures.bottom
    (c.widened.ensures.top ∙ ap (λ n. min n (w.top + 1)) ny)

at_most : (u n m w : ℕ) → n ≡ m → u ≡ min n (w + 1) → u ≤ m
at_most u n m w e h = omega (arith, e, h)

pub returns-clause-right : goal.returns-clause-right
returns-clause-right c =
    at_most c.widened.result.right c.len.result (length c.args.group.now.lat.xs) c.window_for-window.result.right
    (c.len.ensures ∙ (ap length c.xs.ensures ∙ ap (λ (s : GroupOf). length s.lat.xs) c.group.view_is))
    c.widened.ensures.right

pub returns-clause-top : goal.returns-clause-top
returns-clause-top c =
    at_most c.widened.result.top c.len-2.result (length c.args.group.now.lat.ys) c.window_for-window.result.top
    (c.len-2.ensures ∙ (ap length c.ys.ensures ∙ ap (λ (s : GroupOf). length s.lat.ys) c.group.view_is))
    c.widened.ensures.top
