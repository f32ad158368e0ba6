use Rattle.std.proofs.Common.{◌≡◌, ◌≢◌, ℤ, None, Some, of_z, rules, subst, sym, to_z, w64, ◌∙◌}
use Rattle.shove.specs.inner.Steps.{FindsLine, FindsRun}
use Rattle.shove.proofs.Lining.{moves_across, stays_across, moves_upright, stays_upright}
use Rattle.shove.proofs.line.moved_run.Goals as goal

pub returns-in_err-y : goal.returns-in_err-y
returns-in_err-y g c =
    let one_y : c.args.a.y ≡ c.args.b.y = search rules in
    let seen : to_z w64 (of_z w64 c.args.a.y) ≡ c.args.a.y = search rules in
    let none : c.from_residual.result ≡ None = search rules in
    subst (FindsRun c.args.on.now.lat c.args.up c.args.a c.args.b) (sym none)
    (stays_across c.args.on.now.lat c.args.up c.args.a c.args.b c.ys_of.result c.ys_of.ensures
    one_y
    (subst (λ (z : ℤ). FindsLine c.args.up c.ys_of.result z None) seen c.in_err-y.ensures))

pub returns-then-a-b : goal.returns-then-a-b
returns-then-a-b g c =
    let one_y : c.args.a.y ≡ c.args.b.y = search rules in
    let apart : c.args.a.x ≢ c.args.b.x = search rules in
    let seen : to_z w64 (of_z w64 c.args.a.y) ≡ c.args.a.y = search rules in
    let a_seen : to_z w64 (of_z w64 c.args.a.x) ≡ c.args.a.x = search rules in
    let b_seen : to_z w64 (of_z w64 c.args.b.x) ≡ c.args.b.x = search rules in
    let y_seen : to_z w64 (of_z w64 c.in_ok-y.y) ≡ c.in_ok-y.y = search rules in
    moves_across c.args.on.now.lat c.args.up c.args.a c.args.b c.ys_of.result c.ys_of.ensures
    one_y apart c.in_ok-y.y
    (subst (λ (z : ℤ). FindsLine c.args.up c.ys_of.result z (Some c.in_ok-y.y)) seen c.in_ok-y.ensures)
    _ _ _ a_seen b_seen y_seen

pub returns-in_err-x : goal.returns-in_err-x
returns-in_err-x g c =
    let apart : c.args.a.y ≢ c.args.b.y = search rules in
    let one_x : c.args.a.x ≡ c.args.b.x = search rules in
    let seen : to_z w64 (of_z w64 c.args.a.x) ≡ c.args.a.x = search rules in
    let none : c.from_residual-in_err-x.result ≡ None = search rules in
    subst (FindsRun c.args.on.now.lat c.args.up c.args.a c.args.b) (sym none)
    (stays_upright c.args.on.now.lat c.args.up c.args.a c.args.b c.xs_of.result
    c.xs_of.ensures one_x apart
    (subst (λ (z : ℤ). FindsLine c.args.up c.xs_of.result z None) seen c.in_err-x.ensures))

pub returns : goal.returns
returns g c =
    let apart : c.args.a.y ≢ c.args.b.y = search rules in
    let one_x : c.args.a.x ≡ c.args.b.x = search rules in
    let seen : to_z w64 (of_z w64 c.args.a.x) ≡ c.args.a.x = search rules in
    let a_seen : to_z w64 (of_z w64 c.args.a.y) ≡ c.args.a.y = search rules in
    let b_seen : to_z w64 (of_z w64 c.args.b.y) ≡ c.args.b.y = search rules in
    let x_seen : to_z w64 (of_z w64 c.in_ok-x.x) ≡ c.in_ok-x.x = search rules in
    moves_upright c.args.on.now.lat c.args.up c.args.a c.args.b c.xs_of.result
    c.xs_of.ensures one_x apart c.in_ok-x.x
    (subst (λ (z : ℤ). FindsLine c.args.up c.xs_of.result z (Some c.in_ok-x.x)) seen c.in_ok-x.ensures)
    _ _ _ a_seen b_seen x_seen
