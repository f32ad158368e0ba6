use Rattle.std.proofs.Common.{ℕ, List, length, ap, arith, subst, ◌∙◌}
use Rattle.geo_kernel.specs.declared.point.Rect4.{Rect4}
use Rattle.route_lattice.specs.Found.{LatticeItemOf, IsWindowOf, box_between}
use Rattle.route_lattice.proofs.Gaining.{gains_first, gains_more, gains_all, gains_less}
use Rattle.route_lattice.proofs.Windows.{in_window, window_in}
use Rattle.route_lattice.proofs.anchor.LatticeItem.push_between.Goals as goal

pub window_of-window-requires-clause-xs_ascend : goal.window_of-window-requires-clause-xs_ascend
window_of-window-requires-clause-xs_ascend c = c.self.invariant.fits.xs_ascend

pub window_of-window-requires-clause-ys_ascend : goal.window_of-window-requires-clause-ys_ascend
window_of-window-requires-clause-ys_ascend c = c.self.invariant.fits.ys_ascend

pub loop-level-init : goal.loop-level-init
loop-level-init c = gains_first _ _ _ _

pub push_level-requires-clause-window : goal.push_level-requires-clause-window
push_level-requires-clause-window c =
    let o : IsWindowOf c.args.self.now.lat (box_between c.args.a c.args.b) c.window_of-window.result =
    subst (λ (r : Rect4). IsWindowOf c.args.self.now.lat r c.window_of-window.result) c.box_between.ensures
    (subst (λ (t : LatticeItemOf). IsWindowOf t.lat c.box_between.result c.window_of-window.result) c.self.view_is
    c.window_of-window.ensures) in
    window_in c.args.self.now.lat c.args.a c.args.b c.window_of-window.result o

pub push_level-requires-clause-level : goal.push_level-requires-clause-level
push_level-requires-clause-level c =
    let e = c.len-level-end.ensures in
    let f = ap (λ (xs : List ℕ). length xs)
    (c.layers.ensures ∙ ap (λ (s : LatticeItemOf). s.lat.layers) c.self.view_is) in
    omega (arith, e, f, c.loop-level-test.true)

pub loop-level-preserved : goal.loop-level-preserved
loop-level-preserved c = gains_more _ _ _ _ _ _ _ c.loop-level.invariant c.in_ok-push_level.ensures

pub returns : goal.returns
returns c =
    let o : IsWindowOf c.args.self.now.lat (box_between c.args.a c.args.b) c.window_of-window.result =
    subst (λ (r : Rect4). IsWindowOf c.args.self.now.lat r c.window_of-window.result) c.box_between.ensures
    (subst (λ (t : LatticeItemOf). IsWindowOf t.lat c.box_between.result c.window_of-window.result) c.self.view_is
    c.window_of-window.ensures) in
    let e = c.len-level-end.ensures in
    let f = ap (λ (xs : List ℕ). length xs)
    (c.layers.ensures ∙ ap (λ (s : LatticeItemOf). s.lat.layers) c.self.view_is) in
    gains_less _ _ _ _ _ _
    (λ v h. in_window c.args.self.now.d c.args.self.now.lat c.args.self.now.item c.window_of-window.result c.args.a
    c.args.b v o h) (λ v n. n)
    (gains_all _ _ _ _ (length c.args.self.now.lat.layers) _ _ (omega (arith, e, f, c.loop-level-test.false))
    c.loop-level.invariant)
