use Rattle.std.proofs.Common.{◌≡◌, ℕ, ◌-◌, ◌<◌, ◌≤◌, List, length, get_or, Any, pos, true≢false, refl, sym, ap, ◌∙◌}
use Rattle.std.proofs.Common.{subst, arith}
use Rattle.geo_kernel.specs.declared.point.Point.{Point}
use Rattle.geo_kernel.specs.Spine.{Touches, links, loop_segments}
use Rattle.geo_kernel.proofs.Paths.{some_next, some_stops, loop_of}
use Rattle.route_lattice.proofs.touch.touches_loops.Goals as goal

some_corner : (loops : List (List Point)) (i : ℕ) (ps qs : List Point) → 3 ≤ length (get_or loops i ps)
    → ps ≡ get_or loops i ps → qs ≡ ps → 0 < length qs
some_corner loops i ps qs h e f = let k = ap (λ (xs : List Point). length xs) (f ∙ e) in omega (arith, h, k)

pub returns-then-touches_path : goal.returns-then-touches_path
returns-then-touches_path c =
    let o : Point = record { x = pos 0; y = pos 0 } in
    let P = Touches c.args.k (record { from = c.args.p; to = c.args.p }) in
    let i = c.loop-points.points-index in let ps = c.points-item.result in let qs = c.as_slice-corners.result.now in
    let e : links (get_or qs (length qs - 1) o) qs ≡ loop_segments ps =
    sym (loop_of o qs
    (some_corner c.args.loops.now i ps qs (c.requires.some i ps c.loop-points-test.true) c.points-item.is
    c.as_slice-corners.ensures)) ∙ ap loop_segments c.as_slice-corners.ensures in
    let f : loop_segments ps ≡ loop_segments (get_or c.args.loops.now i ps) = ap loop_segments c.points-item.is in (
      λ t. some_stops P loop_segments c.args.loops.now i ps c.loop-points.invariant c.loop-points-test.true
          (subst (Any P) (e ∙ f) (c.touches_path.ensures.0 c.if-touches_path.true)),
      λ h. refl,
    )

pub loop-points-preserved : goal.loop-points-preserved
loop-points-preserved c =
    let o : Point = record { x = pos 0; y = pos 0 } in
    let P = Touches c.args.k (record { from = c.args.p; to = c.args.p }) in
    let i = c.loop-points.points-index in let ps = c.points-item.result in let qs = c.as_slice-corners.result.now in
    let e : links (get_or qs (length qs - 1) o) qs ≡ loop_segments ps =
    sym (loop_of o qs
    (some_corner c.args.loops.now i ps qs (c.requires.some i ps c.loop-points-test.true) c.points-item.is
    c.as_slice-corners.ensures)) ∙ ap loop_segments c.as_slice-corners.ensures in
    let f : loop_segments ps ≡ loop_segments (get_or c.args.loops.now i ps) = ap loop_segments c.points-item.is in
    some_next P loop_segments c.args.loops.now i ps c.loop-points.invariant c.loop-points-test.true
    (λ x. true≢false (sym (c.touches_path.ensures.1 (subst (Any P) (sym (e ∙ f)) x)) ∙ c.if-touches_path.false))
