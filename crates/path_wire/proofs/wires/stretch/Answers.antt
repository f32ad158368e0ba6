use Rattle.std.proofs.Common.{◌+◌, ◌++◌, [], ◌∷◌, drop, get_or, inl, inr, ap, sym, ◌∙◌}
use Rattle.route_lattice.specs.declared.moves.Move.TheVariants.{Step}
use Rattle.route_lattice.specs.Mesh.{point_of}
use Rattle.path_wire.specs.Wires.{corners, goes_on}
use Rattle.path_wire.proofs.Laying.{step_corners, via_corners, points_done, at_end, points_next, rest_is, first_point}
use Rattle.path_wire.proofs.wires.stretch.Goals as goal
use Rattle.path_wire.proofs.wires.stretch.Goals.{then-not-goes_on+in_ok-push-in-Step, else-not-goes_on}

pub loop-i-init : goal.loop-i-init
loop-i-init c =
    first_point (point_of c.args.lat.now) c.push.new.self c.new-points.result c.point.result
    (get_or c.args.nodes.now 0 0) (corners (drop 1 c.args.nodes.now) c.args.moves.now) c.in_ok-push.ensures.ok
    c.new-points.ensures c.point.ensures

pub loop-i-preserved : goal.loop-i-preserved
loop-i-preserved c =
    let e = step_corners (point_of c.args.lat.now) c.args.nodes.now c.args.moves.now c.loop-i.i (Step 0) c.in-Step.dir
    c.loop-i-test.true c.requires.lengths c.in-Step.is in
    let g = c.goes_on.ensures ∙ ap (goes_on c.in-Step.dir) (rest_is c.args.moves.now (c.loop-i.i + 1)) in
    points_next (point_of c.args.lat.now) c.loop-i.points c.if-not-goes_on.points _ _
    (get_or c.args.nodes.now (c.loop-i.i + 1) 0) _
    (corners (drop (c.loop-i.i + 1 + 1) c.args.nodes.now) (drop (c.loop-i.i + 1) c.args.moves.now))
    c.loop-i.invariant e
    (elim c.if-not-goes_on.branch [
      | then-not-goes_on+in_ok-push-in-Step w ↦
          inr (
            sym g ∙ w.if-not-goes_on.true,
            w.points-is ∙ w.in_ok-push-in-Step.ensures.ok
                ∙ ap (λ p. c.loop-i.points ++ p ∷ []) w.point-then-not-goes_on.ensures,
          )
      | else-not-goes_on w ↦
          inl (sym g ∙ w.if-not-goes_on.false, w.points-is)
    ])

pub returns : goal.returns
returns c = points_done (point_of c.args.lat.now) c.args.nodes.now c.args.moves.now c.loop-i.i c.loop-i.points _
    (at_end (point_of c.args.lat.now) c.args.nodes.now c.args.moves.now c.loop-i.i c.loop-i-test.false)
    c.loop-i.invariant

pub returns-in-Via : goal.returns-in-Via
returns-in-Via c =
    points_done (point_of c.args.lat.now) c.args.nodes.now c.args.moves.now c.loop-i.i c.loop-i.points _
    (via_corners (point_of c.args.lat.now) c.args.nodes.now c.args.moves.now c.loop-i.i (Step 0) c.in-Via.padstack
    c.in-Via.layer c.loop-i-test.true c.requires.lengths c.in-Via.is) c.loop-i.invariant
