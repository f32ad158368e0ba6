use Rattle.std.proofs.Common.{◌+◌, ◌++◌, [], ◌∷◌, drop, ap, ◌∙◌, refl, Bool}
use Rattle.geo_kernel.specs.declared.point.Point.{Point}
use Rattle.pcb_model.specs.declared.item.Metal.TheVariants as metal
use Rattle.route_lattice.specs.declared.moves.Move.TheVariants.{Step}
use Rattle.path_wire.specs.Wires.{copper_from}
use Rattle.path_wire.proofs.Laying.{lay_via, lay_wire, lay_none, wire_is, rest_is, all_laid}
use Rattle.path_wire.proofs.wires.push_all.Goals as goal
use Rattle.path_wire.proofs.wires.push_all.Goals.{in-Step+then-fresh+in_ok-wire-in-Step+in_ok-push-in-Step}
use Rattle.path_wire.proofs.wires.push_all.Goals.{in-Step+else-fresh, in-Via+in_ok-push-in-Via}

pub loop-i-init : goal.loop-i-init
loop-i-init c = refl

pub loop-i-preserved : goal.loop-i-preserved
loop-i-preserved c =
    let m = c.args.lat.now in
    let nodes = c.args.nodes.now in
    let moves = c.args.moves.now in
    let i = c.loop-i.i in
    elim c.match-moves-i.branch [
      | in-Step+then-fresh+in_ok-wire-in-Step+in_ok-push-in-Step w ↦
          ap (λ (f : Bool). c.match-moves-i.metals
          ++ copper_from m c.args.width f (drop (i + 1) nodes) (drop (i + 1) moves)) w.fresh-is
          ∙ lay_wire m c.args.width nodes moves i c.loop-i-test.true c.requires.lengths c.loop-i.metals
          c.match-moves-i.metals _ c.loop-i.fresh (Step 0) w.in-Step._dir w.in_ok-wire-in-Step.field-0
          w.if-fresh.true w.in-Step.is c.loop-i.invariant
          (wire_is m c.args.width nodes moves i c.loop-i-test.true c.requires.lengths c.loop-i.metals
          c.match-moves-i.metals c.loop-i.metals w.in_ok-wire-in-Step.field-0 _ _ (rest_is nodes i)
          (rest_is moves i) w.in_ok-wire-in-Step.ensures)
          (w.metals-is ∙ w.in_ok-push-in-Step.ensures.ok)
      | in-Step+else-fresh w ↦
          ap (λ (f : Bool). c.match-moves-i.metals
          ++ copper_from m c.args.width f (drop (i + 1) nodes) (drop (i + 1) moves)) w.fresh-is
          ∙ lay_none m c.args.width nodes moves i c.loop-i-test.true c.requires.lengths c.loop-i.metals
          c.match-moves-i.metals _ c.loop-i.fresh (Step 0) w.in-Step._dir w.if-fresh.false w.in-Step.is
          c.loop-i.invariant w.metals-is
      | in-Via+in_ok-push-in-Via w ↦
          ap (λ (f : Bool). c.match-moves-i.metals
          ++ copper_from m c.args.width f (drop (i + 1) nodes) (drop (i + 1) moves)) w.fresh-is
          ∙ lay_via m c.args.width nodes moves i c.loop-i-test.true c.requires.lengths c.loop-i.metals
          c.match-moves-i.metals _ c.loop-i.fresh (Step 0) w.in-Via.padstack w.in-Via._layer w.in-Via.is
          c.loop-i.invariant
          (w.metals-is ∙ w.in_ok-push-in-Via.ensures.ok
          ∙ ap (λ (p : Point). c.loop-i.metals ++ metal.Via w.in-Via.padstack p ∷ []) w.point.ensures)
    ]

pub returns : goal.returns
returns c = all_laid c.args.lat.now c.args.width c.loop-i.fresh c.args.nodes.now c.args.moves.now c.loop-i.i
    c.loop-i.metals _ c.loop-i-test.false c.loop-i.invariant
