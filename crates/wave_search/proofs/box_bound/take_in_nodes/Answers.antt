use Rattle.std.proofs.Common.{ℕ, ◌+◌, ◌^◌, Vec, Global, get_or, refl, sym, subst, arith}
use Rattle.std.specs.Prelude.{All}
use Rattle.geo_kernel.specs.declared.point.Rect4.{Rect4}
use Rattle.geo_kernel.specs.Plane.{IsWithin}
use Rattle.route_lattice.specs.Parts.{IsBoxWithin}
use Rattle.wave_search.specs.Around.{IsHeldBy}
use Rattle.wave_search.proofs.Around.{AreHeld, none_held, one_more, all_held, point_within}
use Rattle.wave_search.proofs.box_bound.take_in_nodes.Goals as goal
use Rattle.wave_search.proofs.box_bound.take_in_nodes.Goals.{then-node-count+in_ok-take_in, else-node-count}

pub take_in-requires-clause-p : goal.take_in-requires-clause-p
take_in-requires-clause-p c =
    let v : ℕ = get_or c.args.nodes.now c.loop-v.v-index 0 in
    subst (IsWithin (2 ^ 29)) (sym c.point.ensures)
    (point_within c.args.lat.now v c.requires.lines (omega (arith, c.if-node-count.true, c.count.ensures.nodes)))

pub loop-v-init : goal.loop-v-init
loop-v-init c = record {
  within = c.requires.boxes;
  held = none_held c.args.lat.now c.args.nodes.now c.args.boxes.now.items;
}

pub loop-v-preserved : goal.loop-v-preserved
loop-v-preserved c =
    let v : ℕ = get_or c.args.nodes.now c.loop-v.v-index 0 in
    elim c.if-node-count.branch [
      | then-node-count+in_ok-take_in w ↦ record {
        within = subst (λ (b : Vec Rect4 Global). All IsBoxWithin b.items) (sym w.boxes-is)
            w.in_ok-take_in.ensures.within;
        held = subst (λ (b : Vec Rect4 Global). AreHeld c.args.lat.now c.args.nodes.now (c.loop-v.v-index + 1) b.items)
            (sym w.boxes-is)
            (one_more c.args.lat.now c.args.nodes.now c.loop-v.v-index v 0 c.loop-v.boxes.items
            w.take_in.new.boxes.items c.loop-v-test.true refl c.loop-v.invariant.held w.in_ok-take_in.ensures.keeps
            (λ _. subst (IsHeldBy w.take_in.new.boxes.items) w.point.ensures w.in_ok-take_in.ensures.holds));
      }
      | else-node-count w ↦ record {
        within = subst (λ (b : Vec Rect4 Global). All IsBoxWithin b.items) (sym w.boxes-is) c.loop-v.invariant.within;
        held = subst (λ (b : Vec Rect4 Global). AreHeld c.args.lat.now c.args.nodes.now (c.loop-v.v-index + 1) b.items)
            (sym w.boxes-is)
            (one_more c.args.lat.now c.args.nodes.now c.loop-v.v-index v 0 c.loop-v.boxes.items c.loop-v.boxes.items
            c.loop-v-test.true refl c.loop-v.invariant.held (λ q h. h)
            (λ h. absurd (omega (arith, h, w.if-node-count.false, c.count.ensures.nodes))));
      }
    ]

pub returns : goal.returns
returns c = all_held c.args.lat.now c.args.nodes.now c.loop-v.v-index c.loop-v.boxes.items
    (omega (arith, c.loop-v-test.false)) c.loop-v.invariant.within c.loop-v.invariant.held
