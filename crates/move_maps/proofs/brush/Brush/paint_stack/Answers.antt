use Rattle.std.proofs.Common.{◌≡◌, ℕ, ◌+◌, ◌*◌, ◌≤◌, ◌<◌, ◌↔◌, IsTrue, true, List, length}
use Rattle.std.proofs.Common.{refl, sym, ◌∙◌, subst, arith}
use Rattle.std.specs.Prelude.{slice_index}
use Rattle.pcb_model.specs.declared.item.Probe.TheVariants as probe
use Rattle.pcb_model.specs.Pieces.{padstack_pieces}
use Rattle.route_lattice.specs.Near.{are_near_at}
use Rattle.route_lattice.specs.Ways.{way_count}
use Rattle.move_maps.specs.Clear.{IsClearOf}
use Rattle.move_maps.proofs.Painting.{begins, goes_on, at_ends}
use Rattle.move_maps.proofs.brush.Brush.paint_stack.Goals as goal

start : (n f : ℕ) → n + (f + 0) ≡ n + f
start n f = omega arith

after : (n f i : ℕ) → n + (f + i) + 1 ≡ n + (f + (i + 1))
after n f i = omega arith

over : (n i : ℕ) → n ≤ n + i
over n i = omega arith

further : (n f i : ℕ) → n + f ≤ n + (f + i)
further n f i = omega arith

equal : (i n : ℕ) → i ≤ n → n ≤ i → i ≡ n
equal i n h k = omega (arith, h, k)

next : (n k l i : ℕ) → i ≡ k → n + (4 + l * k + i) ≡ n + (4 + (l + 1) * k)
next n k l i e = omega (arith, e)

pub bounds-vias-number : goal.bounds-vias-number
bounds-vias-number c =
    subst (λ (vs : List ℕ). c.args.number < length vs) (sym c.vias.ensures) c.requires.number

pub paint_via-requires-clause-spot : goal.paint_via-requires-clause-spot
paint_via-requires-clause-spot c = c.requires.spot

pub paint_via-requires-clause-number : goal.paint_via-requires-clause-number
paint_via-requires-clause-number c = c.requires.number

pub paint_via-requires-clause-level : goal.paint_via-requires-clause-level
paint_via-requires-clause-level c =
    subst (λ n. c.loop-level.level < n) c.levels-level-end.ensures c.loop-level-test.true

pub paint_via-requires-clause-clear : goal.paint_via-requires-clause-clear
paint_via-requires-clause-clear c =
    let s = c.args.self.now in let d = s.group.d in let at = c.args.spot.now.at in
    subst (λ (vs : List ℕ). IsTrue c.is_stack_clear-clear.result
    ↔ (are_near_at at (padstack_pieces d (slice_index vs c.args.number)) ≡ true
    → IsClearOf d s.group.first (probe.Via (slice_index vs c.args.number) at) s.item)) c.vias.ensures
    c.is_stack_clear-clear.ensures

pub loop-level-init : goal.loop-level-init
loop-level-init c =
    let s = c.args.self.now in let t = s.group in
    let n = c.args.spot.now.node * way_count t.d t.lat t.first in
    let f = 4 + c.args.number * length t.lat.layers in
    begins s.stroke t.d t.lat t.first s.item (n + f) (n + (f + 0)) c.args.counts.now (start n f)

pub loop-level-preserved : goal.loop-level-preserved
loop-level-preserved c =
    let s = c.args.self.now in let t = s.group in
    let n = c.args.spot.now.node * way_count t.d t.lat t.first in
    let f = 4 + c.args.number * length t.lat.layers in
    let i = c.loop-level.level in
    goes_on s.stroke t.d t.lat t.first s.item (n + f) (n + (f + i)) (n + (f + i) + 1)
    (n + (f + (i + 1))) c.args.counts.now c.loop-level.counts c.paint_via.new.counts (further n f i)
    (over (n + (f + i)) 1) (after n f i) c.loop-level.invariant c.paint_via.ensures

pub paint_via-requires-clause-size : goal.paint_via-requires-clause-size
paint_via-requires-clause-size c = c.loop-level.invariant.size ∙ c.requires.size

pub returns : goal.returns
returns c =
    let s = c.args.self.now in let t = s.group in
    let m = t.lat in
    let n = c.args.spot.now.node * way_count t.d m t.first in
    let f = 4 + c.args.number * length m.layers in
    let layers = c.levels-level-end.ensures in
    at_ends s.stroke t.d m t.first s.item (n + f) (n + f) (n + (f + c.loop-level.level))
    (n + (4 + (c.args.number + 1) * length m.layers)) c.args.counts.now c.loop-level.counts refl
    (next n (length m.layers) c.args.number c.loop-level.level
    (equal c.loop-level.level (length m.layers)
    (subst (λ k. c.loop-level.level ≤ k) layers c.loop-level.auto.level-end)
    (subst (λ k. k ≤ c.loop-level.level) layers c.loop-level-test.false))) c.loop-level.invariant
