use Rattle.std.proofs.Common.{◌≡◌, ℕ, ◌+◌, ◌*◌, ◌≤◌, ◌<◌, length, refl, ap, ◌∙◌, subst, arith}
use Rattle.route_lattice.specs.Ways.{vias_of, way_count}
use Rattle.move_maps.proofs.Painting.{begins, goes_on, at_ends}
use Rattle.move_maps.proofs.brush.Brush.paint_vias.Goals as goal

start : (n k : ℕ) → n + (4 + 0 * k) ≡ n + 4
start n k = omega arith

over : (n k l : ℕ) → n + 4 ≤ n + (4 + l * k)
over n k l = omega arith

next : (n k l : ℕ) → n + (4 + l * k) ≤ n + (4 + (l + 1) * k)
next n k l = omega arith

equal : (i n : ℕ) → i ≤ n → n ≤ i → i ≡ n
equal i n h k = omega (arith, h, k)

pub loop-number-init : goal.loop-number-init
loop-number-init c =
    let s = c.args.self.now in let t = s.group in
    let n = c.args.spot.now.node * way_count t.d t.lat t.first in
    begins s.stroke t.d t.lat t.first s.item (n + 4) (n + (4 + 0 * length t.lat.layers)) c.args.counts.now
    (start n (length t.lat.layers))

pub loop-number-preserved : goal.loop-number-preserved
loop-number-preserved c =
    let s = c.args.self.now in let t = s.group in
    let n = c.args.spot.now.node * way_count t.d t.lat t.first in
    let k = length t.lat.layers in
    let i = c.loop-number.number in
    goes_on s.stroke t.d t.lat t.first s.item (n + 4) (n + (4 + i * k)) (n + (4 + (i + 1) * k))
    (n + (4 + (i + 1) * k)) c.args.counts.now c.loop-number.counts c.paint_stack.new.counts (over n k i)
    (next n k i) refl c.loop-number.invariant c.paint_stack.ensures

pub paint_stack-requires-clause-size : goal.paint_stack-requires-clause-size
paint_stack-requires-clause-size c = c.loop-number.invariant.size ∙ c.requires.size

pub paint_stack-requires-clause-number : goal.paint_stack-requires-clause-number
paint_stack-requires-clause-number c = subst (λ n. c.loop-number.number < n)
    (ap length c.vias-number-end.ensures) c.loop-number-test.true

pub returns : goal.returns
returns c =
    let s = c.args.self.now in let t = s.group in
    let m = t.lat in
    let a = way_count t.d m t.first in
    let n = c.args.spot.now.node * a in
    let count = ap length c.vias-number-end.ensures in
    at_ends s.stroke t.d m t.first s.item (n + 4) (n + 4) (n + (4 + c.loop-number.number * length m.layers))
    (n + a) c.args.counts.now c.loop-number.counts refl
    (ap (λ i. n + (4 + i * length m.layers))
    (equal c.loop-number.number (length (vias_of t.d t.first))
    (subst (λ k. c.loop-number.number ≤ k) count c.loop-number.auto.number-end)
    (subst (λ k. k ≤ c.loop-number.number) count c.loop-number-test.false))) c.loop-number.invariant
