use Rattle.std.proofs.Common.{◌≡◌, ℕ, ◌*◌, ◌≤◌, ◌<◌, length, refl, ap, sym, ◌∙◌, subst, arith}
use Rattle.route_lattice.specs.Mesh.{node_count}
use Rattle.route_lattice.specs.Ways.{way_count}
use Rattle.move_maps.proofs.Lines.{all_next}
use Rattle.move_maps.proofs.Painting.{begins, at_ends}
use Rattle.move_maps.proofs.brush.Brush.paint.Goals as goal

zeros : (h w a : ℕ) → 0 * h * w * a ≡ 0
zeros h w a = omega arith

no_nodes : (n a : ℕ) → n ≡ 0 → n * a ≡ 0
no_nodes n a e = ap (λ x. x * a) e ∙ zero_times a
  where
    zero_times : (a : ℕ) → 0 * a ≡ 0
    zero_times a = omega arith

some : (x n : ℕ) → x ≡ n → ¬ (x ≡ 0) → 0 < n
some x n e h = omega (arith, e, h)

equal : (i n : ℕ) → i ≤ n → n ≤ i → i ≡ n
equal i n h k = omega (arith, h, k)

pub returns-then-count-eq0 : goal.returns-then-count-eq0
returns-then-count-eq0 c =
    let s = c.args.self.now in let t = s.group in
    let a = way_count t.d t.lat t.first in
    begins s.stroke t.d t.lat t.first s.item 0 (node_count t.lat * a) c.args.counts.now
    (no_nodes (node_count t.lat) a (sym c.count.ensures ∙ c.if-count-eq0.true))

pub loop-level-init : goal.loop-level-init
loop-level-init c =
    let s = c.args.self.now in let t = s.group in
    let m = t.lat in
    let a = way_count t.d t.lat t.first in
    begins s.stroke t.d t.lat t.first s.item 0 (0 * length m.ys * length m.xs * a) c.args.counts.now
    (zeros (length m.ys) (length m.xs) a)

pub loop-level-preserved : goal.loop-level-preserved
loop-level-preserved c =
    let s = c.args.self.now in let t = s.group in
    all_next s.stroke t.d t.lat t.first s.item s.window c.told.ensures.covers c.told.ensures.window
    c.args.counts.now c.loop-level.level c.loop-level.counts c.paint_level.new.counts c.loop-level.invariant
    c.paint_level.ensures

pub paint_level-requires-clause-size : goal.paint_level-requires-clause-size
paint_level-requires-clause-size c = c.loop-level.invariant.size ∙ c.requires

pub paint_level-requires-clause-level : goal.paint_level-requires-clause-level
paint_level-requires-clause-level c = subst (λ n. c.loop-level.level < n) c.levels-level-end.ensures
    c.loop-level-test.true

pub paint_level-requires-clause-some : goal.paint_level-requires-clause-some
paint_level-requires-clause-some c = some c.count.result
    (node_count c.args.self.now.group.lat) c.count.ensures c.if-count-eq0.false

pub returns : goal.returns
returns c =
    let s = c.args.self.now in let t = s.group in
    let m = t.lat in
    let a = way_count t.d t.lat t.first in
    let e = equal c.loop-level.level (length m.layers)
    (subst (λ n. c.loop-level.level ≤ n) c.levels-level-end.ensures c.loop-level.auto.level-end) (subst (λ n. n ≤
    c.loop-level.level)
    c.levels-level-end.ensures c.loop-level-test.false) in
    at_ends s.stroke t.d m t.first s.item 0 0 (c.loop-level.level * length m.ys * length m.xs * a)
    (node_count m * a) c.args.counts.now c.loop-level.counts refl
    (ap (λ n. n * length m.ys * length m.xs * a) e) c.loop-level.invariant
