use Rattle.std.proofs.Common.{◌≡◌, ℕ, ◌+◌, ◌*◌, ◌<◌, ◌≤◌, ◌^◌, List, length, ap, sym, ◌∙◌, subst, arith}
use Rattle.std.proofs.Math.Nat.{mul-le-mul_right}
use Rattle.route_lattice.specs.Ways.{way_count}
use Rattle.move_maps.specs.Starts.{AreStarts}
use Rattle.move_maps.proofs.Starting.{filled_at}
use Rattle.move_maps.proofs.Plains.{level_first, level_over, ended}
use Rattle.move_maps.proofs.start.push_level.Goals as goal

-- one signal layer has no more nodes than all
one_level : (n l h w : ℕ) → l < n → n * h * w ≤ 2 ^ 24 → h * w ≤ 2 ^ 24
one_level n l h w there few =
    let one : 1 ≤ n = omega (arith, there) in
    by (n * (h * w)) (mul-le-mul_right (h * w) one) (again n h w) few
  where
    again : (n h w : ℕ) → n * (h * w) ≡ n * h * w
    again n h w = omega arith

    by : (p : ℕ) → 1 * (h * w) ≤ p → p ≡ n * h * w → n * h * w ≤ 2 ^ 24 → h * w ≤ 2 ^ 24
    by p k e f = omega (arith, k, e, f)

pub starts_on-requires-clause-can_move : goal.starts_on-requires-clause-can_move
starts_on-requires-clause-can_move g c = c.requires.can_move

pub push_line-requires-clause-small : goal.push_line-requires-clause-small
push_line-requires-clause-small g c =
    let m = c.args.moves.now.lat.now in
    one_level (length m.layers) c.args.level (length m.ys) (length m.xs) c.requires.level
    c.requires.can_move.fits.few_nodes

pub push_line-requires-clause-inner : goal.push_line-requires-clause-inner
push_line-requires-clause-inner g c = c.requires.inner

pub push_line-requires-clause-starts : goal.push_line-requires-clause-starts
push_line-requires-clause-starts g c =
    let s = c.args.moves.now in
    subst (λ (xs : List ℕ). AreStarts s.d.now s.lat.now s.net c.args.level (way_count s.d.now s.lat.now s.net) xs)
    (sym c.as_slice.ensures) c.in_ok-starts.ensures

pub loop-row-init : goal.loop-row-init
loop-row-init g c =
    let s = c.args.moves.now in let m = s.lat.now in let a = way_count s.d.now m s.net in
    filled_at s.d.now m s.net (c.args.level * length m.ys * length m.xs * a)
    ((c.args.level * length m.ys + 0) * length m.xs * a) c.args.counts.now
    (level_first c.args.level (length m.ys) (length m.xs) a) c.requires.filled

pub push_line-requires-clause-row : goal.push_line-requires-clause-row
push_line-requires-clause-row g c =
    subst (λ n. c.loop-row.row < n) (c.len-row-end.ensures ∙ ap length c.ys.ensures) c.loop-row-test.true

pub push_line-requires-clause-filled : goal.push_line-requires-clause-filled
push_line-requires-clause-filled g c = c.loop-row.invariant

pub loop-row-preserved : goal.loop-row-preserved
loop-row-preserved g c = c.in_ok-push_line.ensures

pub returns : goal.returns
returns g c =
    let s = c.args.moves.now in let m = s.lat.now in let a = way_count s.d.now m s.net in
    let e = c.len-row-end.ensures ∙ ap length c.ys.ensures in
    filled_at s.d.now m s.net ((c.args.level * length m.ys + c.loop-row.row) * length m.xs * a)
    ((c.args.level + 1) * length m.ys * length m.xs * a) c.loop-row.counts
    (level_over c.args.level (length m.ys) c.loop-row.row (length m.xs) a
    (ended c.loop-row.row (length m.ys) (subst (λ k. c.loop-row.row ≤ k) e c.loop-row.auto.row-end)
    (subst (λ k. k ≤ c.loop-row.row) e c.loop-row-test.false))) c.loop-row.invariant
