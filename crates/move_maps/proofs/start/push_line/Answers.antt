use Rattle.std.proofs.Common.{◌+◌, ◌*◌, ◌<◌, ◌≤◌, length, refl, ap, ◌∙◌, subst}
use Rattle.route_lattice.specs.Ways.{way_count}
use Rattle.move_maps.proofs.Starting.{filled_at}
use Rattle.move_maps.proofs.Plains.{filled_on, first_at, line_over, ended}
use Rattle.move_maps.proofs.start.push_line.Goals as goal

pub loop-column-init : goal.loop-column-init
loop-column-init g c =
    let s = c.args.moves.now in let m = s.lat.now in let a = way_count s.d.now m s.net in
    let n = (c.args.level * length m.ys + c.args.row) * length m.xs in
    filled_at s.d.now m s.net (n * a) ((n + 0) * a) c.args.counts.now (first_at n a) c.requires.filled

pub is_plain-plain-requires-clause-column : goal.is_plain-plain-requires-clause-column
is_plain-plain-requires-clause-column g c =
    subst (λ n. c.loop-column.column < n) (c.len-column-end.ensures ∙ ap length c.xs.ensures)
    c.loop-column-test.true

pub loop-column-preserved : goal.loop-column-preserved
loop-column-preserved g c =
    let s = c.args.moves.now in let m = s.lat.now in
    filled_on s.d.now m s.net c.args.level c.args.row c.loop-column.column (c.loop-column.column + 1)
    c.is_plain-plain.result c.args.starts.now c.loop-column.counts c.push_node.new.counts
    c.requires.level c.requires.row
    (subst (λ n. c.loop-column.column < n) (c.len-column-end.ensures ∙ ap length c.xs.ensures)
    c.loop-column-test.true) c.is_plain-plain.ensures c.requires.starts refl c.loop-column.invariant
    c.in_ok-push_node.ensures

pub returns : goal.returns
returns g c =
    let s = c.args.moves.now in let m = s.lat.now in let a = way_count s.d.now m s.net in
    let e = c.len-column-end.ensures ∙ ap length c.xs.ensures in
    let n = c.args.level * length m.ys + c.args.row in
    filled_at s.d.now m s.net ((n * length m.xs + c.loop-column.column) * a)
    ((c.args.level * length m.ys + (c.args.row + 1)) * length m.xs * a) c.loop-column.counts
    (line_over c.args.level (length m.ys) c.args.row (length m.xs) a c.loop-column.column
    (ended c.loop-column.column (length m.xs) (subst (λ k. c.loop-column.column ≤ k) e c.loop-column.auto.column-end)
    (subst (λ k. k ≤ c.loop-column.column) e c.loop-column-test.false))) c.loop-column.invariant
