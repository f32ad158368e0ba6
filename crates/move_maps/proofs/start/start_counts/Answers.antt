use Rattle.std.proofs.Common.{◌*◌, ◌≤◌, length, ap, ◌∙◌, subst}
use Rattle.route_lattice.specs.Ways.{way_count}
use Rattle.move_maps.proofs.Starting.{filled_first, filled_all}
use Rattle.move_maps.proofs.Plains.{none_first, ended}
use Rattle.move_maps.proofs.start.start_counts.Goals as goal

pub loop-level-init : goal.loop-level-init
loop-level-init g c =
    let s = c.args.moves.now in let m = s.lat.now in let a = way_count s.d.now m s.net in
    filled_first s.d.now m s.net c.new-counts.result (0 * length m.ys * length m.xs * a) c.new-counts.ensures
    (none_first (length m.ys) (length m.xs) a)

pub push_level-requires-clause-filled : goal.push_level-requires-clause-filled
push_level-requires-clause-filled g c = c.loop-level.invariant

pub loop-level-preserved : goal.loop-level-preserved
loop-level-preserved g c = c.in_ok-push_level.ensures

pub returns : goal.returns
returns g c =
    let s = c.args.moves.now in let m = s.lat.now in
    let e = c.len-level-end.ensures ∙ ap length c.layers.ensures in
    let is = ended c.loop-level.level (length m.layers)
    (subst (λ k. c.loop-level.level ≤ k) e c.loop-level.auto.level-end)
    (subst (λ k. k ≤ c.loop-level.level) e c.loop-level-test.false) in
    filled_all s.d.now m s.net (c.loop-level.level * length m.ys * length m.xs) c.loop-level.counts
    (ap (λ n. n * length m.ys * length m.xs) is) c.loop-level.invariant
