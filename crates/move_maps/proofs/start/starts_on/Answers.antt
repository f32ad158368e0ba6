use Rattle.std.proofs.Common.{◌<◌, ◌∙◌, refl, subst}
use Rattle.move_maps.specs.Starts.{AreStarts}
use Rattle.move_maps.proofs.Plains.{starts_first, starts_next, ended}
use Rattle.move_maps.proofs.start.starts_on.Goals as goal

pub move_start-requires-clause-index : goal.move_start-requires-clause-index
move_start-requires-clause-index g c = subst (λ n. c.loop-i.i < n) c.args.moves.now.arity_is c.loop-i-test.true

pub loop-i-init : goal.loop-i-init
loop-i-init g c =
    let s = c.args.moves.now in
    starts_first s.d.now s.lat.now s.net c.args.level 0 c.new-starts.result c.new-starts.ensures refl

pub loop-i-preserved : goal.loop-i-preserved
loop-i-preserved g c =
    let s = c.args.moves.now in
    starts_next s.d.now s.lat.now s.net c.args.level c.loop-i.i c.move_start.result c.loop-i.starts c.push.new.self
    c.loop-i.invariant c.move_start.ensures c.in_ok-push.ensures.ok

pub returns : goal.returns
returns g c =
    let s = c.args.moves.now in
    subst (λ n. AreStarts s.d.now s.lat.now s.net c.args.level n c.loop-i.starts)
    (ended c.loop-i.i s.arity c.loop-i.auto.i-end c.loop-i-test.false ∙ s.arity_is) c.loop-i.invariant
