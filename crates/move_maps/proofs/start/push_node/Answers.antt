use Rattle.std.proofs.Common.{◌++◌, ◌∙◌, map, ap}
use Rattle.std.proofs.lemmas.List.{take_all}
use Rattle.move_maps.specs.Starts.{start_of}
use Rattle.move_maps.proofs.Plains.{pushed_first, pushed_next}
use Rattle.move_maps.proofs.start.push_node.Goals as goal

pub loop-n-init : goal.loop-n-init
loop-n-init c = pushed_first c.args.plain c.args.starts.now c.args.counts.now

pub loop-n-preserved : goal.loop-n-preserved
loop-n-preserved c =
    pushed_next c.args.plain c.args.starts.now c.args.counts.now c.loop-n.counts c.push.new.self c.loop-n.n-index
    c.start_of.result c.loop-n-test.true c.start_of.ensures c.loop-n.invariant c.in_ok-push.ensures

pub returns : goal.returns
returns c = c.loop-n.invariant
    ∙ ap (λ xs. c.args.counts.now ++ map (start_of c.args.plain) xs)
    (take_all c.loop-n.n-index c.args.starts.now c.loop-n-test.false)
