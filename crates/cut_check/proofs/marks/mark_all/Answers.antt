use Rattle.std.proofs.lemmas.List.{get_or_default}
use Rattle.cut_check.proofs.Stretching.{some_all, some_more, some_none}
use Rattle.cut_check.proofs.marks.mark_all.Goals as goal

pub loop-s-init : goal.loop-s-init
loop-s-init c = record {
  marked = c.requires.marked;
  gains = some_none c.args.lat.now c.args.runs.now c.args.nodes.now.items;
}

pub loop-s-preserved : goal.loop-s-preserved
loop-s-preserved c = record {
  marked = c.in_ok-mark_stretch.ensures.marked;
  gains = some_more c.args.lat.now c.args.runs.now c.loop-s.s-index _ c.loop-s-test.true
      (get_or_default c.args.runs.now c.loop-s.s-index _ _ c.loop-s-test.true) c.args.nodes.now.items
      c.loop-s.nodes.items c.mark_stretch.new.nodes.items c.loop-s.invariant.gains c.in_ok-mark_stretch.ensures.gains;
}

pub returns-clause-marked : goal.returns-clause-marked
returns-clause-marked c = c.loop-s.invariant.marked

pub returns-clause-gains : goal.returns-clause-gains
returns-clause-gains c = some_all c.args.lat.now c.args.runs.now c.loop-s.s-index c.args.nodes.now.items
    c.loop-s.nodes.items c.loop-s-test.false c.loop-s.invariant.gains
