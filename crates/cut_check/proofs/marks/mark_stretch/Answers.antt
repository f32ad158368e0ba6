use Rattle.std.proofs.Common.{ℕ, arith, subst}
use Rattle.cut_check.specs.inner.Marking.{AreMarked}
use Rattle.cut_check.proofs.Stretching.{before_all, before_more, before_none, column_below}
use Rattle.cut_check.proofs.marks.mark_stretch.Goals as goal

pub loop-column-init : goal.loop-column-init
loop-column-init c = record {
  marked = c.requires.marked;
  gains = before_none c.args.lat.now c.args.s c.args.nodes.now.items;
}

pub loop-column-preserved : goal.loop-column-preserved
loop-column-preserved c = record {
  marked = subst (λ (n : ℕ). AreMarked n c.mark.new.marks.items c.mark.new.nodes.items)
      c.loop-column.invariant.marked.size c.in_ok-mark.ensures.marked;
  gains = before_more c.args.lat.now c.args.s c.loop-column.column _ c.args.nodes.now.items c.loop-column.nodes.items
      c.mark.new.nodes.items c.loop-column.auto.column c.node_in-in-loop-column.ensures.value
      c.loop-column.invariant.gains c.in_ok-mark.ensures.gains;
}

pub returns-clause-marked : goal.returns-clause-marked
returns-clause-marked c = c.loop-column.invariant.marked

pub returns-clause-gains : goal.returns-clause-gains
returns-clause-gains c =
    let on = c.requires.on.1 in
    let from = on.from in
    let to = on.to in
    before_all c.args.lat.now c.args.s c.loop-column.column c.args.nodes.now.items
    c.loop-column.nodes.items c.requires.on c.loop-column-test.false
    (c.loop-column.auto.column-end (omega (arith, from, to))) c.loop-column.invariant.gains

pub overflow_add-column-end : goal.overflow_add-column-end
overflow_add-column-end c =
    let low = column_below c.args.lat.now c.args.s c.args.s.last c.node_in.result c.node_in.ensures.value in
    omega (arith, low, c.node_in.ensures.small)
