use Rattle.std.proofs.Common.{◌≡◌, length, false, refl, ap, ◌∙◌, arith}
use Rattle.wave_search.proofs.Spared.{none_of}
use Rattle.wave_search.proofs.Table.{none_done}
use Rattle.wave_search.proofs.Touched.{uncovered, untouched, cleared, fewer_nodes}
use Rattle.wave_search.proofs.labels.Labels.clear.Goals as goal

pub returns-then-self-clause-done : goal.returns-then-self-clause-done
returns-then-self-clause-done c = none_done c.blank_all.new.self c.blank_all.ensures.none

pub returns-clause-done : goal.returns-clause-done
returns-clause-done c =
    let none : length c.loop-v.self-inside.touched.items ≡ 0 = omega (arith, c.in_default.ensures.cases.0) in
    none_done c.loop-v.self-inside.rows
    (uncovered c.loop-v.self-inside.rows c.loop-v.self-inside.touched.items none c.loop-v.invariant.covers)

pub loop-v-preserved : goal.loop-v-preserved
loop-v-preserved c = record {
  size = c.blank.ensures.size ∙ c.loop-v.invariant.size;
  nodes = fewer_nodes c.loop-v.self-inside.rows c.blank.new.self c.loop-v.self-inside.touched.items
      c.pop.new.self.items c.in-Some.v c.blank.ensures.size c.in-Some.ensures.items c.loop-v.invariant.nodes;
  covers = cleared c.loop-v.self-inside.rows c.blank.new.self c.loop-v.self-inside.touched.items
      c.pop.new.self.items c.in-Some.v c.blank.ensures.here c.blank.ensures.others c.in-Some.ensures.items
      c.loop-v.invariant.covers;
}

pub loop-v-init : goal.loop-v-init
loop-v-init c = record {
  size = refl;
  nodes = c.self.invariant.nodes;
  covers = c.self.invariant.covers c.if-self.false;
}

pub invariant_of-self : goal.invariant_of-self
invariant_of-self c =
    untouched c.blank_all.new.self false c.clear.new.self.items c.blank_all.ensures.none c.clear.ensures.items

pub returns-clause-none : goal.returns-clause-none
returns-clause-none c =
    let none : length c.loop-v.self-inside.touched.items ≡ 0 = omega (arith, c.in_default.ensures.cases.0) in
    uncovered c.loop-v.self-inside.rows c.loop-v.self-inside.touched.items none c.loop-v.invariant.covers

pub returns-clause-size : goal.returns-clause-size
returns-clause-size c = c.loop-v.invariant.size ∙ ap length c.self.view_is

pub invariant_of-self-in_default : goal.invariant_of-self-in_default
invariant_of-self-in_default c =
    let none : length c.loop-v.self-inside.touched.items ≡ 0 = omega (arith, c.in_default.ensures.cases.0) in
    untouched c.loop-v.self-inside.rows c.loop-v.self-inside.unlisted c.pop.new.self.items
    (uncovered c.loop-v.self-inside.rows c.loop-v.self-inside.touched.items none c.loop-v.invariant.covers)
    (none_of c.pop.new.self.items c.loop-v.self-inside.touched.items c.in_default.ensures.items none)
