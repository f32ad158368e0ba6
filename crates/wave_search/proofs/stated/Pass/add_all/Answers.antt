use Rattle.std.proofs.Common.{ℕ, List, subst, arith}
use Rattle.std.proofs.lemmas.List.{take_all}
use Rattle.wave_search.specs.inner.Passing.{AddsAll}
use Rattle.wave_search.proofs.Passing.{adds_none, adds_next}
use Rattle.wave_search.proofs.stated.Pass.add_all.Goals as goal

pub loop-v-init : goal.loop-v-init
loop-v-init c = adds_none c.args.self.now c.args.place

pub loop-v-preserved : goal.loop-v-preserved
loop-v-preserved c = adds_next c.args.self.now c.loop-v.self c.add.new.self c.args.fresh.now c.loop-v.v-index
    c.args.place c.loop-v.invariant c.loop-v-test.true c.requires c.in_ok-add.ensures

pub add-requires : goal.add-requires
add-requires c = omega (arith, c.requires c.loop-v.v-index 0 c.loop-v-test.true, c.loop-v.invariant.size)

pub returns : goal.returns
returns c = subst (λ (l : List ℕ). AddsAll c.args.self.now l c.args.place c.loop-v.self)
    (take_all c.loop-v.v-index c.args.fresh.now (omega (arith, c.loop-v-test.false))) c.loop-v.invariant
