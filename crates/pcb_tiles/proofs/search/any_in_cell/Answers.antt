use Rattle.std.proofs.Common.{List, All, None, arith, subst}
use Rattle.std.proofs.lemmas.List.{take_all}
use Rattle.pcb_tiles.specs.declared.cells.Entry.{Entry}
use Rattle.pcb_tiles.specs.Searches.{IsPassed}
use Rattle.pcb_tiles.proofs.Best.{one_passed}
use Rattle.pcb_tiles.proofs.search.any_in_cell.Goals as goal

pub returns-then-is_sought-clause-cost : goal.returns-then-is_sought-clause-cost
returns-then-is_sought-clause-cost g c =
    omega (arith, c.loop-e-test.true, c.loop-e.invariant.cost, c.is_sought.ensures.cost)

pub loop-e-preserved : goal.loop-e-preserved
loop-e-preserved g c = record {
  passed = one_passed (g.S.Seeks.no c.args.s.now) 0 None c.args.cell.now c.loop-e.e-index c.e-item.result
      c.loop-e-test.true c.e-item.is
      (record { no = λ l u. subst (g.S.Seeks.no c.args.s.now) c.get.ensures c.if-is_sought.ensures.no })
      c.loop-e.invariant.passed;
  cost = omega (arith, c.loop-e.invariant.cost, c.is_sought.ensures.cost);
}

pub returns-clause-no : goal.returns-clause-no
returns-clause-no g c =
    let F : List Entry → Type 0 = All (IsPassed (g.S.Seeks.no c.args.s.now) 0 None) in
    subst F (take_all c.loop-e.e-index c.args.cell.now (omega arith)) c.loop-e.invariant.passed
