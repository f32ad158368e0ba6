use Rattle.std.proofs.Common.{◌+◌, ℕ, Option, List, take, arith, sym, subst}
use Rattle.std.proofs.lemmas.List.{take_all}
use Rattle.pcb_tiles.specs.declared.cells.Entry.{Entry}
use Rattle.pcb_tiles.specs.Searches.{CellSoFar}
use Rattle.pcb_tiles.proofs.Best.{cell_none, cell_better, cell_same}
use Rattle.pcb_tiles.proofs.search.best_in_cell.Goals as goal
use Rattle.pcb_tiles.proofs.search.best_in_cell.Goals.{then-is_better, else-is_better}

pub loop-e-init : goal.loop-e-init
loop-e-init g c = record {
  so = cell_none (g.S.Seeks.yes c.args.s.now) (g.S.Seeks.no c.args.s.now) c.args.from c.args.best c.args.cell.now;
  cost = omega arith;
}

pub loop-e-preserved : goal.loop-e-preserved
loop-e-preserved g c = record {
  so = elim c.if-is_better.branch [
    | then-is_better w ↦ let F : Option ℕ → Type 0 =
        λ o. CellSoFar (g.S.Seeks.yes c.args.s.now) (g.S.Seeks.no c.args.s.now) c.args.from c.args.best o
        (take (c.loop-e.e-index + 1) c.args.cell.now) in
        subst F (sym w.found-is)
        (cell_better (g.S.Seeks.yes c.args.s.now)
        (g.S.Seeks.no c.args.s.now) c.args.from c.args.best c.loop-e.found c.args.cell.now c.loop-e.e-index
        c.e-item.result c.loop-e-test.true c.e-item.is c.loop-e.invariant.so w.if-is_better.ensures.yes)
    | else-is_better w ↦ let F : Option ℕ → Type 0 =
        λ o. CellSoFar (g.S.Seeks.yes c.args.s.now) (g.S.Seeks.no c.args.s.now) c.args.from c.args.best o
        (take (c.loop-e.e-index + 1) c.args.cell.now) in
        subst F (sym w.found-is)
        (cell_same (g.S.Seeks.yes c.args.s.now)
        (g.S.Seeks.no c.args.s.now) c.args.from c.args.best c.loop-e.found c.args.cell.now c.loop-e.e-index
        c.e-item.result c.loop-e-test.true c.e-item.is c.loop-e.invariant.so w.if-is_better.ensures.no)
  ];
  cost = omega (arith, c.loop-e.invariant.cost, c.is_better.ensures.cost);
}

pub returns-clause-so : goal.returns-clause-so
returns-clause-so g c =
    let F : List Entry → Type 0 =
    λ es. CellSoFar (g.S.Seeks.yes c.args.s.now)
    (g.S.Seeks.no c.args.s.now) c.args.from c.args.best c.loop-e.found es in
    subst F (take_all c.loop-e.e-index c.args.cell.now (omega arith)) c.loop-e.invariant.so
