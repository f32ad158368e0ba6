use Rattle.std.proofs.Common.{◌≡◌, ◌≤◌, ◌+◌, ◌-◌, ℕ, List, length, All, None, arith, ap, ◌∙◌, subst}
use Prim.Native.Nat.{suc}
use Rattle.std.specs.List.{range_with_len, sum_by}
use Rattle.pcb_tiles.specs.declared.cells.Entry.{Entry}
use Rattle.pcb_tiles.specs.Cells.{cell_at}
use Rattle.pcb_tiles.specs.Searches.{IsPassed, IsMetIn}
use Rattle.pcb_tiles.proofs.Ranges.{sum_range_more, sum_range_none, sum_range_part}
use Rattle.pcb_tiles.proofs.Best.{at_cell, row_passed}
use Rattle.pcb_tiles.proofs.search.any_in_row.Goals as goal

pub loop-at-init : goal.loop-at-init
loop-at-init g c = record {
  passed = record { each = λ i a b. absurd (omega (arith, a, b)) };
  cost = omega (arith, sum_range_none (λ column. length (cell_at c.args.row.now column)) c.args.b.now.first_column);
}

pub returns-then-any_in_cell-clause-yes : goal.returns-then-any_in_cell-clause-yes
returns-then-any_in_cell-clause-yes g c =
    let e : c.as_slice.result.now ≡ cell_at c.args.row.now c.loop-at.at =
    c.as_slice.ensures
    ∙ (c.get.ensures ∙ at_cell c.args.row.now c.loop-at.at c.index-row-at.result
    (omega (arith, c.loop-at-test.true, c.requires.row.within)) c.index-row-at.is) in
    record {
      column = c.loop-at.at;
      from_first = c.loop-at.auto.at;
      to_end = omega (arith, c.loop-at-test.true);
      met = subst (IsMetIn (g.S.Seeks.yes c.args.s.now)) e c.if-any_in_cell.ensures.yes;
    }

pub returns-then-any_in_cell-clause-cost : goal.returns-then-any_in_cell-clause-cost
returns-then-any_in_cell-clause-cost g c =
    let e : c.as_slice.result.now ≡ cell_at c.args.row.now c.loop-at.at =
    c.as_slice.ensures
    ∙ (c.get.ensures ∙ at_cell c.args.row.now c.loop-at.at c.index-row-at.result
    (omega (arith, c.loop-at-test.true, c.requires.row.within)) c.index-row-at.is) in
    let f : ℕ → ℕ = λ column. length (cell_at c.args.row.now column) in
    let n : length c.as_slice.result.now ≡ f c.loop-at.at = ap length e in
    let s = sum_range_more f c.args.b.now.first_column c.loop-at.at c.loop-at.auto.at in
    let part = sum_range_part f c.args.b.now.first_column ((c.loop-at.at + 1) - c.args.b.now.first_column)
    (suc c.args.b.now.last_column - c.args.b.now.first_column) (omega (arith, c.loop-at-test.true)) in
    omega (arith, s, n, part, c.any_in_cell.ensures.cost, c.loop-at.invariant.cost)

pub loop-at-preserved : goal.loop-at-preserved
loop-at-preserved g c =
    let e : c.as_slice.result.now ≡ cell_at c.args.row.now c.loop-at.at =
    c.as_slice.ensures
    ∙ (c.get.ensures ∙ at_cell c.args.row.now c.loop-at.at c.index-row-at.result
    (omega (arith, c.loop-at-test.true, c.requires.row.within)) c.index-row-at.is) in
    let F : List Entry → Type 0 = All (IsPassed (g.S.Seeks.no c.args.s.now) 0 None) in
    let f : ℕ → ℕ = λ column. length (cell_at c.args.row.now column) in
    let n : length c.as_slice.result.now ≡ f c.loop-at.at = ap length e in
    let s = sum_range_more f c.args.b.now.first_column c.loop-at.at c.loop-at.auto.at in
    record {
      passed = row_passed (g.S.Seeks.no c.args.s.now) c.args.row.now c.args.b.now.first_column c.loop-at.at
          c.loop-at.invariant.passed (subst F e c.if-any_in_cell.ensures.no);
      cost = omega (arith, s, n, c.any_in_cell.ensures.cost, c.loop-at.invariant.cost);
    }

pub returns-clause-no : goal.returns-clause-no
returns-clause-no g c = record {
  each = λ i a b. c.loop-at.invariant.passed.each i a (omega (arith, b, c.loop-at-test.false));
}

pub returns-clause-cost : goal.returns-clause-cost
returns-clause-cost g c =
    let e : c.loop-at.at ≡ suc c.args.b.now.last_column =
    omega (arith, c.loop-at-test.false, c.loop-at.auto.at-end, c.requires.row.columns) in
    let F : ℕ → Type 0 =
    λ n. c.loop-at.steps ≤ c.args.steps.now + sum_by (λ column. length (cell_at c.args.row.now column))
    (range_with_len c.args.b.now.first_column (n - c.args.b.now.first_column)) in
    subst F e c.loop-at.invariant.cost
