use Rattle.std.proofs.Common.{rules, ◌≡◌, ◌≤◌, ◌+◌, ◌-◌, ℕ, List, length, arith, ap, ◌∙◌, subst}
use Prim.Native.Nat.{suc}
use Rattle.std.specs.List.{range_with_len, sum_by}
use Rattle.pcb_tiles.specs.declared.cells.Entry.{Entry}
use Rattle.pcb_tiles.specs.Tiling.{columns_of}
use Rattle.pcb_tiles.specs.Cells.{cell_at, row_in}
use Rattle.pcb_tiles.specs.Searches.{IsRowPassed, IsMetInRow}
use Rattle.pcb_tiles.proofs.Ranges.{sum_range_more, sum_range_none, sum_range_part}
use Rattle.pcb_tiles.proofs.Best.{at_row, rows_passed}
use Rattle.pcb_tiles.proofs.search.any_in_rows.Goals as goal

pub loop-at-init : goal.loop-at-init
loop-at-init g c = record {
  passed = record { each = λ i a b. absurd (omega (arith, a, b)) };
  cost = omega (
    arith,
    sum_range_none
        (λ row. sum_by (λ column. length (cell_at (row_in c.args.rows.now row) column)) (columns_of c.args.b.now))
        c.args.b.now.first_row,
  );
}

pub returns-then-any_in_row-clause-yes : goal.returns-then-any_in_row-clause-yes
returns-then-any_in_row-clause-yes g c =
    let e : c.as_slice.result.now ≡ row_in c.args.rows.now c.loop-at.at =
    c.as_slice.ensures
    ∙ (c.get.ensures ∙ at_row c.args.rows.now c.loop-at.at c.index-rows-at.result
    (omega (arith, c.loop-at-test.true, c.requires.rows.within)) c.index-rows-at.is) in
    let b = c.args.b.now in
    let F : List (List Entry) → Type 0 =
    λ es. IsMetInRow (g.S.Seeks.yes c.args.s.now) es b.first_column (suc b.last_column) in
    record {
      row = c.loop-at.at;
      from_first = c.loop-at.auto.at;
      to_end = omega (arith, c.loop-at-test.true);
      met = subst F e c.if-any_in_row.ensures.yes;
    }

pub returns-then-any_in_row-clause-cost : goal.returns-then-any_in_row-clause-cost
returns-then-any_in_row-clause-cost g c =
    let e : c.as_slice.result.now ≡ row_in c.args.rows.now c.loop-at.at =
    c.as_slice.ensures
    ∙ (c.get.ensures ∙ at_row c.args.rows.now c.loop-at.at c.index-rows-at.result
    (omega (arith, c.loop-at-test.true, c.requires.rows.within)) c.index-rows-at.is) in
    let cost_of : List (List Entry) → ℕ =
    λ r. sum_by (λ column. length (cell_at r column)) (columns_of c.args.b.now) in
    let f : ℕ → ℕ = λ row. cost_of (row_in c.args.rows.now row) in
    let n : cost_of c.as_slice.result.now ≡ f c.loop-at.at = ap cost_of e in
    let s = sum_range_more f c.args.b.now.first_row c.loop-at.at c.loop-at.auto.at in
    let part = sum_range_part f c.args.b.now.first_row ((c.loop-at.at + 1) - c.args.b.now.first_row)
    (suc c.args.b.now.last_row - c.args.b.now.first_row) (omega (arith, c.loop-at-test.true)) in
    omega (arith, s, n, part, c.any_in_row.ensures.cost, c.loop-at.invariant.cost)

pub loop-at-preserved : goal.loop-at-preserved
loop-at-preserved g c =
    let e : c.as_slice.result.now ≡ row_in c.args.rows.now c.loop-at.at =
    c.as_slice.ensures
    ∙ (c.get.ensures ∙ at_row c.args.rows.now c.loop-at.at c.index-rows-at.result
    (omega (arith, c.loop-at-test.true, c.requires.rows.within)) c.index-rows-at.is) in
    let F : List (List Entry) → Type 0 =
    λ es. IsRowPassed (g.S.Seeks.no c.args.s.now) es c.args.b.now.first_column (suc c.args.b.now.last_column) in
    let cost_of : List (List Entry) → ℕ =
    λ r. sum_by (λ column. length (cell_at r column)) (columns_of c.args.b.now) in
    let f : ℕ → ℕ = λ row. cost_of (row_in c.args.rows.now row) in
    let n : cost_of c.as_slice.result.now ≡ f c.loop-at.at = ap cost_of e in
    let s = sum_range_more f c.args.b.now.first_row c.loop-at.at c.loop-at.auto.at in
    record {
      passed = rows_passed (g.S.Seeks.no c.args.s.now) c.args.rows.now c.args.b.now c.loop-at.at
          c.loop-at.invariant.passed (subst F e c.if-any_in_row.ensures.no);
      cost = omega (arith, s, n, c.any_in_row.ensures.cost, c.loop-at.invariant.cost);
    }

pub returns-clause-no : goal.returns-clause-no
returns-clause-no g c = record {
  each = λ i a b. c.loop-at.invariant.passed.each i a (omega (arith, b, c.loop-at-test.false));
}

pub returns-clause-cost : goal.returns-clause-cost
returns-clause-cost g c =
    let e : c.loop-at.at ≡ suc c.args.b.now.last_row =
    omega (arith, c.loop-at-test.false, c.loop-at.auto.at-end, c.requires.rows.order) in
    let F : ℕ → Type 0 =
    λ n. c.loop-at.steps ≤ c.args.steps.now + sum_by
    (λ row. sum_by (λ column. length (cell_at (row_in c.args.rows.now row) column)) (columns_of c.args.b.now))
    (range_with_len c.args.b.now.first_row (n - c.args.b.now.first_row)) in
    subst F e c.loop-at.invariant.cost

pub any_in_row-requires-clause-row : goal.any_in_row-requires-clause-row
any_in_row-requires-clause-row g c =
    record { entries = search rules; within = search rules; columns = c.requires.rows.columns }
