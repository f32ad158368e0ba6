-- The best id so far, entry by entry, cell by cell and row by row.
use Rattle.std.proofs.Common.{◌≡◌, ℕ, ◌+◌, ◌<◌, ◌≤◌, List, [], length, take, Option, Some, None, All, get_or}
use Rattle.std.proofs.Common.{refl, sym, ap, ◌∙◌, subst, inl, inr, ◌⊎◌, arith}
use Prim.Native.Nat.{zero, suc}
use Rattle.std.specs.Prelude.{Contains}
use Rattle.std.proofs.lemmas.List.{length-take, get_or-take}
use Rattle.std.proofs.lemmas.List.Elements.{All-more, All-weaker, All-nil}
use Rattle.pcb_model.specs.declared.item.Item.{Item}
use Rattle.pcb_tiles.specs.declared.cells.Entry.{Entry}
use Rattle.pcb_tiles.specs.declared.block.Block.{Block}
use Rattle.pcb_tiles.specs.Cells.{cell_at, row_in}
use Rattle.pcb_tiles.specs.Searches.{IsUnder, Falls, IsBetter, IsPassed, IsFoundIn, CellSoFar, IsFoundInRow}
use Rattle.pcb_tiles.specs.Searches.{RowSoFar, IsFoundInRows, RowsSoFar, IsRowPassed, AreRowsPassed}
use Rattle.pcb_tiles.proofs.Ranges.{get_or_any}

pub same_or_less : (i j : ℕ) → i < j + 1 → (i ≡ j) ⊎ (i < j)
same_or_less zero zero h = inl refl
same_or_less zero (suc j) h = inr (omega arith)
same_or_less (suc i) zero h = absurd (omega (arith, h))
same_or_less (suc i) (suc j) h =
    elim (same_or_less i j (omega (arith, h))) [ inl e ↦ inl (ap suc e) | inr m ↦ inr (omega (arith, m)) ]

under_less : (best : Option ℕ) (a b : ℕ) → IsUnder best b → a < b → IsUnder best a
under_less None a b h l = tt
under_less (Some m) a b h l = omega (arith, h, l)

pub falls_same : (best : Option ℕ) → Falls best best
falls_same best = record { under = λ id h. h }

pub falls_on : (a b c : Option ℕ) → Falls a b → Falls b c → Falls a c
falls_on a b c h k = record { under = λ id u. k.under id (h.under id u) }

pub falls_to : (Yes : Item → Type 0) (from : ℕ) (best : Option ℕ) (e : Entry) → IsBetter Yes from best e
    → Falls (Some e.id) best
falls_to Yes from best e h = record { under = λ id u. under_less best id e.id h.under u }

passed_fall : (No : Item → Type 0) (from : ℕ) (new old : Option ℕ) → Falls new old → (e : Entry)
    → IsPassed No from old e → IsPassed No from new e
passed_fall No from new old f e h = record { no = λ l u. h.no l (f.under e.id u) }

pub all_passed_fall : (No : Item → Type 0) (from : ℕ) (new old : Option ℕ) (cell : List Entry) → Falls new old
    → All (IsPassed No from old) cell → All (IsPassed No from new) cell
all_passed_fall No from new old cell f h =
    All-weaker (IsPassed No from old) (IsPassed No from new) (passed_fall No from new old f) cell h

passed_itself : (No : Item → Type 0) (from : ℕ) (e : Entry) → IsPassed No from (Some e.id) e
passed_itself No from e = record { no = λ l u. absurd (omega (arith, u)) }

-- ---- one more entry
pub better_passed : (Yes No : Item → Type 0) (from : ℕ) (best : Option ℕ) (cell : List Entry) (i : ℕ) (e : Entry)
    → i < length cell → e ≡ get_or cell i e → IsBetter Yes from best e → All (IsPassed No from best) (take i cell)
    → All (IsPassed No from (Some e.id)) (take (i + 1) cell)
better_passed Yes No from best cell i e l is h p =
    All-more (IsPassed No from (Some e.id)) cell i e l
    (all_passed_fall No from (Some e.id) best (take i cell) (falls_to Yes from best e h) p)
    (subst (IsPassed No from (Some e.id)) is (passed_itself No from e))

pub one_passed : (No : Item → Type 0) (from : ℕ) (best : Option ℕ) (cell : List Entry) (i : ℕ) (e : Entry)
    → i < length cell → e ≡ get_or cell i e → IsPassed No from best e → All (IsPassed No from best) (take i cell)
    → All (IsPassed No from best) (take (i + 1) cell)
one_passed No from best cell i e l is h p =
    All-more (IsPassed No from best) cell i e l p (subst (IsPassed No from best) is h)

contains_take : {X : Type 0} (xs : List X) (i j : ℕ) (x : X) → i ≤ j → Contains (take i xs) x → Contains (take j xs) x
contains_take xs i j x h (k, l, e) =
    let m : (k < i) × (k < length xs) = (omega (arith, l, length-take i xs), omega (arith, l, length-take i xs)) in (
      k,
      omega (arith, m.0, m.1, length-take j xs),
      get_or-take j xs k x (omega (arith, m.0))
          ∙ (sym (get_or-take i xs k x m.0) ∙ e),
    )

pub contains_next : {X : Type 0} (xs : List X) (i : ℕ) (x : X) → i < length xs → x ≡ get_or xs i x
    → Contains (take (i + 1) xs) x
contains_next xs i x l is =
    (i, omega (arith, length-take (i + 1) xs), get_or-take (i + 1) xs i x (omega arith) ∙ sym is)

pub found_here : (Yes : Item → Type 0) (from : ℕ) (best : Option ℕ) (cell : List Entry) (i : ℕ) (e : Entry)
    → i < length cell → e ≡ get_or cell i e → IsBetter Yes from best e
    → IsFoundIn Yes from (Some e.id) (take (i + 1) cell)
found_here Yes from best cell i e l is h = record {
  entry = e;
  there = contains_next cell i e l is;
  best_is = refl;
  at_least = h.at_least;
  yes = h.yes;
}

found_more : (Yes : Item → Type 0) (from : ℕ) (best : Option ℕ) (cell : List Entry) (i : ℕ)
    → IsFoundIn Yes from best (take i cell) → IsFoundIn Yes from best (take (i + 1) cell)
found_more Yes from best cell i h = record {
  entry = h.entry;
  there = contains_take cell i (i + 1) h.entry (omega arith) h.there;
  best_is =
      h.best_is;
  at_least = h.at_least;
  yes = h.yes;
}

pub still_found : (Yes : Item → Type 0) (from : ℕ) (new old : Option ℕ) (cell : List Entry) (i : ℕ)
    → (new ≡ old) ⊎ IsFoundIn Yes from new (take i cell) → (new ≡ old) ⊎ IsFoundIn Yes from new (take (i + 1) cell)
still_found Yes from new old cell i (inl e) = inl e
still_found Yes from new old cell i (inr h) = inr (found_more Yes from new cell i h)

pub cell_none : (Yes No : Item → Type 0) (from : ℕ) (start : Option ℕ) (cell : List Entry)
    → CellSoFar Yes No from start start (take 0 cell)
cell_none Yes No from start cell = record {
  falls = falls_same start;
  passed = All-nil (IsPassed No from start);
  found = inl refl;
}

pub cell_better : (Yes No : Item → Type 0) (from : ℕ) (start best : Option ℕ) (cell : List Entry) (i : ℕ) (e : Entry)
    → i < length cell → e ≡ get_or cell i e → CellSoFar Yes No from start best (take i cell)
    → IsBetter Yes from best e
    → CellSoFar Yes No from start (Some e.id) (take (i + 1) cell)
cell_better Yes No from start best cell i e l is h b = record {
  falls = falls_on (Some e.id) best start (falls_to Yes from best e b) h.falls;
  passed = better_passed Yes No from best cell i e l is b h.passed;
  found = inr (found_here Yes from best cell i e l is b);
}

pub cell_same : (Yes No : Item → Type 0) (from : ℕ) (start best : Option ℕ) (cell : List Entry) (i : ℕ) (e : Entry)
    → i < length cell → e ≡ get_or cell i e → CellSoFar Yes No from start best (take i cell) → IsPassed No from best e
    → CellSoFar Yes No from start best (take (i + 1) cell)
cell_same Yes No from start best cell i e l is h p = record {
  falls = h.falls;
  passed = one_passed No from best cell i e l is p h.passed;
  found = still_found Yes from best start cell i h.found;
}

-- ---- one more cell
pub at_cell : (row : List (List Entry)) (column : ℕ) (x : List Entry) → column < length row → x ≡ get_or row column x
    → x ≡ cell_at row column
at_cell row column x l is = is ∙ get_or_any row column x [] l

pub row_none : (Yes No : Item → Type 0) (from : ℕ) (start : Option ℕ) (row : List (List Entry)) (first : ℕ)
    → RowSoFar Yes No from start start row first first
row_none Yes No from start row first = record {
  falls = falls_same start;
  passed = λ i a b. absurd (omega (arith, a, b));
  found = inl refl;
}

cell_found : (Yes : Item → Type 0) (from : ℕ) (start new old : Option ℕ) (row : List (List Entry)) (first column : ℕ)
    → first ≤ column → (old ≡ start) ⊎ IsFoundInRow Yes from old row first column
    → (new ≡ old) ⊎ IsFoundIn Yes from new (cell_at row column)
    → (new ≡ start) ⊎ IsFoundInRow Yes from new row first (column + 1)
cell_found Yes from start new old row first column l h (inr k) = inr (record {
  column = column;
  from_first = l;
  to_end = omega arith;
  found = k;
})
cell_found Yes from start new old row first column l (inl e) (inl f) = inl (f ∙ e)
cell_found Yes from start new old row first column l (inr h) (inl f) =
    let F : Option ℕ → Type 0 = λ o. IsFoundIn Yes from o (cell_at row h.column) in
    let below = h.to_end in
    inr (record {
      column = h.column;
      from_first = h.from_first;
      to_end = omega (arith, below);
      found =
          subst F (sym f) h.found;
    })

pub row_step : (Yes No : Item → Type 0) (from : ℕ) (start old new : Option ℕ) (row : List (List Entry))
    (first column : ℕ) → first ≤ column → RowSoFar Yes No from start old row first column
    → CellSoFar Yes No from old new (cell_at row column)
    → RowSoFar Yes No from start new row first (column + 1)
row_step Yes No from start old new row first column l h k = record {
  falls = falls_on new old start k.falls h.falls;
  passed = λ i a b. elim (same_or_less i column b) [
    | inl e ↦ let F : ℕ → Type 0 = λ j. All (IsPassed No from new) (cell_at row j) in subst F (sym e) k.passed
    | inr m ↦ all_passed_fall No from new old (cell_at row i) k.falls (h.passed i a m)
  ];
  found = cell_found Yes from start new old row first column l h.found k.found;
}

-- ---- one more row
pub at_row : (grid : List (List (List Entry))) (row : ℕ) (x : List (List Entry)) → row < length grid
    → x ≡ get_or grid row x → x ≡ row_in grid row
at_row grid row x l is = is ∙ get_or_any grid row x [] l

pub rows_none : (Yes No : Item → Type 0) (from : ℕ) (grid : List (List (List Entry))) (b : Block)
    → RowsSoFar Yes No from None grid b b.first_row
rows_none Yes No from grid b = record { passed = λ i j a m. absurd (omega (arith, a, m)); found = inl refl }

row_found : (Yes : Item → Type 0) (from : ℕ) (new old : Option ℕ) (grid : List (List (List Entry))) (b : Block)
    (row : ℕ) → b.first_row ≤ row → (old ≡ None) ⊎ IsFoundInRows Yes from old grid b row
    → (new ≡ old) ⊎ IsFoundInRow Yes from new (row_in grid row) b.first_column (suc b.last_column)
    → (new ≡ None) ⊎ IsFoundInRows Yes from new grid b (row + 1)
row_found Yes from new old grid b row l h (inr k) = inr (record {
  row = row;
  from_first = l;
  to_end = omega arith;
  found = k;
})
row_found Yes from new old grid b row l (inl e) (inl f) = inl (f ∙ e)
row_found Yes from new old grid b row l (inr h) (inl f) =
    let F : Option ℕ → Type 0 = λ o. IsFoundInRow Yes from o (row_in grid h.row) b.first_column (suc b.last_column) in
    let below = h.to_end in
    inr (record {
      row = h.row;
      from_first = h.from_first;
      to_end = omega (arith, below);
      found = subst F (sym f) h.found;
    })

pub rows_step : (Yes No : Item → Type 0) (from : ℕ) (old new : Option ℕ) (grid : List (List (List Entry))) (b : Block)
    (row : ℕ) → b.first_row ≤ row → RowsSoFar Yes No from old grid b row
    → RowSoFar Yes No from old new (row_in grid row) b.first_column (suc b.last_column)
    → RowsSoFar Yes No from new grid b (row + 1)
rows_step Yes No from old new grid b row l h k = record {
  passed = λ i j a m f t. elim (same_or_less i row m) [
    | inl e ↦ let F : ℕ → Type 0 = λ r. All (IsPassed No from new) (cell_at (row_in grid r) j) in
        subst F (sym e) (k.passed j f t)
    | inr n ↦ all_passed_fall No from new old (cell_at (row_in grid i) j) k.falls (h.passed i j a n f t)
  ];
  found = row_found Yes from new old grid b row l h.found k.found;
}

-- ---- nothing sought so far
pub row_passed : (No : Item → Type 0) (row : List (List Entry)) (first column : ℕ) → IsRowPassed No row first column
    → All (IsPassed No 0 None) (cell_at row column) → IsRowPassed No row first (column + 1)
row_passed No row first column h k = record {
  each = λ i a b. elim (same_or_less i column b) [
    | inl e ↦ let F : ℕ → Type 0 = λ j. All (IsPassed No 0 None) (cell_at row j) in subst F (sym e) k
    | inr m ↦ h.each i a m
  ];
}

pub rows_passed : (No : Item → Type 0) (grid : List (List (List Entry))) (b : Block) (row : ℕ)
    → AreRowsPassed No grid b row → IsRowPassed No (row_in grid row) b.first_column (suc b.last_column)
    → AreRowsPassed No grid b (row + 1)
rows_passed No grid b row h k = record {
  each = λ i a m. elim (same_or_less i row m) [
    | inl e ↦ let F : ℕ → Type 0 = λ r. IsRowPassed No (row_in grid r) b.first_column (suc b.last_column) in
        subst F (sym e) k
    | inr n ↦ h.each i a n
  ];
}
