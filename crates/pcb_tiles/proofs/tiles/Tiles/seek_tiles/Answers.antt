use Rattle.std.proofs.Common.{◌≡◌, ℕ, List, length, arith, sym, ap, ◌∙◌, subst}
use Prim.Native.Nat.{suc}
use Rattle.std.specs.List.{sum_by}
use Rattle.pcb_tiles.specs.declared.cells.Entry.{Entry}
use Rattle.pcb_tiles.specs.Tiling.{IsBlockIn, columns_of, rows_of, entries_in}
use Rattle.pcb_tiles.specs.Cells.{grid_of, cell_at, row_in}
use Rattle.pcb_tiles.specs.Searches.{HasBlock, RowsSoFar, Sought}
use Rattle.pcb_tiles.proofs.Grids.{has_block, sought_of, cost_is}
use Rattle.pcb_tiles.specs.Shelves.{flat}
use Rattle.pcb_tiles.specs.Spread.{Spread}
use Rattle.pcb_tiles.proofs.tiles.Tiles.seek_tiles.Goals as goal

pub best_in_rows-requires-clause-rows : goal.best_in_rows-requires-clause-rows
best_in_rows-requires-clause-rows g c =
    let block : IsBlockIn c.self.inside.area c.args.b.now =
    subst (λ (t : Spread). IsBlockIn t.area c.args.b.now) (sym c.self.view_is) c.requires.block in
    let items = flat c.self.inside.shelf in
    let e : c.as_slice.result.now ≡ grid_of c.self.inside.area items =
    c.as_slice.ensures ∙ (c.get.ensures ∙ c.self.invariant.grid_is) in
    subst (λ (rows : List (List (List Entry))). HasBlock rows c.args.b.now) (sym e)
    (has_block c.self.inside.area items c.args.b.now c.self.invariant.fit block)

pub returns-clause-so : goal.returns-clause-so
returns-clause-so g c =
    let block : IsBlockIn c.self.inside.area c.args.b.now =
    subst (λ (t : Spread). IsBlockIn t.area c.args.b.now) (sym c.self.view_is) c.requires.block in
    let e : c.as_slice.result.now ≡ grid_of c.self.inside.area (flat c.self.inside.shelf) =
    c.as_slice.ensures ∙ (c.get.ensures ∙ c.self.invariant.grid_is) in
    let F : List (List (List Entry)) → Type 0 =
    λ x. RowsSoFar (g.S.Seeks.yes c.args.s.now)
    (g.S.Seeks.no c.args.s.now) c.args.from c.best_in_rows.result x c.args.b.now (suc c.args.b.now.last_row) in
    subst (λ (t : Spread). Sought (g.S.Seeks.yes c.args.s.now) (g.S.Seeks.no c.args.s.now) c.args.from t.area
    c.args.b.now
    t.items c.best_in_rows.result) c.self.view_is
    (sought_of (g.S.Seeks.yes c.args.s.now) (g.S.Seeks.no c.args.s.now) c.args.from c.self.inside.area
    (flat c.self.inside.shelf) c.args.b.now c.best_in_rows.result block
    (subst F e c.best_in_rows.ensures.so))

pub returns-clause-cost : goal.returns-clause-cost
returns-clause-cost g c =
    let block : IsBlockIn c.self.inside.area c.args.b.now =
    subst (λ (t : Spread). IsBlockIn t.area c.args.b.now) (sym c.self.view_is) c.requires.block in
    let e : c.as_slice.result.now ≡ grid_of c.self.inside.area (flat c.self.inside.shelf) =
    c.as_slice.ensures ∙ (c.get.ensures ∙ c.self.invariant.grid_is) in
    let F : List (List (List Entry)) → ℕ =
    λ x. sum_by (λ row. sum_by (λ column. length (cell_at (row_in x row) column)) (columns_of c.args.b.now))
    (rows_of c.args.b.now) in
    let n : F c.as_slice.result.now ≡ F (grid_of c.self.inside.area (flat c.self.inside.shelf)) = ap F e in
    let m = cost_is c.self.inside.area (flat c.self.inside.shelf) c.args.b.now block.columns block.order
    block.columns_within block.rows_within in
    let same = ap (λ (t : Spread). entries_in t.area t.items c.args.b.now) c.self.view_is in
    omega (arith, n, m, same, c.best_in_rows.ensures.cost)
