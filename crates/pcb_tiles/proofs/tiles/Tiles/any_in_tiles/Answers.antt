use Rattle.std.proofs.Common.{◌≡◌, ℕ, List, length, None, arith, sym, ap, ◌∙◌, subst}
use Prim.Native.Nat.{suc}
use Rattle.pcb_tiles.specs.declared.cells.Entry.{Entry}
use Rattle.std.specs.List.{sum_by}
use Rattle.pcb_tiles.specs.Tiling.{IsBlockIn, columns_of, rows_of, entries_in}
use Rattle.pcb_tiles.specs.Cells.{grid_of, cell_at, row_in}
use Rattle.pcb_tiles.specs.Searches.{HasBlock, IsMet, IsMetInRows, AreRowsPassed, Sought}
use Rattle.pcb_tiles.proofs.Grids.{has_block, met_of, none_met, cost_is}
use Rattle.pcb_tiles.proofs.Ranges.{on_true, on_false}
use Rattle.pcb_tiles.specs.Shelves.{flat}
use Rattle.pcb_tiles.specs.Spread.{Spread}
use Rattle.pcb_tiles.proofs.tiles.Tiles.any_in_tiles.Goals as goal

pub any_in_rows-requires-clause-rows : goal.any_in_rows-requires-clause-rows
any_in_rows-requires-clause-rows g c =
    let block : IsBlockIn c.self.inside.area c.args.b.now =
    subst (λ (t : Spread). IsBlockIn t.area c.args.b.now) (sym c.self.view_is) c.requires.block in
    let items = flat c.self.inside.shelf in
    let e : c.as_slice.result.now ≡ grid_of c.self.inside.area items =
    c.as_slice.ensures ∙ (c.get.ensures ∙ c.self.invariant.grid_is) in
    subst (λ (rows : List (List (List Entry))). HasBlock rows c.args.b.now) (sym e)
    (has_block c.self.inside.area items c.args.b.now c.self.invariant.fit block)

pub returns-clause-yes : goal.returns-clause-yes
returns-clause-yes g c =
    let block : IsBlockIn c.self.inside.area c.args.b.now =
    subst (λ (t : Spread). IsBlockIn t.area c.args.b.now) (sym c.self.view_is) c.requires.block in
    let e : c.as_slice.result.now ≡ grid_of c.self.inside.area (flat c.self.inside.shelf) =
    c.as_slice.ensures ∙ (c.get.ensures ∙ c.self.invariant.grid_is) in
    let yes = g.S.Seeks.yes c.args.s.now in
    let F : List (List (List Entry)) → Type 0 = λ x. IsMetInRows yes x c.args.b.now in
    on_true c.any_in_rows.result
    (λ m. subst (λ (t : Spread). IsMet yes t.items) c.self.view_is (met_of yes c.self.inside.area
    (flat c.self.inside.shelf) c.args.b.now block (subst F e m)))
    c.any_in_rows.ensures.yes

pub returns-clause-no : goal.returns-clause-no
returns-clause-no g c =
    let block : IsBlockIn c.self.inside.area c.args.b.now =
    subst (λ (t : Spread). IsBlockIn t.area c.args.b.now) (sym c.self.view_is) c.requires.block in
    let e : c.as_slice.result.now ≡ grid_of c.self.inside.area (flat c.self.inside.shelf) =
    c.as_slice.ensures ∙ (c.get.ensures ∙ c.self.invariant.grid_is) in
    let no = g.S.Seeks.no c.args.s.now in
    let F : List (List (List Entry)) → Type 0 = λ x. AreRowsPassed no x c.args.b.now (suc c.args.b.now.last_row) in
    on_false c.any_in_rows.result
    (λ m. subst (λ (t : Spread). Sought (g.S.Seeks.yes c.args.s.now) no 0 t.area c.args.b.now t.items None)
    c.self.view_is (none_met (g.S.Seeks.yes c.args.s.now) no c.self.inside.area (flat c.self.inside.shelf)
    c.args.b.now block
    (subst F e m)))
    c.any_in_rows.ensures.no

pub returns-clause-cost : goal.returns-clause-cost
returns-clause-cost g c =
    let block : IsBlockIn c.self.inside.area c.args.b.now =
    subst (λ (t : Spread). IsBlockIn t.area c.args.b.now) (sym c.self.view_is) c.requires.block in
    let e : c.as_slice.result.now ≡ grid_of c.self.inside.area (flat c.self.inside.shelf) =
    c.as_slice.ensures ∙ (c.get.ensures ∙ c.self.invariant.grid_is) in
    let F : List (List (List Entry)) → ℕ =
    λ x. sum_by (λ row. sum_by (λ column. length (cell_at (row_in x row) column)) (columns_of c.args.b.now))
    (rows_of c.args.b.now) in
    let n : F c.as_slice.result.now ≡ F (grid_of c.self.inside.area (flat c.self.inside.shelf)) = ap F e in
    let m = cost_is c.self.inside.area (flat c.self.inside.shelf) c.args.b.now block.columns block.order
    block.columns_within block.rows_within in
    let same = ap (λ (t : Spread). entries_in t.area t.items c.args.b.now) c.self.view_is in
    omega (arith, n, m, same, c.any_in_rows.ensures.cost)
