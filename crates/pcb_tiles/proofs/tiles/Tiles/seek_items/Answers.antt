use Rattle.std.proofs.Common.{◌≡◌, ℕ, List, All, arith, sym, ap, ◌∙◌, subst}
use Rattle.std.specs.Prelude.{MatchOption}
use Rattle.std.specs.List.{count_by}
use Rattle.pcb_model.specs.declared.item.Item.{Item}
use Rattle.pcb_model.specs.Bounds.{IsItemFit}
use Rattle.pcb_tiles.specs.Tiling.{IsBlockIn, entries_in}
use Rattle.pcb_tiles.specs.Searches.{Sought}
use Rattle.pcb_tiles.specs.Scans.{is_entered, IsUnsought, IsFirstHit}
use Rattle.pcb_tiles.specs.Shelves.{flat}
use Rattle.pcb_tiles.specs.Spread.{Spread}
use Rattle.pcb_tiles.proofs.Scans.{counted, sought_is}
use Rattle.pcb_tiles.proofs.tiles.Tiles.seek_items.Goals as goal

pub first_in_chunks-requires-clause-fit : goal.first_in_chunks-requires-clause-fit
first_in_chunks-requires-clause-fit g c =
    subst (λ (x : List (List Item)). All IsItemFit (flat x)) (sym (c.as_slice.ensures ∙ c.get.ensures))
    c.self.invariant.fit

pub returns-clause-so : goal.returns-clause-so
returns-clause-so g c =
    let yes = g.S.Seeks.yes c.args.s.now in
    let no = g.S.Seeks.no c.args.s.now in
    let area = c.self.inside.area in
    let b = c.args.b.now in
    let r = c.first_in_chunks.result in
    let e : c.as_slice.result.now ≡ c.self.inside.shelf = c.as_slice.ensures ∙ c.get.ensures in
    let F : List (List Item) → Type 0 =
    λ x. MatchOption r (All (IsUnsought no c.args.from area b) (flat x))
    (IsFirstHit yes no c.args.from area b (flat x)) in
    subst (λ (t : Spread). Sought yes no c.args.from t.area b t.items r) c.self.view_is
    (sought_is yes no c.args.from area b (flat c.self.inside.shelf) r c.self.invariant.ascends
    (subst F e c.first_in_chunks.ensures.so))

pub returns-clause-cost : goal.returns-clause-cost
returns-clause-cost g c =
    let area = c.self.inside.area in
    let b = c.args.b.now in
    let block : IsBlockIn area b = subst (λ (t : Spread). IsBlockIn t.area b) (sym c.self.view_is) c.requires.block in
    let e : c.as_slice.result.now ≡ c.self.inside.shelf = c.as_slice.ensures ∙ c.get.ensures in
    let F : List (List Item) → ℕ = λ x. count_by (is_entered area b) (flat x) in
    let n : F c.as_slice.result.now ≡ F c.self.inside.shelf = ap F e in
    let m = counted area b (flat c.self.inside.shelf) c.self.invariant.area_is block in
    let same = ap (λ (t : Spread). entries_in t.area t.items b) c.self.view_is in
    omega (arith, n, m, same, c.first_in_chunks.ensures.cost)
