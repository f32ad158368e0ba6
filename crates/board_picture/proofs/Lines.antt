-- The open connections of one net more.
use Rattle.std.proofs.Common.{◌≡◌, ◌∙◌, ℕ, ◌+◌, List, [], ◌∷◌, ◌++◌, Some, inl, inr, sym, ap, subst}
use Rattle.std.proofs.Common.{length-append}
use Rattle.std.specs.Prelude.{slice_get}
use Rattle.std.proofs.lemmas.List.{flat_map_more}
use Rattle.pcb_model.specs.declared.item.Item.{Item}
use Rattle.pcb_model.specs.declared.design.Design.{Design}
use Rattle.pcb_islands.specs.declared.net.Island.{Island}
use Rattle.pcb_islands.specs.Islands.{AreIslands}
use Rattle.pcb_islands.proofs.Elements.{look_cases}
use Rattle.board_picture.specs.declared.open.OpenLine.{OpenLine}
use Rattle.board_picture.specs.Open.{lines_of, AreOpenUpTo}

module _ (d : Design) (items : List Item) (n : ℕ) (lines : List OpenLine) (own : List Island)
    (are : AreOpenUpTo d items n lines) (is : AreIslands d items n own) where
  found_more : (net : ℕ) (one : List Island) → slice_get (are.found ++ own ∷ []) net ≡ Some one
      → AreIslands d items net one
  found_more net one at = elim (look_cases are.found own net one at) [
    | inl there ↦ are.islands net one there
    | inr last ↦
        let place : net ≡ n = last.0 ∙ are.found_all in
        subst (λ (k : ℕ). AreIslands d items k one) (sym place)
        (subst (AreIslands d items n) last.1 is)
  ]

  pub lines_more : AreOpenUpTo d items (n + 1) (lines ++ lines_of d own)
  lines_more = record {
    found = are.found ++ own ∷ [];
    found_all = length-append are.found (own ∷ []) ∙ ap (λ (k : ℕ). k + 1) are.found_all;
    islands = found_more;
    lines_are = ap (λ (ls : List OpenLine). ls ++ lines_of d own) are.lines_are
        ∙ flat_map_more (lines_of d) [] are.found own;
  }
