-- The islands of the nets, net by net.
use Rattle.std.proofs.Common.{◌≡◌, ◌∙◌, inl, inr, ℕ, ◌+◌, List, [], ◌∷◌, ◌++◌, ap, arith, length-append}
use Rattle.std.proofs.Common.{refl, subst, sym}
use Rattle.std.proofs.lemmas.Option.{slice_get_within}
use Rattle.pcb_model.specs.declared.item.Item.{Item}
use Rattle.pcb_model.specs.declared.design.Design.{Design}
use Rattle.pcb_islands.specs.declared.net.Island.{Island}
use Rattle.pcb_islands.specs.Islands.{AreIslands}
use Rattle.pcb_islands.proofs.Elements.{look_cases}
use Rattle.copper_check.specs.inner.Searching.{AreIslandsBelow}

-- those of no net
pub listed_none : (d : Design) (items : List Item) → AreIslandsBelow d items 0 []
listed_none d items = record { all = refl; each = λ net own at. absurd (omega (arith, slice_get_within [] net own at)) }

-- and of one net more
pub listed_more : (d : Design) (items : List Item) (n : ℕ) (found more : List (List Island)) (own : List Island)
    → AreIslandsBelow d items n found → AreIslands d items n own → more ≡ found ++ own ∷ []
    → AreIslandsBelow d items (n + 1) more
listed_more d items n found more own before is e = subst (AreIslandsBelow d items (n + 1)) (sym e) (record {
  all = length-append found (own ∷ []) ∙ ap (λ (k : ℕ). k + 1) before.all;
  each = λ net one at. elim (look_cases found own net one at) [
    | inl there ↦ before.each net one there
    | inr last ↦
        subst (λ (k : ℕ). AreIslands d items k one) (sym (last.0 ∙ before.all)) (subst (AreIslands d items n) last.1 is)
  ];
})
