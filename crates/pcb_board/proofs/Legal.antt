-- A legal list of which some routed items go while others come is legal where the new ones agree with what stays and
-- with each other.
use Rattle.std.proofs.Common.{◌≡◌, ◌⊎◌, ℕ, Bool, true, false, refl, sym, ◌∙◌, ap, List, ◌++◌}
use Rattle.std.proofs.Common.{get_or}
use Rattle.std.specs.Prelude.{not}
use Rattle.std.specs.List.{All, AllPairs, Contains, filter}
use Rattle.std.proofs.lemmas.List.{append-nil}
use Rattle.std.proofs.lemmas.List.Kept.{AllPairs-filter}
use Rattle.std.proofs.lemmas.List.Elements.{All-append, All-filter, filter-append}
use Rattle.pcb_model.specs.declared.item.Item.{Item}
use Rattle.pcb_model.specs.declared.design.Design.{Design}
use Rattle.pcb_model.specs.Pairs.{Agrees}
use Rattle.pcb_model.specs.Board.{IsLegal, IsRouted, IsLaid, IsMade, AreInside, is_fixed}
use Rattle.board_offers.specs.Items.{names, without}
use Rattle.board_offers.proofs.Lists.{pairs_append, stayed, passes, not_true, filtered_twice, none_pass}

-- what is asked of the items that go and of those that come
pub record Exchanges (d : Design) (items : List Item) (ids : List ℕ) (come : List Item) : Type 0 where
  pub gone_routed : All (λ (a : Item). names ids a.id ≡ true → IsRouted a) items
  pub come_routed : All IsRouted come
  pub agree : (a : Item) → Contains items a → names ids a.id ≡ false → All (Agrees d a) come
  pub agree_new : AllPairs (Agrees d) come
  pub inside : All (λ (a : Item). AreInside d.bounds a.pieces) come
  pub laid : All (IsLaid d) come
  pub made : All (IsMade d) come

abbrev Paired : Design → Item → Item → Type 0
Paired d a b = IsRouted a ⊎ IsRouted b → Agrees d a b

abbrev stays : List ℕ → Item → Bool
stays ids a = not (names ids a.id)

not_false : (b : Bool) → not b ≡ false → b ≡ true
not_false true e = refl
not_false false e = sym e

pub exchanged_legal : (d : Design) (items come : List Item) (ids : List ℕ) → IsLegal d items
    → Exchanges d items ids come → IsLegal d (without ids items ++ come)
exchanged_legal d items come ids legal h = record {
  agree = pairs_append (Paired d) (without ids items) come
      (AllPairs-filter (Paired d) (stays ids) items legal.agree)
      (λ i j x before within r. h.agree_new i j x before within)
      (λ a there k x within r. h.agree a (stayed (stays ids) items a there)
      (not_true (names ids a.id) (passes (stays ids) items a there)) k x within);
  inside = All-append (λ (a : Item). IsRouted a → AreInside d.bounds a.pieces) (without ids items) come
      (All-filter (stays ids) (λ (a : Item). IsRouted a → AreInside d.bounds a.pieces) items legal.inside)
      (λ k x within r. h.inside k x within);
  laid = All-append (λ (a : Item). IsRouted a → IsLaid d a) (without ids items) come
      (All-filter (stays ids) (λ (a : Item). IsRouted a → IsLaid d a) items legal.laid)
      (λ k x within r. h.laid k x within);
  made = All-append (λ (a : Item). IsRouted a → IsMade d a) (without ids items) come
      (All-filter (stays ids) (λ (a : Item). IsRouted a → IsMade d a) items legal.made)
      (λ k x within r. h.made k x within);
  fixed_stay = filter-append is_fixed (without ids items) come
      ∙ ap (λ (xs : List Item). filter is_fixed (without ids items) ++ xs) (none_pass is_fixed come h.come_routed)
      ∙ append-nil (filter is_fixed (without ids items))
      ∙ filtered_twice (stays ids) is_fixed items
      (λ k x within e. h.gone_routed k x within (not_false (names ids (get_or items k x).id) e))
      ∙ legal.fixed_stay;
}
