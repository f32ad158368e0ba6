-- Copper of a design's fixed items and one routed item, and what becomes of it when another takes its place.
use Rattle.std.proofs.Common.{◌≡◌, ℕ, ◌<◌, refl, sym, subst, List, [], ◌∷◌, ◌++◌, All, length, arith, inl, inr}
use Rattle.pcb_model.specs.declared.item.Item.{Item}
use Rattle.pcb_model.specs.declared.design.Design.{Design}
use Rattle.pcb_model.specs.Board.{IsRouted}
use Rattle.pcb_model.specs.Sound.{IsSound, IsItemOf, Serves}
use Rattle.pcb_model.proofs.Laying.{serves_more}
use Rattle.route_lattice.specs.Mesh.{Mesh}
use Rattle.move_maps.specs.declared.map.GroupMap.{GroupMap}
use Rattle.copper_change.specs.Changes.{IsMerge}
use Rattle.move_maps.specs.Maps.{AreMapsOf, FollowFrom}
use Rattle.route_plan.proofs.Serving.{fixed_at, fixed_serve}
use Rattle.tests_board.specs.Laying.{IsLaidOn}

-- the fixed items have lesser ids than their number
pub below : (d : Design) → IsSound d → (n : ℕ) → n ≡ length d.fixed → All (λ (b : Item). b.id < n) d.fixed
below d sound n e = λ k y l. let h = (fixed_at d sound k y l).numbered in omega (arith, h, l, e)

-- the fixed items and a routed one are laid on the design
pub laid_with : (d : Design) (a : Item) (items : List Item) → IsSound d → IsRouted a → IsItemOf d a
    → items ≡ d.fixed ++ a ∷ [] → IsLaidOn d a items
laid_with d a items sound r of is = record {
  of_design = of;
  serves = subst (λ (xs : List Item). Serves xs d) (sym is) (serves_more d d.fixed a (fixed_serve d sound) r of);
  items_are = is;
}

-- an item behind a list, merged
merged : (xs : List Item) (a : Item) → IsMerge (a ∷ []) xs (xs ++ a ∷ [])
merged [] a = inl ([], refl, (refl, refl))
merged (x ∷ xs) a = inr (xs, refl, merged xs a)

-- so is what is equal to them
merged_as : (xs : List Item) (a : Item) (one all : List Item) → one ≡ a ∷ [] → all ≡ xs ++ a ∷ []
    → IsMerge one xs all
merged_as xs a one all e f =
    subst (λ (l : List Item). IsMerge l xs all) (sym e)
    (subst (λ (l : List Item). IsMerge (a ∷ []) xs l) (sym f) (merged xs a))

-- one routed item goes, and another comes in its place
pub exchanged : (d : Design) (m : Mesh) (a b : Item) (gone come old new : List Item) (maps : List GroupMap)
    → IsLaidOn d a old → IsLaidOn d b new → gone ≡ a ∷ [] → come ≡ b ∷ [] → AreMapsOf d m old maps
    → FollowFrom d m gone come new maps
exchanged d m a b gone come old new maps before after gone_is come_is h = record {
  old = old;
  fit = before.serves.items_fit;
  maps_are = h;
  change = record {
    kept = d.fixed;
    before = merged_as d.fixed a gone old gone_is before.items_are;
    after = merged_as d.fixed b come new come_is after.items_are;
  };
}
