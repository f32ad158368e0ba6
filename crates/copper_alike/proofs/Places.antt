-- The same by the places of islands: what shuts one in on some copper shuts the one at its place in on the other.
use Rattle.std.proofs.Common.{◌≡◌, ℕ, zero, suc, List, [], ◌∷◌, take, drop, Some, sym, ◌∙◌, ap, refl, All}
use Rattle.std.specs.Prelude.{slice_get, map, remove}
use Rattle.std.proofs.lemmas.List.Elements.{All-append, All-take, All-drop}
use Rattle.std.proofs.lemmas.Option.{same_Some, slice_get-map}
use Rattle.std.specs.Option.{option_map}
use Rattle.pcb_model.specs.declared.item.Item.{Item}
use Rattle.pcb_model.specs.declared.design.Design.{Design}
use Rattle.pcb_model.specs.Pairs.{Agrees, AreTouching}
use Rattle.pcb_model.specs.Copper.{Ascends}
use Rattle.pcb_model.specs.Sound.{IsSound, Serves}
use Rattle.pcb_islands.specs.declared.net.Island.{Island}
use Rattle.pcb_islands.specs.Islands.{AreIslands, IsIsland, pins_of}
use Rattle.pcb_islands.proofs.Gathering.{island_at}
use Rattle.route_lattice.specs.Mesh.{Mesh}
use Rattle.copper_alike.specs.Twins.{ShowSame}
use Rattle.copper_alike.specs.Sets.{IsCutSet}
use Rattle.copper_alike.proofs.Classes.{pins_in, islands_alike}
use Rattle.copper_alike.proofs.Sets.{set_alike}

remove-map : (xs : List Island) (k : ℕ) → map pins_in (remove xs k) ≡ remove (map pins_in xs) k
remove-map [] zero = refl
remove-map [] (suc k) = refl
remove-map (x ∷ xs) zero = refl
remove-map (x ∷ xs) (suc k) = ap (λ (ys : List (List ℕ)). x.pins ∷ ys) (remove-map xs k)

All-remove : (P : Island → Type 0) (xs : List Island) (k : ℕ) → All P xs → All P (remove xs k)
All-remove P xs k h = All-append P (take k xs) (drop (suc k) xs) (All-take P k xs h) (All-drop P (suc k) xs h)

module _ (touch_back : (a b : Item) → AreTouching a b → AreTouching b a)
    (agree_back : (d : Design) (a b : Item) → Agrees d a b → Agrees d b a) (d : Design) (m : Mesh) (net : ℕ)
    (sound : IsSound d) (xs ys : List Item) (xs_rise : Ascends xs) (ys_rise : Ascends ys) (xs_serve : Serves xs d)
    (ys_serve : Serves ys d) (same : ShowSame xs ys) (old found : List Island) (was : AreIslands d xs net old)
    (is : AreIslands d ys net found) where
  pub set_at : (k : ℕ) (s t : Island) → slice_get old k ≡ Some s → slice_get found k ≡ Some t → (nodes : List ℕ)
      → IsCutSet d m xs s (remove old k) nodes → IsCutSet d m ys t (remove found k) nodes
  set_at k s t p q nodes set =
      let one : map pins_in old ≡ map pins_in found =
      islands_alike touch_back d net sound xs ys xs_serve ys_serve same old found was is in
      set_alike touch_back agree_back d m net sound (pins_of d net) xs ys xs_rise ys_rise xs_serve ys_serve same s t
      (remove old k) (remove found k) (island_at d xs net (pins_of d net) old k s was p)
      (island_at d ys net (pins_of d net) found k t is q)
      (All-remove (IsIsland d xs net (pins_of d net)) old k was.each)
      (All-remove (IsIsland d ys net (pins_of d net)) found k is.each)
      (same_Some s.pins t.pins
      (sym (slice_get-map pins_in old k ∙ ap (option_map pins_in) p)
      ∙ ap (λ (pss : List (List ℕ)). slice_get pss k) one
      ∙ slice_get-map pins_in found k ∙ ap (option_map pins_in) q))
      (remove-map old k ∙ ap (λ (pss : List (List ℕ)). remove pss k) one ∙ sym (remove-map found k)) nodes set
