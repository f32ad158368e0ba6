-- Items that are anchored at a node, found id by id and island by island.
use Rattle.std.proofs.Common.{◌≡◌, ℕ, ◌+◌, ◌<◌, ◌≤◌, List, length, take, get_or, refl, sym, ◌∙◌, subst, All}
use Rattle.std.specs.Prelude.{Contains}
use Rattle.std.proofs.lemmas.List.{take_all}
use Rattle.std.proofs.lemmas.List.Elements.{All-contains, All-more}
use Rattle.pcb_model.specs.declared.item.Item.{Item}
use Rattle.pcb_model.specs.declared.design.Design.{Design}
use Rattle.pcb_model.specs.Copper.{Ascends}
use Rattle.pcb_islands.specs.declared.net.Island.{Island}
use Rattle.route_lattice.specs.Mesh.{Mesh}
use Rattle.route_lattice.specs.Anchors.{Anchors, AnchorsAmong}
use Rattle.cut_certificate.specs.Cuts.{IsGoal}
use Rattle.pcb_islands.proofs.Joined.{one_item}
use Rattle.wide_offer.specs.inner.Routes.{NoneAnchored}

module _ (d : Design) (m : Mesh) (items : List Item) (node : ℕ) where
  -- no item has the id
  pub none_there : (id : ℕ) → All (λ (b : Item). b.id ≡ id → ⊥) items → NoneAnchored d m items node id
  none_there id none a there e anchors = All-contains (λ (b : Item). b.id ≡ id → ⊥) items a none there e

  -- the item that has it isn't anchored there
  pub not_there : (id : ℕ) (b : Item) → Ascends items → Contains items b → b.id ≡ id → ¬ (Anchors d m node b)
      → NoneAnchored d m items node id
  not_there id b up b_in is not a there e anchors = not (subst (Anchors d m node)
      (one_item items up a b there b_in (e ∙ sym is)) anchors)

  pub none_more : (ids : List ℕ) (i : ℕ) → i < length ids → All (NoneAnchored d m items node) (take i ids)
      → NoneAnchored d m items node (get_or ids i 0) → All (NoneAnchored d m items node) (take (i + 1) ids)
  none_more ids i within all h = All-more (NoneAnchored d m items node) ids i 0 within all h

  pub none_among : (ids : List ℕ) (i : ℕ) → length ids ≤ i → All (NoneAnchored d m items node) (take i ids)
      → ¬ (AnchorsAmong d m items ids node)
  none_among ids i end all h =
      All-contains (NoneAnchored d m items node) ids h.item.id
      (subst (λ (xs : List ℕ). All (NoneAnchored d m items node) xs)
      (take_all i ids end) all) h.asked h.item h.there refl h.anchors

  abbrev pub NotIn : Island → Type 0
  NotIn o = ¬ (AnchorsAmong d m items o.items node)

  pub others_more : (others : List Island) (i : ℕ) (o e : Island) → i < length others → o ≡ get_or others i e
      → All NotIn (take i others) → NotIn o → All NotIn (take (i + 1) others)
  others_more others i o e within is all h = All-more NotIn others i e within all (subst NotIn is h)

  pub not_among : (others : List Island) (i : ℕ) → length others ≤ i → All NotIn (take i others)
      → IsGoal d m items others node → ⊥
  not_among others i end all goal =
      let o = goal.anchors in
      All-contains NotIn others o.1 (subst (λ (xs : List Island). All NotIn xs) (take_all i others end) all)
      (o.0, o.2, o.3) o.4
