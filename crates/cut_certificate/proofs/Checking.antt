-- What a check has tested item by item, node by node.
use Rattle.std.proofs.Common.{◌≡◌, ℕ, ◌<◌, List, length, get_or, Bool, true, sym, refl, ap, ◌∙◌, subst, inl, inr, arith}
use Rattle.std.proofs.Common.{All}
use Rattle.std.specs.Prelude.{Contains, ◌↔◌, IsTrue}
use Rattle.std.proofs.lemmas.Bool.{cases_lt}
use Rattle.std.proofs.lemmas.List.{get_or_default}
use Rattle.std.proofs.lemmas.List.Elements.{All-contains, Contains-get_or}
use Rattle.pcb_model.specs.declared.item.Item.{Item}
use Rattle.pcb_model.specs.Copper.{Ascends}
use Rattle.pcb_islands.specs.declared.net.Island.{Island}
use Rattle.route_lattice.specs.Mesh.{node_count}
use Rattle.route_lattice.specs.Ground.{GroundOf}
use Rattle.route_lattice.specs.Anchors.{Anchors}
use Rattle.cut_certificate.specs.Cuts.{IsStart, IsGoal}
use Rattle.cut_certificate.specs.inner.Checks.{HoldsStartsOf, HoldsNoneOf, HoldsNoneOfIsland}

-- ---- items by id
module _ (items : List Item) (up : Ascends items) where
  at_place : (a b : Item) (k : ℕ) → k < length items → get_or items k a ≡ a → get_or items k b ≡ a
  at_place a b k lt e = get_or_default items k b a lt ∙ e

  below : (a b : Item) (p : Contains items a) (q : Contains items b) → p.0 < q.0 → a.id < b.id
  below a b p q lt =
      let e : (get_or items q.0 a).id ≡ b.id = ap (λ (x : Item). x.id) (at_place b a q.0 q.1 q.2) in
      let f : (get_or items p.0 a).id ≡ a.id = ap (λ (x : Item). x.id) p.2 in
      omega (arith, up p.0 q.0 a lt q.1, e, f)

  -- items with one id are one
  pub same_item : (a b : Item) → Contains items a → Contains items b → a.id ≡ b.id → a ≡ b
  same_item a b p q e = elim (cases_lt p.0 q.0) [
    | inl lt ↦ absurd (omega (arith, below a b p q lt, e))
    | inr ge ↦ elim (cases_lt q.0 p.0) [
      | inl gt ↦ absurd (omega (arith, below b a q p gt, e))
      | inr le ↦ let same : p.0 ≡ q.0 = omega arith in
          sym p.2 ∙ (ap (λ (k : ℕ). get_or items k a) same ∙ at_place b a q.0 q.1 q.2)
    ]
  ]

  module _ (P : Item → Type 0) (id : ℕ) where
    -- what is tested of the one item with an id is so of each
    pub of_one : (b : Item) → Contains items b → b.id ≡ id → (t : Bool) → (IsTrue t ↔ P b)
        → IsTrue t ↔ ((a : Item) → Contains items a → a.id ≡ id → P a)
    of_one b p e t iff = (λ is a q f. subst P (same_item b a p q (e ∙ sym f)) (iff.0 is), λ each. iff.1 (each b p e))

    -- no item has the id
    pub of_none : All (λ (b : Item). b.id ≡ id → ⊥) items
        → IsTrue true ↔ ((a : Item) → Contains items a → a.id ≡ id → P a)
    of_none none = (λ _ a q f. absurd (All-contains (λ (b : Item). b.id ≡ id → ⊥) items a none q f), λ _. refl)

-- ---- starts and goals
module _ (on : GroundOf) (nodes : List ℕ) where
  starts_from : (island : Island) → All (HoldsStartsOf on island.net nodes) island.items → (node : ℕ)
      → IsStart on.d on.lat on.items island node → Contains nodes node
  starts_from island each node s =
      All-contains (HoldsStartsOf on island.net nodes) island.items s.anchors.item.id each s.anchors.asked
      s.anchors.item s.anchors.there refl node s.there s.anchors.anchors s.legal

  starts_to : (island : Island) → ((node : ℕ) → IsStart on.d on.lat on.items island node → Contains nodes node)
      → All (HoldsStartsOf on island.net nodes) island.items
  starts_to island starts k id h a p e node there anchors legal = starts node (record {
    there = there;
    anchors = record {
      item = a;
      there = p;
      asked = subst (Contains island.items) (sym e) (Contains-get_or island.items k id h);
      anchors = anchors;
    };
    legal = legal;
  })

  goals_from : (others : List Island) → All (HoldsNoneOfIsland on nodes) others → (node : ℕ)
      → IsGoal on.d on.lat on.items others node → Contains nodes node → ⊥
  goals_from others each node g c =
      let o = g.anchors in
      let none : HoldsNoneOfIsland on nodes o.1 =
      subst (HoldsNoneOfIsland on nodes) o.3 (each o.0 o.1 o.2) in
      All-contains (λ v. Anchors on.d on.lat v o.4.item → ⊥) nodes node
      (All-contains (HoldsNoneOf on nodes) o.1.items o.4.item.id none o.4.asked o.4.item o.4.there refl) c
      o.4.anchors

  goals_to : (others : List Island) → All (λ v. v < node_count on.lat) nodes
      → ((node : ℕ) → IsGoal on.d on.lat on.items others node → Contains nodes node → ⊥)
      → All (HoldsNoneOfIsland on nodes) others
  goals_to others in_lattice out k o h j id lt a p e i v il anchors =
      let other : Island = get_or others k o in
      out (get_or nodes i v) (record {
        there = in_lattice i v il;
        anchors = (
          k,
          other,
          h,
          get_or_default others k other o h,
          record {
            item = a;
            there = p;
            asked = subst (Contains other.items) (sym e) (Contains-get_or other.items j id lt);
            anchors = anchors;
          },
        );
      }) (Contains-get_or nodes i v il)

  -- what is tested of the ids of an island, and of the islands
  pub starts_say : (island : Island) (t : Bool)
      → (IsTrue t ↔ All (HoldsStartsOf on island.net nodes) island.items)
      → IsTrue t ↔ ((node : ℕ) → IsStart on.d on.lat on.items island node → Contains nodes node)
  starts_say island t says = (λ h. starts_from island (says.0 h), λ h. says.1 (starts_to island h))

  pub goals_say : (others : List Island) → All (λ v. v < node_count on.lat) nodes → (t : Bool)
      → (IsTrue t ↔ All (HoldsNoneOfIsland on nodes) others)
      → IsTrue t ↔ ((node : ℕ) → IsGoal on.d on.lat on.items others node → Contains nodes node → ⊥)
  goals_say others there t says = (λ h. goals_from others (says.0 h), λ h. says.1 (goals_to others there h))
