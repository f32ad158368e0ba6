-- What an island's items anchor, and where walks start and end, on copper without an item of another net.
use Rattle.std.proofs.Common.{◌≡◌, ◌≢◌, ℕ, List, Option, Some, None, sym, ap, ◌∙◌, subst, inl, inr}
use Rattle.std.specs.Prelude.{Contains, IfSome}
use Rattle.pcb_model.specs.declared.item.Item.{Item}
use Rattle.pcb_model.specs.declared.design.Design.{Design}
use Rattle.pcb_model.specs.Copper.{Removes}
use Rattle.route_lattice.specs.Mesh.{Mesh}
use Rattle.route_lattice.specs.Anchors.{AnchorsAmong}
use Rattle.closing_pass.specs.inner.Rooms.{IfPut}
use Rattle.closing_pass.proofs.Closings.{some_same}
use Rattle.closing_pass.proofs.Past.{out_cases, out_in}

-- what has one of the ids has the net
abbrev pub AreOfNet : List Item → List ℕ → ℕ → Type 0
AreOfNet items ids net = (a : Item) → Contains items a → Contains ids a.id → a.net ≡ Some net

module _ (items rest past : List Item) (x : Item) (n net : ℕ) (moved : Option Item) (r : Removes items x rest)
    (put : IfPut rest moved past) (x_in : Contains items x) (x_net : x.net ≡ Some n) (apart : n ≢ net)
    (moved_id : IfSome moved (λ (a : Item). a.id ≡ x.id)) where
  -- an item of the net stays
  stay : (ids : List ℕ) → AreOfNet items ids net → (a : Item) → Contains items a → Contains ids a.id → Contains rest a
  stay ids own a h asked = elim (out_cases items rest x r a h) [
    | inl same ↦ absurd (apart (some_same n net
        (sym x_net ∙ ap (λ (y : Item). y.net) same ∙ own a h asked)))
    | inr left ↦ left
  ]

  rest_past : (o : Option Item) → IfPut rest o past → (a : Item) → Contains rest a → Contains past a
  rest_past None is a h = subst (λ (ys : List Item). Contains ys a) (sym is) h
  rest_past (Some y) is a h = out_in past rest y is a h

  past_rest : (ids : List ℕ) → AreOfNet items ids net → (o : Option Item) → IfPut rest o past
      → IfSome o (λ (a : Item). a.id ≡ x.id) → (a : Item) → Contains past a → Contains ids a.id → Contains rest a
  past_rest ids own None is id a h asked = subst (λ (ys : List Item). Contains ys a) is h
  past_rest ids own (Some y) is id a h asked = elim (out_cases past rest y is a h) [
    | inl same ↦
        let named : Contains ids x.id =
        subst (Contains ids) (sym (ap (λ (z : Item). z.id) same) ∙ id) asked in
        absurd (apart (some_same n net (sym x_net ∙ own x x_in named)))
    | inr left ↦ left
  ]

  module _ (d : Design) (m : Mesh) where
    pub anchors_past : (ids : List ℕ) → AreOfNet items ids net → (node : ℕ) → AnchorsAmong d m items ids node
        → AnchorsAmong d m past ids node
    anchors_past ids own node h = record {
      item = h.item;
      there = rest_past moved put h.item (stay ids own h.item h.there h.asked);
      asked = h.asked;
      anchors = h.anchors;
    }

    pub anchors_home : (ids : List ℕ) → AreOfNet items ids net → (node : ℕ) → AnchorsAmong d m past ids node
        → AnchorsAmong d m items ids node
    anchors_home ids own node h = record {
      item = h.item;
      there = out_in items rest x r h.item (past_rest ids own moved put moved_id h.item h.there h.asked);
      asked = h.asked;
      anchors = h.anchors;
    }

  pub item_home : (ids : List ℕ) → AreOfNet items ids net → (a : Item) → Contains past a → Contains ids a.id
      → Contains items a
  item_home ids own a h asked = out_in items rest x r a (past_rest ids own moved put moved_id a h asked)
