-- What holds of the copper that is loaded or offered holds of the items that it becomes.
use Rattle.std.proofs.Common.{◌≡◌, inl, inr, ℕ, ◌+◌, List, [], ◌∷◌, ◌++◌, length, sym, subst}
use Rattle.std.specs.Prelude.{All, Contains}
use Rattle.std.proofs.lemmas.List.Elements.{All-append, All-cons, All-head, All-nil, All-tail}
use Rattle.pcb_model.specs.declared.item.Item.{Item}
use Rattle.pcb_model.specs.declared.item.Metal.{Metal}
use Rattle.pcb_model.specs.declared.design.FreeWire.{FreeWire}
use Rattle.pcb_model.specs.declared.design.Design.{Design}
use Rattle.board_offers.specs.declared.offer.Offer.{Offer}
use Rattle.board_offers.specs.declared.offer.Shoved.{Shoved}
use Rattle.board_offers.specs.Items.{added, item_at, new_items, replaced, with_chain}
use Rattle.pcb_board.specs.Boards.{Loads, free_item}
use Rattle.least_offer.proofs.Adding.{all_added}
use Rattle.least_offer.proofs.Replacing.{all_replaced}

-- of no elements all holds
pub all_of_none : {X : Type 0} (P : X → Type 0) (xs : List X) → xs ≡ [] → All P xs
all_of_none P xs e = subst (All P) (sym e) (All-nil P)

module _ (d : Design) (P : Metal → Type 0) where
  -- an item of such copper
  abbrev IsSuch : Item → Type 0
  IsSuch a = P a.metal

  -- such free wiring
  abbrev IsSuchFree : FreeWire → Type 0
  IsSuchFree w = P w.metal

  -- loaded behind items
  pub loaded : (items : List Item) (ws : List FreeWire) (dropped : List ℕ) (start : List Item) → All IsSuch items
      → All IsSuchFree ws → Loads d items ws dropped start → All IsSuch start
  loaded items [] dropped start h free l = subst (All IsSuch) (sym l.1) h
  loaded items (w ∷ ws) dropped start h free (inl l) = loaded (items ++ free_item d items w ∷ []) ws dropped start
      (All-append IsSuch items (free_item d items w ∷ []) h
      (All-cons IsSuch (free_item d items w) [] (All-head IsSuchFree w ws free) (All-nil IsSuch)))
      (All-tail IsSuchFree w ws free) l.1
  loaded items (w ∷ ws) dropped start h free (inr (refused, others, is, l)) =
      loaded items ws others start h (All-tail IsSuchFree w ws free) l

  -- the new items of an offer
  pub all_new : (given : List Item) (o : Offer) → All P o.add
      → ((s : Shoved) → Contains o.shoves s → P (with_chain s.chain (item_at given s.id).metal))
      → All IsSuch (new_items d given o)
  all_new given o add shoves = All-append IsSuch (added d given o) (replaced d given o)
      (all_added d o.net IsSuch (length given) o.add (λ i. add))
      (all_replaced d given IsSuch (length given + length o.add) o.shoves (λ i. shoves))
