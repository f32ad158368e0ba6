-- The items that new metals make.
use Rattle.std.proofs.Common.{◌≡◌, ℕ, ◌+◌, ◌<◌, List, [], ◌∷◌, ◌++◌, length, get_or, take, Some, false, ap, sym, ◌∙◌}
use Rattle.std.proofs.Common.{arith, All}
use Rattle.std.proofs.lemmas.List.{take_more, length-take-le}
use Rattle.std.proofs.lemmas.List.Elements.{All-nil, All-cons, All-head, All-tail}
use Rattle.pcb_model.specs.declared.item.Metal.{Metal}
use Rattle.pcb_model.specs.declared.item.Item.{Item}
use Rattle.pcb_model.specs.declared.design.Design.{Design}
use Rattle.pcb_model.specs.Pieces.{item_of}
use Rattle.pcb_model.specs.Bounds.{IsItemFit}
use Rattle.path_wire.specs.Lays.{IsWellLaid}
use Rattle.board_offers.specs.Items.{added_from}
use Rattle.board_offers.proofs.Making.{added_more}

module _ (d : Design) (net : ℕ) where
  -- their numbers are within the bounds, whatever their ids
  pub all_fit : (id : ℕ) (ms : List Metal) → All (IsWellLaid d net 0) ms → All IsItemFit (added_from d net id ms)
  all_fit id [] h = All-nil IsItemFit
  all_fit id (m ∷ ms) h =
      All-cons IsItemFit (item_of d id (Some net) false m) (added_from d net (id + 1) ms)
      (record { pieces_fit = (All-head (IsWellLaid d net 0) m ms h).fits.fits.pieces_fit })
      (all_fit (id + 1) ms (All-tail (IsWellLaid d net 0) m ms h))

  -- one more item
  pub one_added : (ms : List Metal) (i : ℕ) (m e : Metal) (a : Item) (items more : List Item) → i < length ms
      → m ≡ get_or ms i e
      → items ≡ added_from d net 0 (take i ms) → a ≡ item_of d i (Some net) false m → more ≡ items ++ a ∷ []
      → more ≡ added_from d net 0 (take (i + 1) ms)
  one_added ms i m e a items more within m_is items_are a_is more_is =
      let front = take i ms in
      let all : take (i + 1) ms ≡ front ++ m ∷ [] = take_more ms i e within
      ∙ ap (λ (x : Metal). front ++ x ∷ []) (sym m_is) in
      let long : length front ≡ i = length-take-le i ms (omega arith) in
      let numbered : 0 + length front ≡ i = omega (arith, long) in
      more_is ∙ ap (λ (xs : List Item). xs ++ a ∷ []) items_are
      ∙ ap (λ (x : Item). added_from d net 0 front ++ x ∷ []) a_is
      ∙ ap (λ (n : ℕ). added_from d net 0 front ++ item_of d n (Some net) false m ∷ []) (sym numbered)
      ∙ sym (added_more d net 0 front m) ∙ sym (ap (added_from d net 0) all)
