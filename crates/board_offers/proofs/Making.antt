-- Items that are made one by one.
use Rattle.std.proofs.Common.{◌≡◌, ℕ, ◌+◌, Some, false, ◌∙◌, ap, List, [], ◌∷◌, ◌++◌, length, arith}
use Rattle.pcb_model.specs.declared.item.Metal.{Metal}
use Rattle.pcb_model.specs.declared.item.Item.{Item}
use Rattle.pcb_model.specs.declared.design.Design.{Design}
use Rattle.pcb_model.specs.Pieces.{item_of}
use Rattle.board_offers.specs.declared.offer.Shoved.{Shoved}
use Rattle.board_offers.specs.Items.{item_at, added_from, replaced_from, reshaped}

pub added_more : (d : Design) (net first : ℕ) (ms : List Metal) (m : Metal)
    → added_from d net first (ms ++ m ∷ []) ≡ added_from d net first ms ++ item_of d (first + length ms)
    (Some net) false m ∷ []
added_more d net first [] m =
    ap (λ (n : ℕ). item_of d n (Some net) false m ∷ []) (let k : first ≡ first + 0 = omega arith in k)
added_more d net first (x ∷ ms) m =
    ap (λ (items : List Item). item_of d first (Some net) false x ∷ items)
    (added_more d net (first + 1) ms m
    ∙ ap (λ (n : ℕ). added_from d net (first + 1) ms ++ item_of d n (Some net) false m ∷ [])
    (let k : first + 1 + length ms ≡ first + length (x ∷ ms) = omega arith in k))

pub replaced_more : (d : Design) (given : List Item) (first : ℕ) (ss : List Shoved) (s : Shoved)
    → replaced_from d given first (ss ++ s ∷ []) ≡ replaced_from d given first ss ++ reshaped d
    (first + length ss) s.chain (item_at given s.id) ∷ []
replaced_more d given first [] s =
    ap (λ (n : ℕ). reshaped d n s.chain (item_at given s.id) ∷ []) (let k : first ≡ first + 0 = omega arith in k)
replaced_more d given first (x ∷ ss) s =
    ap (λ (items : List Item). reshaped d first x.chain (item_at given x.id) ∷ items)
    (replaced_more d given (first + 1) ss s
    ∙ ap (λ (n : ℕ). replaced_from d given (first + 1) ss ++ reshaped d n s.chain (item_at given s.id) ∷ [])
    (let k : first + 1 + length ss ≡ first + length (x ∷ ss) = omega arith in k))
