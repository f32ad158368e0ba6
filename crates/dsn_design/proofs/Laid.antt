-- Fixed wiring as the item of a design, and items with one more behind.
use Rattle.std.proofs.Common.{suc, ◌≡◌, ◌+◌, ◌++◌, ◌∙◌, ap, ℕ, List, [], ◌∷◌, length, refl, arith}
use Rattle.pcb_model.specs.declared.item.Item.{Item}
use Rattle.pcb_model.specs.declared.item.Metal.{Metal}
use Rattle.pcb_model.specs.declared.item.Metal.TheVariants.{Wire, Via, Pad, Ban}
use Rattle.pcb_model.specs.declared.design.Design.{Design}
use Rattle.pcb_model.specs.Pieces.{pieces_of}
use Rattle.dsn_design.specs.Items.{numbered_from, wiring_pieces, with_id}

pub same_pieces : (d : Design) (m : Metal) → pieces_of d m ≡ wiring_pieces d.padstacks m
same_pieces d (Wire layer width chain) = refl
same_pieces d (Via padstack at) = refl
same_pieces d (Pad pin) = refl
same_pieces d (Ban wires vias) = refl

-- one more numbered item
pub numbered_push : (id : ℕ) (items : List Item) (a : Item) → numbered_from id (items ++ a ∷ [])
    ≡ numbered_from id items ++ with_id (id + length items) a ∷ []
numbered_push id [] a = let e : id ≡ id + 0 = omega arith in ap (λ k. with_id k a ∷ []) e
numbered_push id (b ∷ items) a = let e : id + 1 + length items ≡ id + suc (length items) = omega arith in
    ap (λ rest. with_id id b ∷ rest)
    (numbered_push (id + 1) items a ∙ ap (λ k. numbered_from (id + 1) items ++ with_id k a ∷ []) e)

pub numbered_long : (id : ℕ) (items : List Item) → length (numbered_from id items) ≡ length items
numbered_long id [] = refl
numbered_long id (a ∷ items) = ap suc (numbered_long (id + 1) items)
