-- Chains of items of which each touches the next.
use Rattle.std.proofs.Common.{◌≡◌, ℕ, ◌<◌, zero, suc, refl, sym, subst, List, [], ◌∷◌, ◌++◌, length, get_or, take}
use Rattle.std.proofs.Common.{arith}
use Rattle.pcb_model.specs.declared.item.Item.{Item}
use Rattle.pcb_model.specs.Pairs.{AreTouching}
use Rattle.pcb_model.specs.Board.{LeadsTo}
use Rattle.board_offers.specs.inner.Adding.{last_item}

pub last_more : (a : Item) (xs : List Item) (x : Item) → last_item a (xs ++ x ∷ []) ≡ x
last_more a [] x = refl
last_more a (b ∷ xs) x = last_more b xs x

-- one more item, which the last touches
pub leads_more : (a : Item) (xs : List Item) (x : Item) → LeadsTo a xs (last_item a xs) → AreTouching (last_item a xs) x
    → LeadsTo a (xs ++ x ∷ []) x
leads_more a [] x leads touch = (touch, refl)
leads_more a (b ∷ xs) x leads touch = (leads.0, leads_more b xs x leads.1 touch)

-- in a chain each item touches the one behind it
pub leads_at : (a : Item) (xs : List Item) (b c : Item) (i : ℕ) (x : Item) → i < length xs → x ≡ get_or xs i x
    → LeadsTo a (xs ++ b ∷ []) c → AreTouching (last_item a (take i xs)) x
leads_at a [] b c i x within is leads = absurd (omega (arith, within))
leads_at a (y ∷ xs) b c zero x within is leads = subst (AreTouching a) (sym is) leads.0
leads_at a (y ∷ xs) b c (suc i) x within is leads = leads_at y xs b c i x (omega (arith, within)) is leads.1

pub leads_last : (a : Item) (xs : List Item) (b c : Item) → LeadsTo a (xs ++ b ∷ []) c → AreTouching (last_item a xs) b
leads_last a [] b c leads = leads.0
leads_last a (y ∷ xs) b c leads = leads_last y xs b c leads.1
