-- Trouble at an id: what a well-formed offer meets on the board as it is now.
use Rattle.std.specs.Prelude.{◌≡◌, ◌≢◌, ℕ, ◌<◌, true, false, List, ◌∷◌, All, Contains, Option, Some, None, slice_get}
use Rattle.pcb_model.specs.declared.item.Item.{Item}
use Rattle.pcb_model.specs.declared.design.Design.{Design}
use Rattle.pcb_model.specs.Pairs.{Agrees, AreTouching}
use Rattle.board_offers.specs.declared.offer.Shoved.{Shoved}
use Rattle.board_offers.specs.declared.offer.Offer.{Offer}
use Rattle.board_offers.specs.Items.{names, is_on, gone, new_items, after_shoves}

-- the ids that the offer joins, rips or shoves
abbrev pub wanted : Offer → List ℕ
wanted o = o.from ∷ o.to ∷ gone o

-- an id that the offer joins, rips or shoves is on the board
abbrev pub IsThere : List Item → Offer → ℕ → Type 0
IsThere items o x = names (wanted o) x ≡ true → is_on x items ≡ true

-- an item that stays agrees with every new item
abbrev pub AgreesWithNew : Design → List Item → List Item → Offer → ℕ → Type 0
AgreesWithNew d given items o x =
    (a : Item) → Contains items a → a.id ≡ x → names (gone o) x ≡ false
    → All (λ (n : Item). Agrees d n a) (new_items d given o)

-- an item that touches another of its net which is shoved touches it after the shoves too
abbrev pub StaysJoined : Design → List Item → List Item → Offer → ℕ → Type 0
StaysJoined d given items o x =
    (a : Item) → Contains items a → a.id ≡ x → (s : Shoved) → Contains o.shoves s → s.id ≢ x
    → (old : Item) → slice_get given s.id ≡ Some old → AreTouching old a
    → AreTouching (after_shoves d o.shoves old) (after_shoves d o.shoves a)

-- there is no trouble at x
pub record IsClear (d : Design) (given items : List Item) (o : Offer) (x : ℕ) : Type 0 where
  pub there : IsThere items o x
  pub agrees : AgreesWithNew d given items o x
  pub joined : StaysJoined d given items o x

-- the least number at which Clear fails; before it, and everywhere where there is none, Clear holds
abbrev pub FailsLeast : (ℕ → Type 0) → Option ℕ → Type 0
FailsLeast Clear None = (x : ℕ) → Clear x
FailsLeast Clear (Some x) = (Clear x → ⊥) × ((y : ℕ) → y < x → Clear y)
