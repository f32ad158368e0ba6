-- The wires that a well-formed offer lays have two points or more.
use Rattle.std.proofs.Common.{ℕ, ◌≤◌, Option, Some, None, length}
use Rattle.std.specs.Prelude.{All, slice_get}
use Rattle.std.specs.Option.{IsSomeAnd}
use Rattle.std.proofs.lemmas.List.Elements.{All-weaker}
use Rattle.pcb_model.specs.declared.item.Item.{Item}
use Rattle.pcb_model.specs.declared.item.Metal.{Metal}
use Rattle.pcb_model.specs.declared.item.Metal.TheVariants.{Wire, Via, Pad, Ban}
use Rattle.pcb_model.specs.declared.design.Design.{Design}
use Rattle.board_offers.specs.declared.offer.Offer.{Offer}
use Rattle.board_offers.specs.declared.offer.Shoved.{Shoved}
use Rattle.board_offers.specs.Offers.{IsAddable, IsShovable, IsWellFormed, Known}
use Rattle.session_law.specs.Back.{HasTwoPoints}

-- the chain of a shove has two points or more
abbrev pub IsLongShove : Shoved → Type 0
IsLongShove s = 2 ≤ length s.chain

-- so have the wires that the offer adds, and its chains
pub record IsLongOffer (o : Offer) : Type 0 where
  pub add_long : All HasTwoPoints o.add
  pub chains_long : All IsLongShove o.shoves

-- metal that an offer may add has
metal_long : (d : Design) (net : ℕ) (a : Metal) → IsAddable d net a → HasTwoPoints a
metal_long d net (Wire layer width chain) h = h.2
metal_long d net (Via padstack at) h = tt
metal_long d net (Pad pin) h = tt
metal_long d net (Ban wires vias) h = tt

-- so has the chain of a shove
shove_long : (k : Known) (o : Offer) (s : Shoved) (item : Option Item) → IsSomeAnd item (IsShovable k o s)
    → IsLongShove s
shove_long k o s None h = absurd h
shove_long k o s (Some a) h = h.points

-- so have all of an offer
pub offer_long : (k : Known) (o : Offer) → IsWellFormed k o → IsLongOffer o
offer_long k o formed = record {
  add_long = All-weaker (IsAddable k.design o.net) HasTwoPoints (λ a h. metal_long k.design o.net a h) o.add
      formed.metals.each;
  chains_long = All-weaker (λ (s : Shoved). IsSomeAnd (slice_get k.given s.id) (IsShovable k o s)) IsLongShove
      (λ s h. shove_long k o s (slice_get k.given s.id) h) o.shoves formed.shoves.each;
}
