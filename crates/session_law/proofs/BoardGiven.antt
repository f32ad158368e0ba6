-- The wires of all items that a board ever gave an id have two points or more, where those of each entry have.
use Rattle.std.proofs.Common.{◌≤◌, List, [], ◌∷◌, length}
use Rattle.std.specs.Prelude.{All}
use Rattle.std.proofs.lemmas.List.Elements.{All-append, All-contains, All-head, All-nil, All-tail}
use Rattle.geo_kernel.specs.declared.point.Point.{Point}
use Rattle.pcb_model.specs.declared.item.Item.{Item}
use Rattle.pcb_model.specs.declared.item.Metal.{Metal}
use Rattle.pcb_model.specs.declared.item.Metal.TheVariants.{Wire, Via, Pad, Ban}
use Rattle.pcb_model.specs.declared.design.Design.{Design}
use Rattle.board_offers.specs.declared.offer.Offer.{Offer}
use Rattle.board_offers.specs.Items.{item_at, new_items, with_chain}
use Rattle.pcb_board.specs.declared.answer.Entry.{Entry}
use Rattle.pcb_board.specs.declared.answer.Entry.TheVariants.{Join, Back}
use Rattle.pcb_board.specs.Boards.{Past, next, past_from}
use Rattle.session_law.proofs.ScaleGiven.{all_new}
use Rattle.session_law.specs.Back.{HasTwoPoints}
use Rattle.session_law.proofs.BoardOffers.{IsLongOffer, IsLongShove}

-- an item whose wire has two points or more
abbrev pub IsLong : Item → Type 0
IsLong a = HasTwoPoints a.metal

-- what an entry adds; one that takes the board back adds nothing
abbrev pub IsLongEntry : Entry → Type 0
IsLongEntry (Join o first after) = IsLongOffer o
IsLongEntry (Back to) = Unit {0}

-- a metal with two other points
rechained : (points : List Point) (a : Metal) → 2 ≤ length points → HasTwoPoints (with_chain points a)
rechained points (Wire layer width chain) h = h
rechained points (Via padstack at) h = tt
rechained points (Pad pin) h = tt
rechained points (Ban wires vias) h = tt

module _ (d : Design) where
  -- the new items of an offer
  new_long : (gv : List Item) (o : Offer) → IsLongOffer o → All IsLong (new_items d gv o)
  new_long gv o h = all_new d HasTwoPoints gv o h.add_long (λ s there.
      rechained s.chain (item_at gv s.id).metal (All-contains IsLongShove o.shoves s h.chains_long there))

  -- all that were given after entries
  pub given_long : (p : Past) (es : List Entry) → All IsLong p.given → All IsLongEntry es
      → All IsLong (past_from d p es).given
  given_long p [] h all = h
  given_long p (Join o first after ∷ es) h all =
      given_long (next d p (Join o first after)) es
      (All-append IsLong p.given (new_items d p.given o) h
      (new_long p.given o (All-head IsLongEntry (Join o first after) es all)))
      (All-tail IsLongEntry (Join o first after) es all)
  given_long p (Back to ∷ es) h all =
      given_long (next d p (Back to)) es (All-append IsLong p.given [] h (All-nil IsLong))
      (All-tail IsLongEntry (Back to) es all)
