-- Well-formed offers: nine clauses over the offer, the design and the items ever given.
use Rattle.std.specs.Prelude.{◌≡◌, ◌≢◌, ℕ, ◌≤◌, ◌<◌, ◌^◌, ◌⊎◌, List, [], ◌∷◌, ◌++◌, length, All, AllPairs, Any, Some}
use Rattle.std.specs.Prelude.{slice_get}
use Rattle.std.specs.Option.{IsSomeAnd}
use Rattle.geo_kernel.specs.Plane.{IsWithin}
use Rattle.geo_kernel.specs.Spine.{IsSpineWithin}
use Rattle.pcb_model.specs.declared.item.Metal.{Metal}
use Rattle.pcb_model.specs.declared.item.Metal.TheVariants.{Wire, Via, Pad, Ban}
use Rattle.pcb_model.specs.declared.item.Piece.{Piece}
use Rattle.pcb_model.specs.declared.item.Item.{Item}
use Rattle.pcb_model.specs.declared.design.Design.{Design}
use Rattle.pcb_model.specs.Pieces.{pieces_of}
use Rattle.pcb_model.specs.Rules.{width_for}
use Rattle.pcb_model.specs.Pairs.{Agrees}
use Rattle.pcb_model.specs.Board.{AreInside, IsSignal, IsListed, IsRouted, LeadsTo}
use Rattle.board_offers.specs.declared.offer.Shoved.{Shoved}
use Rattle.board_offers.specs.declared.offer.Offer.{Offer}
use Rattle.board_offers.specs.Items.{added, new_items, shoved_ids, with_chain}
use Rattle.board_offers.specs.declared.offer.TheConstants.{CLOSER}

-- by what an offer is judged: the design, the items ever given, and how many entries stand
pub record Known : Type 0 where
  pub design : Design
  pub given : List Item
  pub entries : ℕ

-- 1: it rests on a board that there was, and a worker or the closing pass makes it
pub record IsTimely (k : Known) (o : Offer) : Type 0 where
  pub base : o.base ≤ k.entries
  pub worker : o.worker ≤ CLOSER

-- an item of the net was given the id
abbrev pub IsOfNet : List Item → ℕ → ℕ → Type 0
IsOfNet given net x = IsSomeAnd (slice_get given x) (λ (a : Item). a.net ≡ Some net)

-- 2: it joins two items of a net of the design
pub record HasEnds (k : Known) (o : Offer) : Type 0 where
  pub net : o.net < length k.design.nets
  pub apart : o.from ≢ o.to
  pub from : IsOfNet k.given o.net o.from
  pub to : IsOfNet k.given o.net o.to

-- a wire of the net's width on a signal layer, or a via of the net's list, with coordinates up to 2^29
abbrev pub IsAddable : Design → ℕ → Metal → Type 0
IsAddable d net (Wire layer width chain) =
    IsSignal d layer × (width ≡ width_for d net) × (2 ≤ length chain) × All (IsWithin (2 ^ 29)) chain
IsAddable d net (Via padstack at) =
    IsListed d net padstack × IsWithin (2 ^ 29) at
    × All (λ (p : Piece). IsSpineWithin (2 ^ 29) p.spine) (pieces_of d (Via padstack at))
IsAddable d net (Pad pin) = ⊥
IsAddable d net (Ban wires vias) = ⊥

-- 3: it adds such metals
pub record HasMetals (k : Known) (o : Offer) : Type 0 where
  pub some : 0 < length o.add
  pub each : All (IsAddable k.design o.net) o.add

-- 1 to 3, which are decided before any item is made
pub record IsMakeable (k : Known) (o : Offer) : Type 0 where
  pub timely : IsTimely k o
  pub ends : HasEnds k o
  pub metals : HasMetals k o

-- 4: from one item the added ones lead to the other, each touching the next
pub record LeadsAcross (k : Known) (o : Offer) : Type 0 where
  pub from : Item
  pub from_is : slice_get k.given o.from ≡ Some from
  pub to : Item
  pub to_is : slice_get k.given o.to ≡ Some to
  pub leads : LeadsTo from (added k.design k.given o ++ to ∷ []) to

-- 5: the added items are inside every boundary
pub record LiesInside (k : Known) (o : Offer) : Type 0 where
  pub each : All (λ (a : Item). AreInside k.design.bounds a.pieces) (added k.design k.given o)

-- 6: it rips or shoves, not both, and nothing twice
pub record NamesOnce (o : Offer) : Type 0 where
  pub one_kind : (o.rip ≡ []) ⊎ (o.shoves ≡ [])
  pub rip_once : AllPairs (λ (x y : ℕ). x ≢ y) o.rip
  pub shove_once : AllPairs (λ (x y : ℕ). x ≢ y) (shoved_ids o)

-- a routed item of another net, or of none, that disagrees with an added item
pub record IsInTheWay (k : Known) (o : Offer) (a : Item) : Type 0 where
  pub routed : IsRouted a
  pub other_net : a.net ≢ Some o.net
  pub disagrees : Any (λ (n : Item). Agrees k.design n a → ⊥) (added k.design k.given o)

-- 7: each ripped id was given to an item in the way
pub record RipsInTheWay (k : Known) (o : Offer) : Type 0 where
  pub each : All (λ x. IsSomeAnd (slice_get k.given x) (IsInTheWay k o)) o.rip

abbrev pub IsWire : Metal → Type 0
IsWire (Wire layer width chain) = Unit {0}
IsWire (Via padstack at) = ⊥
IsWire (Pad pin) = ⊥
IsWire (Ban wires vias) = ⊥

-- a wire in the way, and a chain inside every boundary for it
pub record IsShovable (k : Known) (o : Offer) (s : Shoved) (a : Item) : Type 0 where
  pub in_the_way : IsInTheWay k o a
  pub wire : IsWire a.metal
  pub points : 2 ≤ length s.chain
  pub within : All (IsWithin (2 ^ 29)) s.chain
  pub inside : AreInside k.design.bounds (pieces_of k.design (with_chain s.chain a.metal))

-- 8: each shoved id was given to such a wire
pub record ShovesInTheWay (k : Known) (o : Offer) : Type 0 where
  pub each : All (λ (s : Shoved). IsSomeAnd (slice_get k.given s.id) (IsShovable k o s)) o.shoves

-- 9: the new items agree with each other
pub record NewAgree (k : Known) (o : Offer) : Type 0 where
  pub each : AllPairs (Agrees k.design) (new_items k.design k.given o)

pub record IsWellFormed (k : Known) (o : Offer) : Type 0 where
  pub timely : IsTimely k o
  pub ends : HasEnds k o
  pub metals : HasMetals k o
  pub across : LeadsAcross k o
  pub inside : LiesInside k o
  pub once : NamesOnce o
  pub rips : RipsInTheWay k o
  pub shoves : ShovesInTheWay k o
  pub agree : NewAgree k o

-- clause m is the one that fails first and is named, or it holds and a later one is named
abbrev pub Named : ℕ → ℕ → Type 0 → Type 0 → Type 0
Named n m Clause Later = ((n ≡ m) × ¬ Clause) ⊎ (Clause × Later)

-- n is the number of the first clause that fails
abbrev pub FailsFirst : Known → Offer → ℕ → Type 0
FailsFirst k o n =
    Named n 1 (IsTimely k o) (Named n 2 (HasEnds k o) (Named n 3 (HasMetals k o)
    (Named n 4 (LeadsAcross k o) (Named n 5 (LiesInside k o) (Named n 6 (NamesOnce o)
    (Named n 7 (RipsInTheWay k o) (Named n 8 (ShovesInTheWay k o) (Named n 9 (NewAgree k o) ⊥))))))))
