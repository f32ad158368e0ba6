-- Items of other nets, added to a list, join nothing of a net.
use Rattle.std.proofs.Common.{◌≡◌, ◌≢◌, ℕ, true, List, [], ◌∷◌, ◌++◌, Option, Some, None, sym, ◌∙◌, ap, subst, inl, inr}
use Rattle.std.proofs.Common.{true≢false}
use Rattle.std.specs.Prelude.{Contains, All}
use Rattle.std.proofs.lemmas.Map.Views.{exact_unsigned_eq}
use Rattle.std.proofs.lemmas.List.Elements.{All-contains, All-weaker, All-nil, All-cons, All-head, All-tail}
use Rattle.std.proofs.lemmas.List.Elements.{Contains-append_left, Contains-append_cases}
use Rattle.pcb_model.specs.declared.item.Item.{Item}
use Rattle.pcb_model.specs.declared.design.Design.{Design}
use Rattle.pcb_model.specs.Pairs.{AreTouching, is_same_net}
use Rattle.pcb_model.specs.Board.{AreJoined, LeadsTo}
use Rattle.pcb_model.specs.Sound.{IsSound, Serves}
use Rattle.pcb_islands.specs.declared.net.Island.{Island}
use Rattle.pcb_islands.specs.Islands.{pins_of, HasPadJoined, HasIdJoined, IsIsland, AreIslands, HasItemAt}
use Rattle.pcb_islands.proofs.Elements.{in_from}
use Rattle.pcb_islands.proofs.Pads.{net_pad}
use Rattle.pcb_islands.proofs.Selects.{selected, selects_alike}
use Rattle.pcb_islands.proofs.Classes.{pad_in, one_pad}
use Rattle.pcb_islands.proofs.Joined.{one_item}
use Rattle.pcb_islands.proofs.Gathering.{island_at}
use Rattle.pcb_islands.proofs.Merging.{joined_later}
use Rattle.pcb_model.specs.Copper.{Ascends}

net_of_touched : (o : Option ℕ) (net : ℕ) → is_same_net (Some net) o ≡ true → o ≡ Some net
net_of_touched None net e = absurd (true≢false (sym e))
net_of_touched (Some y) net e = ap (λ (n : ℕ). Some n) (sym (exact_unsigned_eq net y e))

-- the pad of an island has the net
pad_net : (d : Design) (items : List Item) (net : ℕ) → IsSound d
    → (s : Island) (h : IsIsland d items net (pins_of d net) s) → h.pad.net ≡ Some net
pad_net d items net sound s h =
    let first_in =
    (selected (HasPadJoined d items h.pad) (pins_of d net) s.pins h.first h.pins_are
    (in_from s.pins 0 h.first h.first_is)).1 in
    let own = net_pad d net sound h.first first_in in
    ap (λ (x : Item). x.net) (one_pad d sound h.first h.pad own.pad h.pad_is own.pad_is) ∙ own.net_is

next_net : (a b : Item) (net : ℕ) → AreTouching a b → a.net ≡ Some net → b.net ≡ Some net
next_net a b net touch of_net =
    net_of_touched b.net net (subst (λ (o : Option ℕ). is_same_net o b.net ≡ true) of_net touch.same_net)

chain_net : (a b : Item) (chain : List Item) (net : ℕ) → LeadsTo a chain b → a.net ≡ Some net → b.net ≡ Some net
chain_net a b [] net leads of_net = ap (λ (x : Item). x.net) (sym leads) ∙ of_net
chain_net a b (c ∷ chain) net leads of_net = chain_net c b chain net leads.1 (next_net a c net leads.0 of_net)

-- an item of an island has its net
pub item_net : (d : Design) (items : List Item) (net place : ℕ) (found : List Island) (b : Item) → IsSound d
    → Ascends items → AreIslands d items net found → Contains items b → HasItemAt found place b.id → b.net ≡ Some net
item_net d items net place found b sound up are there at =
    let s = island_at d items net (pins_of d net) found place at.island are at.there in
    let e = (s.items_are.exact b.id).0 at.has in
    ap (λ (x : Item). x.net) (one_item items up b e.item there e.there (sym e.id_is))
    ∙ chain_net s.pad e.item e.joined.chain net e.joined.leads (pad_net d items net sound at.island s)

-- what a chain from an item of the net leads to, without the added
record LeadsWithin (items : List Item) (a b : Item) : Type 0 where
  joined : AreJoined items a b
  there : Contains items b

module _ (items added : List Item) (net : ℕ) (none : All (λ (b : Item). b.net ≢ Some net) added) where
  of_the_net : (b : Item) → b.net ≡ Some net → Contains (items ++ added) b → Contains items b
  of_the_net b of_net there =
      elim (Contains-append_cases items added b there) [
        | inl old ↦ old
        | inr new ↦
            absurd (All-contains (λ (x : Item). x.net ≢ Some net) added b none new of_net)
      ]

  leads_within : (a b : Item) (chain : List Item) → a.net ≡ Some net → Contains items a
      → All (Contains (items ++ added)) chain → LeadsTo a chain b → LeadsWithin items a b
  leads_within a b [] of_net there all leads =
      record {
        joined = record { chain = []; there = All-nil (Contains items); leads = leads };
        there = subst (Contains items) leads there;
      }
  leads_within a b (c ∷ chain) of_net there all leads =
      let c_net = next_net a c net leads.0 of_net in
      let c_in = of_the_net c c_net (All-head (Contains (items ++ added)) c chain all) in
      let rest = leads_within c b chain c_net c_in (All-tail (Contains (items ++ added)) c chain all) leads.1 in
      record {
        joined = record {
          chain = c ∷ rest.joined.chain;
          there = All-cons (Contains items) c rest.joined.chain c_in rest.joined.there;
          leads = (leads.0, rest.joined.leads);
        };
        there = rest.there;
      }

  module _ (a : Item) (of_net : a.net ≡ Some net) (there : Contains items a) where
    within : (b : Item) → AreJoined (items ++ added) a b → LeadsWithin items a b
    within b j = leads_within a b j.chain of_net there j.there j.leads

    later : (b : Item) → AreJoined items a b → AreJoined (items ++ added) a b
    later b j = joined_later items (items ++ added) (λ x h. Contains-append_left items added x h) a b j

    pads_to : (d : Design) (pin : ℕ) → HasPadJoined d items a pin → HasPadJoined d (items ++ added) a pin
    pads_to d pin h = record { pad = h.pad; pad_is = h.pad_is; joined = later h.pad h.joined }

    pads_from : (d : Design) (pin : ℕ) → HasPadJoined d (items ++ added) a pin → HasPadJoined d items a pin
    pads_from d pin h = record { pad = h.pad; pad_is = h.pad_is; joined = (within h.pad h.joined).joined }

    ids_to : (id : ℕ) → HasIdJoined items a id → HasIdJoined (items ++ added) a id
    ids_to id h =
        record {
          item = h.item;
          there = Contains-append_left items added h.item h.there;
          id_is = h.id_is;
          joined = later h.item h.joined;
        }

    ids_from : (id : ℕ) → HasIdJoined (items ++ added) a id → HasIdJoined items a id
    ids_from id h = let w = within h.item h.joined in
        record { item = h.item; there = w.there; id_is = h.id_is; joined = w.joined }

  -- an island stays one
  island_stays : (d : Design) → IsSound d → Serves items d → (s : Island) → IsIsland d items net (pins_of d net) s
      → IsIsland d (items ++ added) net (pins_of d net) s
  island_stays d sound serves s h =
      let of_net = pad_net d items net sound s h in
      let there = pad_in d items serves h.first h.pad h.pad_is in
      record {
        net_is = h.net_is;
        first = h.first;
        first_is = h.first_is;
        pad = h.pad;
        pad_is = h.pad_is;
        pins_are = selects_alike (HasPadJoined d items h.pad) (HasPadJoined d (items ++ added) h.pad)
            (pads_to h.pad of_net there d) (pads_from h.pad of_net there d) (pins_of d net) s.pins h.pins_are;
        items_are = record {
          ascend = h.items_are.ascend;
          exact = λ id. (
            λ c. ids_to h.pad of_net there id ((h.items_are.exact id).0 c),
            λ j. (h.items_are.exact id).1 (ids_from h.pad of_net there id j),
          );
        };
      }

  pub islands_stay : (d : Design) → IsSound d → Serves items d → (found : List Island) → AreIslands d items net found
      → AreIslands d (items ++ added) net found
  islands_stay d sound serves found are = record {
    each = All-weaker (IsIsland d items net (pins_of d net)) (IsIsland d (items ++ added) net (pins_of d net))
        (island_stays d sound serves) found are.each;
    covered = are.covered;
    places = are.places;
    ascend = are.ascend;
    begin = are.begin;
  }
