-- A net has the same islands on two lists of items that have the same items of the net.
use Rattle.std.proofs.Common.{◌≡◌, ℕ, ◌<◌, ◌≤◌, true, List, [], ◌∷◌, length, Option, Some, None, sym, ◌∙◌, ap, subst}
use Rattle.std.proofs.Common.{arith, true≢false}
use Rattle.std.specs.Prelude.{Contains, All, Any}
use Rattle.std.specs.List.{AllZip}
use Rattle.std.proofs.lemmas.List.Elements.{All-weaker, All-nil, All-cons, All-head, All-tail}
use Rattle.std.proofs.lemmas.Map.Views.{exact_unsigned_eq}
use Rattle.pcb_model.specs.declared.item.Item.{Item}
use Rattle.pcb_model.specs.declared.design.Design.{Design}
use Rattle.pcb_model.specs.Pairs.{AreTouching, is_same_net}
use Rattle.pcb_model.specs.Board.{AreJoined, LeadsTo}
use Rattle.pcb_model.specs.Sound.{IsSound, Serves}
use Rattle.pcb_islands.specs.declared.net.Island.{Island}
use Rattle.pcb_islands.specs.Islands.{BeginsAt, IsCovered, pins_of, HasPadJoined, HasIdJoined, IsIsland, AreIslands}
use Rattle.pcb_islands.proofs.Elements.{in_from}
use Rattle.pcb_islands.proofs.Pads.{net_pad}
use Rattle.pcb_islands.proofs.Selects.{selected, selects_alike}
use Rattle.pcb_islands.proofs.Classes.{pad_in, one_pad}

-- the items of the net in the one list are in the other
abbrev pub HasOwn : List Item → List Item → ℕ → Type 0
HasOwn xs ys net = (b : Item) → b.net ≡ Some net → Contains xs b → Contains ys b

touched_net : (o : Option ℕ) (net : ℕ) → is_same_net (Some net) o ≡ true → o ≡ Some net
touched_net None net e = absurd (true≢false (sym e))
touched_net (Some y) net e = ap (λ (n : ℕ). Some n) (sym (exact_unsigned_eq net y e))

-- what an item of the net touches has the net
next_net : (a b : Item) (net : ℕ) → AreTouching a b → a.net ≡ Some net → b.net ≡ Some net
next_net a b net touch of_net =
    touched_net b.net net (subst (λ (o : Option ℕ). is_same_net o b.net ≡ true) of_net touch.same_net)

-- the pad of an island has the net
pad_net : (d : Design) (items : List Item) (net : ℕ) → IsSound d → (s : Island)
    → (h : IsIsland d items net (pins_of d net) s) → h.pad.net ≡ Some net
pad_net d items net sound s h =
    let first_in =
    (selected (HasPadJoined d items h.pad) (pins_of d net) s.pins h.first h.pins_are
    (in_from s.pins 0 h.first h.first_is)).1 in
    let own = net_pad d net sound h.first first_in in
    ap (λ (x : Item). x.net) (one_pad d sound h.first h.pad own.pad h.pad_is own.pad_is) ∙ own.net_is

-- what a chain from an item of the net leads to
record Leading (ys : List Item) (a b : Item) : Type 0 where
  joined : AreJoined ys a b
  there : Contains ys b

module _ (xs ys : List Item) (net : ℕ) (own : HasOwn xs ys net) where
  leads_over : (a b : Item) (chain : List Item) → a.net ≡ Some net → Contains ys a → All (Contains xs) chain
      → LeadsTo a chain b → Leading ys a b
  leads_over a b [] of_net there all leads = record {
    joined = record { chain = []; there = All-nil (Contains ys); leads = leads };
    there = subst (Contains ys) leads there;
  }
  leads_over a b (c ∷ chain) of_net there all leads =
      let c_net = next_net a c net leads.0 of_net in
      let c_in = own c c_net (All-head (Contains xs) c chain all) in
      let rest = leads_over c b chain c_net c_in (All-tail (Contains xs) c chain all) leads.1 in
      record {
        joined = record {
          chain = c ∷ rest.joined.chain;
          there = All-cons (Contains ys) c rest.joined.chain c_in rest.joined.there;
          leads = (leads.0, rest.joined.leads);
        };
        there = rest.there;
      }

  joined_over : (a b : Item) → a.net ≡ Some net → Contains ys a → AreJoined xs a b → Leading ys a b
  joined_over a b of_net there j = leads_over a b j.chain of_net there j.there j.leads

  pad_over : (a : Item) → a.net ≡ Some net → Contains ys a → (d : Design) (pin : ℕ) → HasPadJoined d xs a pin
      → HasPadJoined d ys a pin
  pad_over a of_net there d pin h =
      record { pad = h.pad; pad_is = h.pad_is; joined = (joined_over a h.pad of_net there h.joined).joined }

  id_over : (a : Item) → a.net ≡ Some net → Contains ys a → (id : ℕ) → HasIdJoined xs a id → HasIdJoined ys a id
  id_over a of_net there id h =
      let w = joined_over a h.item of_net there h.joined in
      record { item = h.item; there = w.there; id_is = h.id_is; joined = w.joined }

module _ (d : Design) (xs ys : List Item) (net : ℕ) (sound : IsSound d) (serves : Serves xs d) (other : Serves ys d)
    (over : HasOwn xs ys net) (back : HasOwn ys xs net) where
  island_over : (s : Island) → IsIsland d xs net (pins_of d net) s → IsIsland d ys net (pins_of d net) s
  island_over s h =
      let of_net = pad_net d xs net sound s h in
      let in_xs = pad_in d xs serves h.first h.pad h.pad_is in
      let in_ys = pad_in d ys other h.first h.pad h.pad_is in
      record {
        net_is = h.net_is;
        first = h.first;
        first_is = h.first_is;
        pad = h.pad;
        pad_is = h.pad_is;
        pins_are = selects_alike (HasPadJoined d xs h.pad) (HasPadJoined d ys h.pad)
            (pad_over xs ys net over h.pad of_net in_ys d) (pad_over ys xs net back h.pad of_net in_xs d)
            (pins_of d net) s.pins h.pins_are;
        items_are = record {
          ascend = h.items_are.ascend;
          exact = λ id. (
            λ c. id_over xs ys net over h.pad of_net in_ys id ((h.items_are.exact id).0 c),
            λ j. (h.items_are.exact id).1 (id_over ys xs net back h.pad of_net in_xs id j),
          );
        };
      }

  pub islands_alike : (found : List Island) → AreIslands d xs net found → AreIslands d ys net found
  islands_alike found are = record {
    each = All-weaker (IsIsland d xs net (pins_of d net)) (IsIsland d ys net (pins_of d net)) island_over found
        are.each;
    covered = are.covered;
    places = are.places;
    ascend = are.ascend;
    begin = are.begin;
  }

-- ---- a net with an island has one on any copper
pins_there : (pins places : List ℕ) (found : List Island) → AllZip (BeginsAt pins) places found → 1 ≤ length found
    → 0 < length pins
pins_there pins [] [] begin some = absurd (omega (arith, some))
pins_there pins [] (s ∷ found) begin some = absurd begin
pins_there pins (i ∷ places) [] begin some = absurd begin
pins_there pins (i ∷ places) (s ∷ found) begin some = let w = begin.0.within in omega (arith, w)

covered_some : (pins : List ℕ) (found : List Island) → All (IsCovered found) pins → 0 < length pins → 1 ≤ length found
covered_some [] found all some = absurd (omega (arith, some))
covered_some (p ∷ pins) found all some = any_some found (All-head (IsCovered found) p pins all).some
  where
    any_some : (xs : List Island) → Any (λ (s : Island). Contains s.pins p) xs → 1 ≤ length xs
    any_some xs (k, s, within, is, h) = omega (arith, within)

pub still_some : (d : Design) (xs ys : List Item) (net : ℕ) (found later : List Island) → AreIslands d xs net found
    → AreIslands d ys net later → 1 ≤ length found → 1 ≤ length later
still_some d xs ys net found later are new some =
    covered_some (pins_of d net) later new.covered (pins_there (pins_of d net) are.places found are.begin some)
