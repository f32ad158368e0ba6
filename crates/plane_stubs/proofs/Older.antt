-- Islands that further copper doesn't join are those of before.
use Rattle.std.proofs.Common.{◌≡◌, ◌⊎◌, ℕ, ◌<◌, List, [], ◌∷◌, ◌++◌, Some, sym, ◌∙◌, ap, subst, inl, inr}
use Rattle.std.specs.Prelude.{All, Contains, slice_get}
use Rattle.std.proofs.lemmas.List.Elements.{All-contains, All-cons, All-head, All-nil, All-tail}
use Rattle.std.proofs.lemmas.List.Elements.{Contains-append_cases, Contains-append_left}
use Rattle.std.proofs.lemmas.Map.Keys.{sorted_from_strictly_increasing}
use Rattle.std.proofs.lemmas.Option.{same_Some}
use Rattle.pcb_model.specs.declared.item.Item.{Item}
use Rattle.pcb_model.specs.declared.design.Design.{Design}
use Rattle.pcb_model.specs.Board.{AreJoined, LeadsTo}
use Rattle.pcb_model.specs.Pairs.{AreTouching}
use Rattle.pcb_model.specs.Sound.{IsSound, Serves}
use Rattle.pcb_model.proofs.Symmetry.{touching_swapped}
use Rattle.pcb_islands.specs.declared.net.Island.{Island}
use Rattle.pcb_islands.specs.Islands.{AreIdsJoined, AreIslandsOf, BeginsAt, HasIdJoined, HasPadJoined, IsCovered}
use Rattle.pcb_islands.specs.Islands.{IsIsland, IsPadOf, Selects}
use Rattle.pcb_islands.proofs.Classes.{one_pad, pad_in}
use Rattle.pcb_islands.proofs.Elements.{in_from, look_at}
use Rattle.pcb_islands.proofs.Joined.{joined_back, joined_by_touch, joined_on, joined_self}
use Rattle.pcb_islands.proofs.Merging.{joined_later, not_joined_before}
use Rattle.pcb_islands.proofs.Numbers.{one_list}
use Rattle.pcb_islands.proofs.Selects.{AreApart, selected, selects_alike, selects_one}
use Rattle.pcb_islands.proofs.Touches.{below_or_same}

-- ---- further items of which none is joined to the pad
-- what a chain from the pad leads to, without them
record Within (items : List Item) (pad b : Item) : Type 0 where
  joined : AreJoined items pad b
  there : Contains items b

module _ (items more : List Item) (pad : Item) (there : Contains items pad)
    (none : (x : Item) → Contains more x → ¬ (AreJoined (items ++ more) pad x)) where
  -- from an item that is joined to the pad
  leads_within : (a b : Item) (chain : List Item) → Contains items a → AreJoined (items ++ more) pad a
      → All (Contains (items ++ more)) chain → LeadsTo a chain b → Within items a b
  leads_within a b [] a_in to all leads = record {
    joined = record { chain = []; there = All-nil (Contains items); leads = leads };
    there = subst (Contains items) leads a_in;
  }
  leads_within a b (c ∷ chain) a_in to all leads =
      let c_in = All-head (Contains (items ++ more)) c chain all in
      let on = joined_on (items ++ more) pad a c to (joined_by_touch (items ++ more) a c c_in leads.0) in
      let c_old = by c on (Contains-append_cases items more c c_in) in
      let rest = leads_within c b chain c_old on (All-tail (Contains (items ++ more)) c chain all) leads.1 in
      record {
        joined = record {
          chain = c ∷ rest.joined.chain;
          there = All-cons (Contains items) c rest.joined.chain c_old rest.joined.there;
          leads = (leads.0, rest.joined.leads);
        };
        there = rest.there;
      }
    where
      by : (x : Item) → AreJoined (items ++ more) pad x → Contains items x ⊎ Contains more x → Contains items x
      by x on (inl old) = old
      by x on (inr new) = absurd (none x new on)

  within : (b : Item) → AreJoined (items ++ more) pad b → Within items pad b
  within b j = leads_within pad b j.chain there (joined_self (items ++ more) pad) j.there j.leads

  later : (b : Item) → AreJoined items pad b → AreJoined (items ++ more) pad b
  later b j = joined_later items (items ++ more) (λ x h. Contains-append_left items more x h) pad b j

  pads_to : (d : Design) (pin : ℕ) → HasPadJoined d items pad pin → HasPadJoined d (items ++ more) pad pin
  pads_to d pin h = record { pad = h.pad; pad_is = h.pad_is; joined = later h.pad h.joined }

  pads_from : (d : Design) (pin : ℕ) → HasPadJoined d (items ++ more) pad pin → HasPadJoined d items pad pin
  pads_from d pin h = record { pad = h.pad; pad_is = h.pad_is; joined = (within h.pad h.joined).joined }

  ids_to : (id : ℕ) → HasIdJoined items pad id → HasIdJoined (items ++ more) pad id
  ids_to id h = record {
    item = h.item;
    there = Contains-append_left items more h.item h.there;
    id_is = h.id_is;
    joined = later h.item h.joined;
  }

  ids_from : (id : ℕ) → HasIdJoined (items ++ more) pad id → HasIdJoined items pad id
  ids_from id h = let w = within h.item h.joined in
      record { item = h.item; there = w.there; id_is = h.id_is; joined = w.joined }

-- an island was one
pub older : (d : Design) (items more : List Item) (net : ℕ) (pins : List ℕ) (s : Island)
    (h : IsIsland d (items ++ more) net pins s) → Contains items h.pad
    → ((x : Item) → Contains more x → ¬ (AreJoined (items ++ more) h.pad x)) → IsIsland d items net pins s
older d items more net pins s h there none = record {
  net_is = h.net_is;
  first = h.first;
  first_is = h.first_is;
  pad = h.pad;
  pad_is = h.pad_is;
  pins_are = selects_alike (HasPadJoined d (items ++ more) h.pad) (HasPadJoined d items h.pad)
      (pads_from items more h.pad there none d) (pads_to items more h.pad there none d) pins s.pins h.pins_are;
  items_are = record {
    ascend = h.items_are.ascend;
    exact = λ id. (
      λ c. ids_from items more h.pad there none id ((h.items_are.exact id).0 c),
      λ j. (h.items_are.exact id).1 (ids_to items more h.pad there none id j),
    );
  };
}

-- ---- each island is one of the list of all
module _ (d : Design) (items : List Item) (net : ℕ) (pins : List ℕ) (sound : IsSound d) (serves : Serves items d)
    (apart : AreApart pins) where
  same_fields : (net net' : ℕ) (ps ps' qs qs' : List ℕ) → net ≡ net' → ps ≡ ps' → qs ≡ qs'
      → ◌≡◌ {A = Island} (record { net = net; pins = ps; items = qs }) (record { net = net'; pins = ps'; items = qs' })
  same_fields net net' ps ps' qs qs' e f g =
      ap (λ (n : ℕ). record { net = n; pins = ps; items = qs }) e
      ∙ ap (λ (us : List ℕ). record { net = net'; pins = us; items = qs }) f
      ∙ ap (λ (us : List ℕ). record { net = net'; pins = ps'; items = us }) g

  -- an island is fixed by its first pin
  one_island : (s t : Island) (hs : IsIsland d items net pins s) (ht : IsIsland d items net pins t)
      → ht.first ≡ hs.first → s ≡ t
  one_island s t hs ht same_first =
      let same_pad : ht.pad ≡ hs.pad =
      one_pad d sound hs.first ht.pad hs.pad (subst (λ (n : ℕ). IsPadOf d n ht.pad) same_first ht.pad_is)
      hs.pad_is in
      let t_items : AreIdsJoined items hs.pad t.items =
      subst (λ (a : Item). AreIdsJoined items a t.items) same_pad ht.items_are in
      let t_pins = subst (λ (a : Item). Selects (HasPadJoined d items a) pins t.pins) same_pad ht.pins_are in
      same_fields s.net t.net s.pins t.pins s.items t.items (hs.net_is ∙ sym ht.net_is)
      (selects_one (HasPadJoined d items hs.pad) pins s.pins t.pins hs.pins_are t_pins)
      (one_list s.items t.items (sorted_from_strictly_increasing s.items hs.items_are.ascend)
      (sorted_from_strictly_increasing t.items t_items.ascend)
      (λ z h. (t_items.exact z).1 ((hs.items_are.exact z).0 h))
      (λ z h. (hs.items_are.exact z).1 ((t_items.exact z).0 h)))

  -- the place at which an island begins
  begins : (s : Island) (h : IsIsland d items net pins s)
      → (i : ℕ) × BeginsAt pins i s × (slice_get pins i ≡ Some h.first)
  begins s h =
      let in_pins =
      (selected (HasPadJoined d items h.pad) pins s.pins h.first h.pins_are (in_from s.pins 0 h.first h.first_is)).1 in
      let at = look_at pins h.first in_pins in
      (in_pins.0, record { within = in_pins.1; first_is = h.first_is ∙ sym at }, at)

  pub one_by_first : (s t : Island) → IsIsland d items net pins s → IsIsland d items net pins t
      → slice_get s.pins 0 ≡ slice_get t.pins 0 → s ≡ t
  one_by_first s t hs ht same =
      one_island s t hs ht (same_Some ht.first hs.first (sym ht.first_is ∙ sym same ∙ hs.first_is))

  pub listed : (found : List Island) → AreIslandsOf d items net pins found → (s : Island)
      → IsIsland d items net pins s → Contains found s
  listed found are s h =
      let b = begins s h in
      let c = (All-contains (IsCovered found) pins h.first are.covered (in_from pins b.0 h.first b.2)).some in
      let t = c.1 in
      let t_in : Contains found t = (c.0, c.2, c.3) in
      let t_is = All-contains (IsIsland d items net pins) found t are.each t_in in
      let e = begins t t_is in
      let chosen = (selected (HasPadJoined d items t_is.pad) pins t.pins h.first t_is.pins_are c.4).0 in
      let joined : AreJoined items t_is.pad h.pad =
      subst (AreJoined items t_is.pad) (one_pad d sound h.first chosen.pad h.pad chosen.pad_is h.pad_is)
      chosen.joined in
      let back = joined_back touching_swapped items t_is.pad h.pad
      (pad_in d items serves t_is.first t_is.pad t_is.pad_is) joined in
      elim (below_or_same e.0 b.0) [
        | inl less ↦
            absurd (not_joined_before d items net pins apart s h b.0 b.1 e.0 t_is.first t_is.pad e.2 t_is.pad_is less
            back)
        | inr n ↦ elim n [
          | inl less ↦
              absurd (not_joined_before d items net pins apart t t_is e.0 e.1 b.0 h.first h.pad b.2 h.pad_is less
              joined)
          | inr same ↦
              subst (Contains found) (one_by_first t s t_is h
              (e.1.first_is ∙ ap (λ (i : ℕ). slice_get pins i) same ∙ sym b.1.first_is)) t_in
        ]
      ]
