-- A net has at most one island exactly where all its pads are joined.
use Rattle.std.proofs.Common.{◌≡◌, ℕ, ◌<◌, ◌≤◌, List, [], ◌∷◌, length, get_or, sym, ◌∙◌, ap, subst, arith}
use Rattle.std.specs.Prelude.{Contains, slice_get, ◌↔◌}
use Rattle.std.specs.List.{AllZip}
use Rattle.std.specs.List.Sorted.{IsStrictlyIncreasing}
use Rattle.std.proofs.lemmas.List.Elements.{All-contains}
use Rattle.std.proofs.lemmas.Option.{get_or_from_slice_get, same_Some}
use Rattle.pcb_model.specs.declared.item.Item.{Item}
use Rattle.pcb_model.specs.declared.design.Design.{Design}
use Rattle.pcb_model.specs.Board.{AreJoined}
use Rattle.pcb_model.specs.Sound.{IsSound, Serves}
use Rattle.pcb_islands.specs.declared.net.Island.{Island}
use Rattle.pcb_islands.specs.Islands.{pins_of, HasPadJoined, IsIsland, IsCovered, BeginsAt, AreIslandsOf, AreIslands}
use Rattle.pcb_islands.specs.Islands.{ArePinsJoined, IsComplete}
use Rattle.pcb_islands.proofs.Elements.{look_at, in_from, in_here, in_later}
use Rattle.pcb_islands.proofs.Joined.{TouchesBack, joined_on, joined_back}
use Rattle.pcb_islands.proofs.Pads.{net_pins}
use Rattle.pcb_islands.proofs.Selects.{AreApart, selected, first_selected}
use Rattle.pcb_islands.proofs.Classes.{pad_in, one_pad}

-- where the first two islands begin
record TwoBegin (pins : List ℕ) (s t : Island) : Type 0 where
  i : ℕ
  j : ℕ
  first : BeginsAt pins i s
  second : BeginsAt pins j t
  less : i < j

two_begin : (pins : List ℕ) (s t : Island) (rest : List Island) (places : List ℕ)
    → AllZip (BeginsAt pins) places (s ∷ t ∷ rest) → IsStrictlyIncreasing places → TwoBegin pins s t
two_begin pins s t rest [] all up = absurd all
two_begin pins s t rest (i ∷ []) all up = absurd all.1
two_begin pins s t rest (i ∷ j ∷ ps) all up =
    record { i = i; j = j; first = all.0; second = all.1.0; less = up 0 (omega arith) }

module _ (d : Design) (items : List Item) (net : ℕ) (sound : IsSound d) (serves : Serves items d) (back : TouchesBack)
  where
    -- two pins to whose pads one item is joined are joined
    both : (a : Item) (i j : ℕ) → Contains items a → HasPadJoined d items a i → HasPadJoined d items a j
        → ArePinsJoined d items i j
    both a i j there h k = record {
      pad = h.pad;
      pad_is = h.pad_is;
      joined = record {
        pad = k.pad;
        pad_is = k.pad_is;
        joined = joined_on items h.pad a k.pad (joined_back back items a h.pad there h.joined) k.joined;
      };
    }

    module _ (pins : List ℕ) (found : List Island) (are : AreIslandsOf d items net pins found) where
      -- where there is one island at most, each two pins are in it
      one_joins : length found ≤ 1 → (i j : ℕ) → Contains pins i → Contains pins j → ArePinsJoined d items i j
      one_joins few i j i_in j_in =
          let a = (All-contains (IsCovered found) pins i are.covered i_in).some in
          let b = (All-contains (IsCovered found) pins j are.covered j_in).some in
          let same : a.0 ≡ b.0 = omega (arith, a.2, b.2) in
          let at_a = look_at found a.1 (a.0, a.2, a.3) in
          let at_b = look_at found b.1 (b.0, b.2, b.3) in
          let is : b.1 ≡ a.1 = same_Some b.1 a.1 (sym at_b ∙ ap (λ (n : ℕ). slice_get found n) (sym same) ∙ at_a) in
          let s = All-contains (IsIsland d items net pins) found a.1 are.each (a.0, a.2, a.3) in
          let j_has : Contains a.1.pins j = subst (λ (t : Island). Contains t.pins j) is b.4 in
          both s.pad i j (pad_in d items serves s.first s.pad s.pad_is)
          (selected (HasPadJoined d items s.pad) pins a.1.pins i s.pins_are a.4).0
          (selected (HasPadJoined d items s.pad) pins a.1.pins j s.pins_are j_has).0

      -- the first pin of an island is no pin of an island before
      not_before : AreApart pins
          → (s t : Island) (hs : IsIsland d items net pins s) (ht : IsIsland d items net pins t) (i j : ℕ)
          → BeginsAt pins i s → BeginsAt pins j t → i < j → ¬ (AreJoined items ht.pad hs.pad)
      not_before apart s t hs ht i j at_i at_j less joined =
          let place : get_or pins i hs.first ≡ hs.first =
          get_or_from_slice_get pins i hs.first hs.first (sym at_i.first_is ∙ hs.first_is) in
          first_selected (HasPadJoined d items ht.pad) pins t.pins i j hs.first apart ht.pins_are at_j.first_is less
          at_j.within
          (subst (HasPadJoined d items ht.pad) (sym place)
          (record { pad = hs.pad; pad_is = hs.pad_is; joined = joined }))

      -- an island's first pin is of the list
      first_in : (s : Island) (h : IsIsland d items net pins s) → Contains pins h.first
      first_in s h =
          (selected (HasPadJoined d items h.pad) pins s.pins h.first h.pins_are (in_from s.pins 0 h.first h.first_is)).1

    -- the first two islands, where there are two, would be one
    two_apart : (pins : List ℕ) (s t : Island) (rest : List Island) → AreApart pins
        → AreIslandsOf d items net pins (s ∷ t ∷ rest)
        → ((i j : ℕ) → Contains pins i → Contains pins j → ArePinsJoined d items i j) → ⊥
    two_apart pins s t rest apart are complete =
        let hs = All-contains (IsIsland d items net pins) (s ∷ t ∷ rest) s are.each (in_here s (t ∷ rest)) in
        let ht = All-contains (IsIsland d items net pins) (s ∷ t ∷ rest) t are.each
        (in_later s t (t ∷ rest) (in_here t rest)) in
        let j = complete ht.first hs.first (first_in pins (s ∷ t ∷ rest) are t ht)
        (first_in pins (s ∷ t ∷ rest) are s hs) in
        let from_t : AreJoined items ht.pad j.joined.pad =
        subst (λ (x : Item). AreJoined items x j.joined.pad)
        (one_pad d sound ht.first j.pad ht.pad j.pad_is ht.pad_is) j.joined.joined in
        let to_s : AreJoined items ht.pad hs.pad =
        subst (AreJoined items ht.pad) (one_pad d sound hs.first j.joined.pad hs.pad j.joined.pad_is hs.pad_is)
        from_t in
        let two = two_begin pins s t rest are.places are.begin are.ascend in
        not_before pins (s ∷ t ∷ rest) are apart s t hs ht two.i two.j two.first two.second two.less to_s

    few : (pins : List ℕ) (found : List Island) → AreApart pins → AreIslandsOf d items net pins found
        → ((i j : ℕ) → Contains pins i → Contains pins j → ArePinsJoined d items i j) → length found ≤ 1
    few pins [] apart are complete = omega arith
    few pins (s ∷ []) apart are complete = omega arith
    few pins (s ∷ t ∷ rest) apart are complete = absurd (two_apart pins s t rest apart are complete)

    pub whole : (found : List Island) → AreIslands d items net found → (length found ≤ 1) ↔ IsComplete d items net
    whole found are = (one_joins (pins_of d net) found are, few (pins_of d net) found (net_pins d net sound).0 are)
