-- The islands of copper that is the same have the same pins, in the same order.
use Rattle.std.proofs.Common.{◌≡◌, inl, inr, ℕ, List, [], ◌∷◌, Some, sym, ◌∙◌, ap, subst}
use Rattle.std.specs.Prelude.{Contains, slice_get, map}
use Rattle.std.specs.List.{AllZip}
use Rattle.std.proofs.lemmas.List.Elements.{All-contains}
use Rattle.std.proofs.lemmas.Map.Keys.{sorted_from_strictly_increasing}
use Rattle.std.proofs.lemmas.Option.{same_Some}
use Rattle.pcb_model.specs.declared.item.Item.{Item}
use Rattle.pcb_model.specs.declared.design.Design.{Design}
use Rattle.pcb_model.specs.Pairs.{AreTouching}
use Rattle.pcb_model.specs.Board.{AreJoined}
use Rattle.pcb_model.specs.Sound.{IsSound, Serves}
use Rattle.pcb_islands.specs.declared.net.Island.{Island}
use Rattle.pcb_islands.specs.Islands.{Selects, IsPadOf, HasPadJoined, IsIsland, IsCovered, BeginsAt, AreIslandsOf}
use Rattle.pcb_islands.specs.Islands.{AreIslands, pins_of}
use Rattle.pcb_islands.proofs.Elements.{in_from, in_here, in_later, look_at, left_of, right_of}
use Rattle.pcb_islands.proofs.Joined.{joined_back}
use Rattle.pcb_islands.proofs.Touches.{below_or_same}
use Rattle.pcb_islands.proofs.Numbers.{one_list}
use Rattle.pcb_islands.proofs.Pads.{net_pins}
use Rattle.pcb_islands.proofs.Selects.{AreApart, selected, selects_one, selects_alike}
use Rattle.pcb_islands.proofs.Classes.{pad_in, one_pad}
use Rattle.pcb_islands.proofs.Gathering.{island_at}
use Rattle.pcb_islands.proofs.Merging.{not_joined_before}
use Rattle.copper_alike.specs.Twins.{ShowSame, HasTwin}
use Rattle.copper_alike.proofs.Joined.{joined_alike}

-- an island's first pin, at the place where it begins
first_at : (d : Design) (items : List Item) (net : ℕ) (pins : List ℕ) (s : Island) (h : IsIsland d items net pins s)
    (i : ℕ) → BeginsAt pins i s → slice_get pins i ≡ Some h.first
first_at d items net pins s h i at = sym at.first_is ∙ h.first_is

abbrev pub pins_in : Island → List ℕ
pins_in s = s.pins

module _ (back : (a b : Item) → AreTouching a b → AreTouching b a) (d : Design) (net : ℕ) (sound : IsSound d)
    (pins : List ℕ) (apart : AreApart pins) where
  module _ (xs ys : List Item) (xs_serve : Serves xs d) (ys_serve : Serves ys d)
      (to : (a : Item) → Contains xs a → HasTwin ys a) where
    -- pads stay joined
    pads_alike : (i j : ℕ) (a b : Item) → IsPadOf d i a → IsPadOf d j b → AreJoined xs a b → AreJoined ys a b
    pads_alike i j a b p q joined = joined_alike back xs ys to a b (pad_in d ys ys_serve i a p)
        (pad_in d ys ys_serve j b q) joined

    pin_alike : (i : ℕ) (a : Item) → IsPadOf d i a → (j : ℕ) → HasPadJoined d xs a j → HasPadJoined d ys a j
    pin_alike i a p j h =
        record { pad = h.pad; pad_is = h.pad_is; joined = pads_alike i j a h.pad p h.pad_is h.joined }

  module _ (xs ys : List Item) (xs_serve : Serves xs d) (ys_serve : Serves ys d) (same : ShowSame xs ys)
      (old found : List Island) (was : AreIslandsOf d xs net pins old) (is : AreIslandsOf d ys net pins found) where
    -- an island's first pin on the one is the first of an island on the other
    begins_alike : (q : ℕ) → Contains is.places q → Contains was.places q
    begins_alike q q_in =
        let right = right_of (BeginsAt pins) is.places found q_in.0 q is.begin (look_at is.places q q_in) in
        let t = right.y in
        let t_is = island_at d ys net pins found q_in.0 t is right.there in
        let x_at = first_at d ys net pins t t_is q right.holds in
        let c = (All-contains (IsCovered old) pins t_is.first was.covered (in_from pins q t_is.first x_at)).some in
        let s = c.1 in
        let s_at = look_at old s (c.0, c.2, c.3) in
        let s_is = island_at d xs net pins old c.0 s was s_at in
        let left = left_of (BeginsAt pins) was.places old c.0 s was.begin s_at in
        let p = left.x in
        let chosen = (selected (HasPadJoined d xs s_is.pad) pins s.pins t_is.first s_is.pins_are c.4).0 in
        let joined : AreJoined xs s_is.pad t_is.pad =
        subst (AreJoined xs s_is.pad) (one_pad d sound t_is.first chosen.pad t_is.pad chosen.pad_is t_is.pad_is)
        chosen.joined in
        elim (below_or_same p q) [
          | inl less ↦
              absurd (not_joined_before d ys net pins apart t t_is q right.holds p s_is.first s_is.pad
              (first_at d xs net pins s s_is p left.holds) s_is.pad_is less
              (joined_back back ys s_is.pad t_is.pad (pad_in d ys ys_serve s_is.first s_is.pad s_is.pad_is)
              (pads_alike xs ys xs_serve ys_serve same.to s_is.first t_is.first s_is.pad t_is.pad s_is.pad_is
              t_is.pad_is joined)))
          | inr n ↦ elim n [
            | inl less ↦
                absurd (not_joined_before d xs net pins apart s s_is p left.holds q t_is.first t_is.pad x_at
                t_is.pad_is less joined)
            | inr one ↦ subst (Contains was.places) one (in_from was.places c.0 p left.there)
          ]
        ]

  -- two islands that begin at one place have the same pins
  module _ (xs ys : List Item) (xs_serve : Serves xs d) (ys_serve : Serves ys d) (same : ShowSame xs ys) where
    one_place : (s t : Island) → IsIsland d xs net pins s → IsIsland d ys net pins t → (i : ℕ) → BeginsAt pins i s
        → BeginsAt pins i t → s.pins ≡ t.pins
    one_place s t hs ht i at_s at_t =
        let same_first : ht.first ≡ hs.first =
        same_Some ht.first hs.first (sym ht.first_is ∙ at_t.first_is ∙ sym at_s.first_is ∙ hs.first_is) in
        let same_pad : ht.pad ≡ hs.pad =
        one_pad d sound hs.first ht.pad hs.pad (subst (λ (n : ℕ). IsPadOf d n ht.pad) same_first ht.pad_is)
        hs.pad_is in
        let t_pins = subst (λ (a : Item). Selects (HasPadJoined d ys a) pins t.pins) same_pad ht.pins_are in
        selects_one (HasPadJoined d ys hs.pad) pins s.pins t.pins
        (selects_alike (HasPadJoined d xs hs.pad) (HasPadJoined d ys hs.pad)
        (pin_alike xs ys xs_serve ys_serve same.to hs.first hs.pad hs.pad_is)
        (pin_alike ys xs ys_serve xs_serve same.from hs.first hs.pad hs.pad_is) pins s.pins hs.pins_are) t_pins

    zip_pins : (places : List ℕ) (old found : List Island) → AllZip (BeginsAt pins) places old
        → AllZip (BeginsAt pins) places found → ((s : Island) → Contains old s → IsIsland d xs net pins s)
        → ((t : Island) → Contains found t → IsIsland d ys net pins t) → map pins_in old ≡ map pins_in found
    zip_pins [] [] [] p q f g = λ i. []
    zip_pins [] [] (t ∷ ts) p q f g = absurd q
    zip_pins [] (s ∷ ss) ts p q f g = absurd p
    zip_pins (i ∷ is) [] ts p q f g = absurd p
    zip_pins (i ∷ is) (s ∷ ss) [] p q f g = absurd q
    zip_pins (i ∷ is) (s ∷ ss) (t ∷ ts) p q f g =
        ap (λ (ps : List ℕ). ps ∷ map pins_in ss)
        (one_place s t (f s (in_here s ss)) (g t (in_here t ts)) i p.0 q.0)
        ∙ ap (λ (pss : List (List ℕ)). t.pins ∷ pss)
        (zip_pins is ss ts p.1 q.1 (λ x h. f x (in_later s x ss h)) (λ x h. g x (in_later t x ts h)))

    pub same_pins : (old found : List Island) → AreIslandsOf d xs net pins old → AreIslandsOf d ys net pins found
        → map pins_in old ≡ map pins_in found
    same_pins old found was is =
        let back_same : ShowSame ys xs = record { to = same.from; from = same.to } in
        let one : was.places ≡ is.places =
        one_list was.places is.places (sorted_from_strictly_increasing was.places was.ascend)
        (sorted_from_strictly_increasing is.places is.ascend)
        (begins_alike ys xs ys_serve xs_serve back_same found old is was)
        (begins_alike xs ys xs_serve ys_serve same old found was is) in
        zip_pins is.places old found (subst (λ (ps : List ℕ). AllZip (BeginsAt pins) ps old) one was.begin) is.begin
        (λ s h. All-contains (IsIsland d xs net pins) old s was.each h)
        (λ t h. All-contains (IsIsland d ys net pins) found t is.each h)

pub islands_alike : (back : (a b : Item) → AreTouching a b → AreTouching b a) (d : Design) (net : ℕ) → IsSound d
    → (xs ys : List Item) → Serves xs d → Serves ys d → ShowSame xs ys → (old found : List Island)
    → AreIslands d xs net old → AreIslands d ys net found → map pins_in old ≡ map pins_in found
islands_alike back d net sound xs ys p q same old found was is =
    same_pins back d net sound (pins_of d net) (net_pins d net sound).0 xs ys p q same old found was is
