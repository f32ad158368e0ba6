-- Islands of one net on two lists of items, of which the later has all that the other has.
use Rattle.std.proofs.Common.{◌≡◌, ◌≢◌, ℕ, ◌<◌, ◌≤◌, List, length, Some, sym, ◌∙◌, ap, subst, inl, inr, arith}
use Rattle.std.specs.Prelude.{Contains, slice_get}
use Rattle.std.specs.List.{AllZip}
use Rattle.std.proofs.lemmas.List.Elements.{All-contains, All-weaker}
use Rattle.std.proofs.lemmas.Map.Keys.{sorted_from_strictly_increasing, below_from_sorted}
use Rattle.std.proofs.lemmas.Option.{slice_get_within, get_or_from_slice_get, same_Some}
use Rattle.pcb_model.specs.declared.item.Item.{Item}
use Rattle.pcb_model.specs.declared.design.Design.{Design}
use Rattle.pcb_model.specs.Board.{AreJoined}
use Rattle.pcb_model.specs.Sound.{IsSound, Serves}
use Rattle.pcb_model.specs.Copper.{Ascends}
use Rattle.pcb_islands.specs.declared.net.Island.{Island}
use Rattle.pcb_islands.specs.Islands.{Selects, IsPadOf, HasPadJoined, AreIdsJoined, IsIsland, IsCovered, BeginsAt}
use Rattle.pcb_islands.specs.Islands.{AreIslandsOf, HasItemAt}
use Rattle.pcb_islands.proofs.Elements.{in_from, look_at, left_of, right_of, zip_length, zip_one}
use Rattle.pcb_islands.proofs.Joined.{one_item, TouchesBack, joined_on, joined_back}
use Rattle.pcb_islands.proofs.Touches.{below_or_same}
use Rattle.pcb_islands.proofs.Numbers.{Climbs, no_longer, shorter, one_list}
use Rattle.pcb_islands.proofs.Selects.{AreApart, selected, first_selected, selects_one}
use Rattle.pcb_islands.proofs.Classes.{pad_in, one_pad}
use Rattle.pcb_islands.proofs.Gathering.{island_at}

pub joined_later : (items later : List Item) → ((x : Item) → Contains items x → Contains later x) → (a b : Item)
    → AreJoined items a b → AreJoined later a b
joined_later items later more a b j =
    record {
      chain = j.chain;
      there = All-weaker (Contains items) (Contains later) more j.chain j.there;
      leads = j.leads;
    }

-- no pad of a pin before an island's first is joined to its pad
pub not_joined_before : (d : Design) (items : List Item) (net : ℕ) (pins : List ℕ) → AreApart pins
    → (t : Island) (h : IsIsland d items net pins t) (j : ℕ) → BeginsAt pins j t → (i y : ℕ) (pad : Item)
    → slice_get pins i ≡ Some y → IsPadOf d y pad → i < j → ¬ (AreJoined items h.pad pad)
not_joined_before d items net pins apart t h j at i y pad place pad_is less joined =
    first_selected (HasPadJoined d items h.pad) pins t.pins i j y apart h.pins_are at.first_is less at.within
    (subst (HasPadJoined d items h.pad) (sym (get_or_from_slice_get pins i y y place))
    (record { pad = pad; pad_is = pad_is; joined = joined }))

first_at : (d : Design) (items : List Item) (net : ℕ) (pins : List ℕ) (s : Island) (h : IsIsland d items net pins s)
    (i : ℕ) → BeginsAt pins i s → slice_get pins i ≡ Some h.first
first_at d items net pins s h i at = sym at.first_is ∙ h.first_is

module _ (d : Design) (items later : List Item) (net : ℕ) (sound : IsSound d) (serves : Serves items d)
    (back : TouchesBack) (more : (x : Item) → Contains items x → Contains later x) (pins : List ℕ)
    (apart : AreApart pins) (old found : List Island) (was : AreIslandsOf d items net pins old)
    (is : AreIslandsOf d later net pins found) where
  later_back : (a b : Item) → Contains items a → AreJoined later a b → AreJoined later b a
  later_back a b there j = joined_back back later a b (more a there) j

  -- a later island's first pin is the first of an island before
  begins_old : (q : ℕ) → Contains is.places q → Contains was.places q
  begins_old q q_in =
      let right = right_of (BeginsAt pins) is.places found q_in.0 q is.begin (look_at is.places q q_in) in
      let t = right.y in
      let t_is = island_at d later net pins found q_in.0 t is right.there in
      let x_at = first_at d later net pins t t_is q right.holds in
      let c = (All-contains (IsCovered old) pins t_is.first was.covered (in_from pins q t_is.first x_at)).some in
      let s = c.1 in
      let s_at = look_at old s (c.0, c.2, c.3) in
      let s_is = island_at d items net pins old c.0 s was s_at in
      let left = left_of (BeginsAt pins) was.places old c.0 s was.begin s_at in
      let p = left.x in
      let chosen = (selected (HasPadJoined d items s_is.pad) pins s.pins t_is.first s_is.pins_are c.4).0 in
      let joined : AreJoined items s_is.pad t_is.pad =
      subst (AreJoined items s_is.pad) (one_pad d sound t_is.first chosen.pad t_is.pad chosen.pad_is t_is.pad_is)
      chosen.joined in
      elim (below_or_same p q) [
        | inl less ↦
            absurd (not_joined_before d later net pins apart t t_is q right.holds p s_is.first s_is.pad
            (first_at d items net pins s s_is p left.holds) s_is.pad_is less
            (later_back s_is.pad t_is.pad (pad_in d items serves s_is.first s_is.pad s_is.pad_is)
            (joined_later items later more s_is.pad t_is.pad joined)))
        | inr n ↦ elim n [
          | inl less ↦
              absurd (not_joined_before d items net pins apart s s_is p left.holds q t_is.first t_is.pad x_at
              t_is.pad_is less joined)
          | inr same ↦ subst (Contains was.places) same (in_from was.places c.0 p left.there)
        ]
      ]

  old_climbs : Climbs was.places
  old_climbs = sorted_from_strictly_increasing was.places was.ascend

  new_climbs : Climbs is.places
  new_climbs = sorted_from_strictly_increasing is.places is.ascend

  pub no_more_islands : length found ≤ length old
  no_more_islands =
      omega (
        arith,
        no_longer was.places is.places new_climbs old_climbs begins_old,
        zip_length (BeginsAt pins) was.places old was.begin,
        zip_length (BeginsAt pins) is.places found is.begin,
      )

  -- two islands whose pads are joined later: the second's first pin is no first pin any more
  merged : (s t : Island) (hs : IsIsland d items net pins s) (ht : IsIsland d items net pins t) (p q : ℕ)
      → BeginsAt pins p s → BeginsAt pins q t → p < q → AreJoined later hs.pad ht.pad → ¬ (Contains is.places q)
  merged s t hs ht p q at_p at_q less joined q_in =
      let right = right_of (BeginsAt pins) is.places found q_in.0 q is.begin (look_at is.places q q_in) in
      let u_is = island_at d later net pins found q_in.0 right.y is right.there in
      let same_first : ht.first ≡ u_is.first =
      same_Some ht.first u_is.first
      (sym (first_at d items net pins t ht q at_q) ∙ first_at d later net pins right.y u_is q right.holds) in
      let same_pad : ht.pad ≡ u_is.pad =
      one_pad d sound ht.first ht.pad u_is.pad ht.pad_is
      (subst (λ (n : ℕ). IsPadOf d n u_is.pad) (sym same_first) u_is.pad_is) in
      not_joined_before d later net pins apart right.y u_is q right.holds p hs.first hs.pad
      (first_at d items net pins s hs p at_p) hs.pad_is less
      (subst (λ (x : Item). AreJoined later x hs.pad) same_pad
      (later_back hs.pad ht.pad (pad_in d items serves hs.first hs.pad hs.pad_is) joined))

  -- the same by their places among the islands
  fewer_by_places : (i j : ℕ) (s t : Island) (s_at : slice_get old i ≡ Some s) (t_at : slice_get old j ≡ Some t) → i < j
      → ¬ (¬ (AreJoined later (island_at d items net pins old i s was s_at).pad
      (island_at d items net pins old j t was t_at).pad)) → length found < length old
  fewer_by_places i j s t s_at t_at less joined =
      let hs = island_at d items net pins old i s was s_at in
      let ht = island_at d items net pins old j t was t_at in
      let p = left_of (BeginsAt pins) was.places old i s was.begin s_at in
      let q = left_of (BeginsAt pins) was.places old j t was.begin t_at in
      let within : j < length was.places = slice_get_within was.places j q.x q.there in
      let climb = below_from_sorted was.places i j 0 old_climbs less within in
      let p_less : p.x < q.x =
      omega (
        arith,
        climb,
        get_or_from_slice_get was.places i p.x 0 p.there,
        get_or_from_slice_get was.places j q.x 0 q.there,
      ) in
      let gone : ¬ (Contains is.places q.x) =
      λ still. joined (λ one. merged s t hs ht p.x q.x p.holds q.holds p_less one still) in
      omega (
        arith,
        shorter was.places is.places q.x new_climbs old_climbs begins_old (in_from was.places j q.x q.there) gone,
        zip_length (BeginsAt pins) was.places old was.begin,
        zip_length (BeginsAt pins) is.places found is.begin,
      )

  -- an item of an island is joined to its pad
  pad_joins : Ascends items → (i : ℕ) (a : Item) → Contains items a → (h : HasItemAt old i a.id)
      → AreJoined items (island_at d items net pins old i h.island was h.there).pad a
  pad_joins up i a there h =
      let s = island_at d items net pins old i h.island was h.there in
      let e = (s.items_are.exact a.id).0 h.has in
      subst (AreJoined items s.pad) (one_item items up e.item a e.there there e.id_is) e.joined

  fewer_in_order : Ascends items → (i j : ℕ) (a b : Item) → Contains items a → Contains items b → HasItemAt old i a.id
      → HasItemAt old j b.id → i < j → ¬ (¬ (AreJoined later a b)) → length found < length old
  fewer_in_order up i j a b a_in b_in at_i at_j less joined =
      let hs = island_at d items net pins old i at_i.island was at_i.there in
      let ht = island_at d items net pins old j at_j.island was at_j.there in
      let to_a = joined_later items later more hs.pad a (pad_joins up i a a_in at_i) in
      let to_b = joined_later items later more ht.pad b (pad_joins up j b b_in at_j) in
      let from_b = later_back ht.pad b (pad_in d items serves ht.first ht.pad ht.pad_is) to_b in
      fewer_by_places i j at_i.island at_j.island at_i.there at_j.there less
      (λ none. joined (λ one. none (joined_on later hs.pad a ht.pad to_a (joined_on later a b ht.pad one from_b))))

  pub fewer_islands : Ascends items → (i j : ℕ) (a b : Item) → Contains items a → Contains items b
      → HasItemAt old i a.id → HasItemAt old j b.id → i ≢ j → ¬ (¬ (AreJoined later a b)) → length found < length old
  fewer_islands up i j a b a_in b_in at_i at_j apart_places joined = elim (below_or_same i j) [
    | inl less ↦ fewer_in_order up i j a b a_in b_in at_i at_j less joined
    | inr n ↦ elim n [
      | inl less ↦
          fewer_in_order up j i b a b_in a_in at_j at_i less (λ none. joined (λ one. none (later_back a b a_in one)))
      | inr same ↦ absurd (apart_places same)
    ]
  ]

-- ---- one list of islands
module _ (d : Design) (items : List Item) (net : ℕ) (sound : IsSound d) (pins : List ℕ) where
  same_fields : (net net' : ℕ) (ps ps' qs qs' : List ℕ) → net ≡ net' → ps ≡ ps' → qs ≡ qs'
      → ◌≡◌ {A = Island} (record { net = net; pins = ps; items = qs }) (record { net = net'; pins = ps'; items = qs' })
  same_fields net net' ps ps' qs qs' e f g =
      ap (λ (n : ℕ). record { net = n; pins = ps; items = qs }) e
      ∙ ap (λ (us : List ℕ). record { net = net'; pins = us; items = qs }) f
      ∙ ap (λ (us : List ℕ). record { net = net'; pins = ps'; items = us }) g

  -- an island is fixed by the place at which it begins
  one_island : (s t : Island) → IsIsland d items net pins s → IsIsland d items net pins t → (i : ℕ) → BeginsAt pins i s
      → BeginsAt pins i t → s ≡ t
  one_island s t hs ht i at_s at_t =
      let same_first : ht.first ≡ hs.first =
      same_Some ht.first hs.first (sym ht.first_is ∙ at_t.first_is ∙ sym at_s.first_is ∙ hs.first_is) in
      let same_pad : ht.pad ≡ hs.pad =
      one_pad d sound hs.first ht.pad hs.pad (subst (λ (n : ℕ). IsPadOf d n ht.pad) same_first ht.pad_is)
      hs.pad_is in
      let t_items : AreIdsJoined items hs.pad t.items =
      subst (λ (a : Item). AreIdsJoined items a t.items) same_pad ht.items_are in
      let t_pins = subst (λ (a : Item). Selects (HasPadJoined d items a) pins t.pins) same_pad ht.pins_are in
      same_fields s.net t.net s.pins t.pins s.items t.items (hs.net_is ∙ sym ht.net_is)
      (selects_one (HasPadJoined d items hs.pad) pins s.pins t.pins hs.pins_are t_pins)
      (one_list s.items t.items (sorted_from_strictly_increasing s.items hs.items_are.ascend)
      (sorted_from_strictly_increasing t.items t_items.ascend)
      (λ z h. (t_items.exact z).1 ((hs.items_are.exact z).0 h))
      (λ z h. (hs.items_are.exact z).1 ((t_items.exact z).0 h)))

  pub one_list_of_islands : Serves items d → TouchesBack → AreApart pins → (found others : List Island)
      → AreIslandsOf d items net pins found → AreIslandsOf d items net pins others → found ≡ others
  one_list_of_islands serves back apart found others are too =
      let same : are.places ≡ too.places =
      one_list are.places too.places (sorted_from_strictly_increasing are.places are.ascend)
      (sorted_from_strictly_increasing too.places too.ascend)
      (begins_old d items items net sound serves back (λ x h. h) pins apart others found too are)
      (begins_old d items items net sound serves back (λ x h. h) pins apart found others are too) in
      zip_one (BeginsAt pins) too.places found others
      (subst (λ (ps : List ℕ). AllZip (BeginsAt pins) ps found) same are.begin) too.begin
      (λ i s t s_in t_in at_s at_t. one_island s t (All-contains (IsIsland d items net pins) found s are.each s_in)
      (All-contains (IsIsland d items net pins) others t too.each t_in) i at_s at_t)
