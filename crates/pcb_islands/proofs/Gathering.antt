-- One pin more is gathered.
use Rattle.std.proofs.Common.{◌≡◌, ◌≢◌, ℕ, ◌<◌, List, [], ◌∷◌, ◌++◌, length, get_or, Some, None, refl, sym, ◌∙◌, ap}
use Rattle.std.proofs.Common.{subst, inl, inr, ◌⊎◌, arith}
use Rattle.std.specs.Prelude.{Contains, All, slice_get}
use Rattle.std.specs.List.{AllZip}
use Rattle.std.proofs.Math.ListN.{set}
use Rattle.std.proofs.lemmas.List.{length_push, get_or_append_left, length-set, get_or-set_same, get_or-set_other}
use Rattle.std.proofs.lemmas.List.Elements.{All-nil, All-cons, All-contains, All-push, All-weaker, Contains-append_left}
use Rattle.std.proofs.lemmas.List.Elements.{Contains-push}
use Rattle.std.proofs.lemmas.Option.{slice_get-get_or, slice_get_within, same_Some, none-some}
use Rattle.std.proofs.lemmas.List.Quantifiers.{Any-push}
use Rattle.geo_kernel.proofs.Ascending.{ascend_push}
use Rattle.pcb_model.specs.declared.item.Item.{Item}
use Rattle.pcb_model.specs.declared.design.Design.{Design}
use Rattle.pcb_model.specs.Board.{AreJoined}
use Rattle.pcb_model.specs.Sound.{IsSound, Serves}
use Rattle.pcb_model.specs.Copper.{Ascends}
use Rattle.pcb_islands.specs.declared.net.Island.{Island}
use Rattle.pcb_islands.specs.Islands.{IsPadOf, HasPadJoined, AreIdsJoined, IsIsland, IsCovered, BeginsAt, AreIslandsOf}
use Rattle.pcb_islands.specs.Islands.{HasItemAt}
use Rattle.pcb_islands.specs.inner.Numbers.{place_at}
use Rattle.pcb_islands.specs.inner.Progress.{IsProgress, ArePlaced, HasPinMore, HasIslandMore}
use Rattle.pcb_islands.proofs.Elements.{in_none, in_here, in_later, in_cons, look_at, look_left, look_last, look_same}
use Rattle.pcb_islands.proofs.Elements.{look_cases, look_set_same, look_set_other, in_from, zip_set, zip_weaker}
use Rattle.pcb_islands.proofs.Elements.{zip_push}
use Rattle.pcb_islands.proofs.Joined.{one_item, TouchesBack, joined_self, joined_on, joined_back}
use Rattle.pcb_islands.proofs.Pads.{same_or_not}
use Rattle.pcb_islands.proofs.Selects.{selects_more, selects_same, selects_none, selected}
use Rattle.pcb_islands.proofs.Classes.{pad_in, to_pad, by_pad}

-- the island at a place is one
pub island_at : (d : Design) (items : List Item) (net : ℕ) (pins : List ℕ) (found : List Island) (k : ℕ) (s : Island)
    → AreIslandsOf d items net pins found → slice_get found k ≡ Some s → IsIsland d items net pins s
island_at d items net pins found k s are e =
    All-contains (IsIsland d items net pins) found s are.each (in_from found k s e)

-- what stands at a place of a longer list of pins
pub begins_more : (pins : List ℕ) (pin i : ℕ) (s : Island) → BeginsAt pins i s → BeginsAt (pins ++ pin ∷ []) i s
begins_more pins pin i s b = record {
  within = omega (arith, b.within, length_push pins pin);
  first_is = b.first_is ∙ sym (look_same pins (pin ∷ []) i b.within);
}

-- ---- orders and members
-- what a relation says of the left elements
pub zip_left : {A B : Type 0} (R : A → B → Type 0) (P : A → Type 0) (xs : List A) (ys : List B)
    → ((x : A) (y : B) → R x y → P x) → AllZip R xs ys → All P xs
zip_left R P [] ys says all = All-nil P
zip_left R P (x ∷ xs) [] says all = absurd all
zip_left R P (x ∷ xs) (y ∷ ys) says all = All-cons P x xs (says x y all.0) (zip_left R P xs ys says all.1)

-- a number is in a list or not
pub in_or_not : (xs : List ℕ) (q : ℕ) → Contains xs q ⊎ ¬ (Contains xs q)
in_or_not [] q = inr (in_none q)
in_or_not (x ∷ xs) q = elim (same_or_not x q) [
  | inl same ↦ inl (subst (Contains (x ∷ xs)) same (in_here x xs))
  | inr apart ↦ elim (in_or_not xs q) [
    | inl more ↦ inl (in_later x q xs more)
    | inr none ↦ inr (λ h. elim (in_cons x q xs h) [ inl same ↦ apart same | inr more ↦ none more ])
  ]
]

-- ---- at the start
pub none_gathered : (d : Design) (items : List Item) (net : ℕ) → IsProgress d items net [] [] []
none_gathered d items net = record {
  islands = record {
    each = All-nil (IsIsland d items net []);
    covered = All-nil (IsCovered []);
    places = [];
    ascend = λ k within. absurd (omega arith);
    begin = tt;
  };
  each = λ id place e. absurd (cc e);
  whole = λ id place h. let e = h.there in absurd (cc e);
}

module _ (d : Design) (items : List Item) (net : ℕ) (sound : IsSound d) (serves : Serves items d) (up : Ascends items)
    (pins : List ℕ) (pin : ℕ) (pad : Item) (pad_is : IsPadOf d pin pad) where
  pad_there : Contains items pad
  pad_there = pad_in d items serves pin pad pad_is

  -- an island to which the pin's pad is joined has it
  pub has_pad : (s : Island) (h : IsIsland d items net pins s) → AreJoined items h.pad pad → Contains s.items pad.id
  has_pad s h j = (h.items_are.exact pad.id).1 (record { item = pad; there = pad_there; id_is = refl; joined = j })

  -- and what has it is joined to it
  joins_pad : (s : Island) (h : IsIsland d items net pins s) → Contains s.items pad.id → HasPadJoined d items h.pad pin
  joins_pad s h c = let e = (h.items_are.exact pad.id).0 c in
      record {
        pad = pad;
        pad_is = pad_is;
        joined = subst (AreJoined items h.pad) (one_item items up e.item pad e.there pad_there e.id_is) e.joined;
      }

  -- an island without the pad stays as it is
  stays : (s : Island) → IsIsland d items net pins s → ¬ (Contains s.items pad.id)
      → IsIsland d items net (pins ++ pin ∷ []) s
  stays s h n = record {
    net_is = h.net_is;
    first = h.first;
    first_is = h.first_is;
    pad = h.pad;
    pad_is = h.pad_is;
    pins_are = selects_same (HasPadJoined d items h.pad) pins s.pins pin h.pins_are
        (λ j. n (has_pad s h (to_pad d items sound h.pad pin pad pad_is j)));
    items_are = h.items_are;
  }

  abbrev with_pin : Island → Island
  with_pin s = record s { pins = s.pins ++ pin ∷ [] }

  -- one with the pad takes the pin
  takes : (s : Island) → IsIsland d items net pins s → Contains s.items pad.id
      → IsIsland d items net (pins ++ pin ∷ []) (with_pin s)
  takes s h c = record {
    net_is = h.net_is;
    first = h.first;
    first_is = look_left s.pins (pin ∷ []) 0 h.first h.first_is;
    pad = h.pad;
    pad_is = h.pad_is;
    pins_are = selects_more (HasPadJoined d items h.pad) pins s.pins pin h.pins_are (joins_pad s h c);
    items_are = h.items_are;
  }

  module _ (found : List Island) (places : List (ℕ × ℕ)) (g : IsProgress d items net pins found places) where
    -- ---- a pin that joins the island at a place
    module _ (place : ℕ) (s : Island) (at : slice_get found place ≡ Some s) (e : place_at places pad.id ≡ Some place)
      where
        abbrev joined_by : List Island
        joined_by = set found place (with_pin s)

        place_within : place < length found
        place_within = slice_get_within found place s at

        s_is : IsIsland d items net pins s
        s_is = island_at d items net pins found place s g.islands at

        s_has : Contains s.items pad.id
        s_has = let h = g.each pad.id place e in
            subst (λ (t : Island). Contains t.items pad.id) (same_Some h.island s (sym h.there ∙ at)) h.has

        other_is : (k : ℕ) (t : Island) → k ≢ place → slice_get found k ≡ Some t
            → IsIsland d items net (pins ++ pin ∷ []) t
        other_is k t apart t_at = stays t (island_at d items net pins found k t g.islands t_at)
            (λ c. apart (same_Some k place (sym (g.whole pad.id k (record { island = t; there = t_at; has = c })) ∙ e)))

        each_joined : All (IsIsland d items net (pins ++ pin ∷ [])) joined_by
        each_joined k x within = elim (same_or_not k place) [
          | inl same ↦ subst (λ (n : ℕ). IsIsland d items net (pins ++ pin ∷ []) (get_or joined_by n x)) (sym same)
              (subst (IsIsland d items net (pins ++ pin ∷ []))
              (sym (get_or-set_same found place (with_pin s) x place_within)) (takes s s_is s_has))
          | inr apart ↦
              let inside : k < length found = omega (arith, within, length-set found place (with_pin s)) in
              subst (IsIsland d items net (pins ++ pin ∷ []))
              (sym (get_or-set_other found place k (with_pin s) x apart))
              (other_is k (get_or found k x) apart (slice_get-get_or found k x inside))
        ]

        set_within : place < length joined_by
        set_within = omega (arith, place_within, length-set found place (with_pin s))

        same_island : (k : ℕ) (t : Island) → k ≡ place → slice_get found k ≡ Some t → t ≡ s
        same_island k t same t_at = same_Some t s (sym t_at ∙ ap (λ (n : ℕ). slice_get found n) same ∙ at)

        cover : (q : ℕ) → IsCovered found q → IsCovered joined_by q
        cover q c = let a = c.some in elim (same_or_not a.0 place) [
          | inl same ↦ record {
            some = (
              place,
              with_pin s,
              set_within,
              get_or-set_same found place (with_pin s) (with_pin s) place_within,
              Contains-append_left s.pins (pin ∷ []) q
                  (subst (λ (t : Island). Contains t.pins q)
                  (same_island a.0 a.1 same (look_at found a.1 (a.0, a.2, a.3))) a.4),
            );
          }
          | inr apart ↦
              let inside : a.0 < length joined_by = omega (arith, a.2, length-set found place (with_pin s)) in
              record { some = (a.0, a.1, inside, get_or-set_other found place a.0 (with_pin s) a.1 apart ∙ a.3, a.4) }
        ]

        covered_joined : All (IsCovered joined_by) (pins ++ pin ∷ [])
        covered_joined =
            All-push (IsCovered joined_by) pins pin
            (All-weaker (IsCovered found) (IsCovered joined_by) cover pins g.islands.covered)
            (record {
              some = (
                place,
                with_pin s,
                set_within,
                get_or-set_same found place (with_pin s) (with_pin s) place_within,
                Contains-push s.pins pin,
              );
            })

        begins_with : (i : ℕ) → BeginsAt pins i s → BeginsAt (pins ++ pin ∷ []) i (with_pin s)
        begins_with i b = let m = begins_more pins pin i s b in
            record {
              within = m.within;
              first_is = look_left s.pins (pin ∷ []) 0 s_is.first s_is.first_is
                  ∙ sym s_is.first_is ∙ m.first_is;
            }

        joined_islands : AreIslandsOf d items net (pins ++ pin ∷ []) joined_by
        joined_islands = record {
          each = each_joined;
          covered = covered_joined;
          places = g.islands.places;
          ascend = g.islands.ascend;
          begin = zip_set (BeginsAt pins) (BeginsAt (pins ++ pin ∷ [])) g.islands.places found place s (with_pin s)
              at begins_with (begins_more pins pin) g.islands.begin;
        }

        has_item : (id p : ℕ) → HasItemAt found p id → HasItemAt joined_by p id
        has_item id p h = elim (same_or_not p place) [
          | inl same ↦ record {
            island = with_pin s;
            there = subst (λ (n : ℕ). slice_get joined_by n ≡ Some (with_pin s)) (sym same)
                (look_set_same found place (with_pin s) place_within);
            has = subst (λ (t : Island). Contains t.items id) (same_island p h.island same h.there) h.has;
          }
          | inr apart ↦
              record {
                island = h.island;
                there = look_set_other found place p (with_pin s) apart ∙ h.there;
                has = h.has;
              }
        ]

        had_item : (id p : ℕ) → HasItemAt joined_by p id → HasItemAt found p id
        had_item id p h = elim (same_or_not p place) [
          | inl same ↦
              let is : h.island ≡ with_pin s =
              same_Some h.island (with_pin s)
              (sym h.there ∙ ap (λ (n : ℕ). slice_get joined_by n) same ∙ look_set_same found place (with_pin s)
              place_within) in
              record {
                island = s;
                there = ap (λ (n : ℕ). slice_get found n) same ∙ at;
                has = subst (λ (t : Island). Contains t.items id) is h.has;
              }
          | inr apart ↦
              record {
                island = h.island;
                there = sym (look_set_other found place p (with_pin s) apart) ∙ h.there;
                has = h.has;
              }
        ]

        joined_progress : IsProgress d items net (pins ++ pin ∷ []) joined_by places
        joined_progress = record {
          islands = joined_islands;
          each = λ id p q. has_item id p (g.each id p q);
          whole = λ id p h. g.whole id p (had_item id p h);
        }

    pub joins : (place : ℕ) (found' : List Island) → place_at places pad.id ≡ Some place
        → HasPinMore found place pin found' → IsProgress d items net (pins ++ pin ∷ []) found' places
    joins place found' e h =
        subst (λ (fs : List Island). IsProgress d items net (pins ++ pin ∷ []) fs places) (sym h.new_is)
        (joined_progress place h.island h.there e)

    -- ---- a pin that opens an island
    module _ (back : TouchesBack) (fresh : place_at places pad.id ≡ None) (ids : List ℕ)
        (joined : AreIdsJoined items pad ids) (places' : List (ℕ × ℕ))
        (placed : ArePlaced places ids (length found) places') where
      abbrev opened : Island
      opened = record { net = net; pins = pin ∷ []; items = ids }

      without : (k : ℕ) (t : Island) → slice_get found k ≡ Some t → ¬ (Contains t.items pad.id)
      without k t t_at c = none-some k (sym fresh ∙ g.whole pad.id k (record { island = t; there = t_at; has = c }))

      apart_from : (q : ℕ) → Contains pins q → ¬ (HasPadJoined d items pad q)
      apart_from q q_in j =
          let c = (All-contains (IsCovered found) pins q g.islands.covered q_in).some in
          let t_at = look_at found c.1 (c.0, c.2, c.3) in
          let t_is = island_at d items net pins found c.0 c.1 g.islands t_at in
          let tq = (selected (HasPadJoined d items t_is.pad) pins c.1.pins q t_is.pins_are c.4).0 in
          without c.0 c.1 t_at (has_pad c.1 t_is (by_pad d items sound serves back t_is.pad pad q pad_there tq j))

      opened_is : IsIsland d items net (pins ++ pin ∷ []) opened
      opened_is = record {
        net_is = refl;
        first = pin;
        first_is = refl;
        pad = pad;
        pad_is = pad_is;
        pins_are = selects_more (HasPadJoined d items pad) pins [] pin
            (selects_none (HasPadJoined d items pad) pins apart_from)
            (record { pad = pad; pad_is = pad_is; joined = joined_self items pad });
        items_are = joined;
      }

      abbrev found_more : List Island
      found_more = found ++ opened ∷ []

      cover_more : (q : ℕ) → IsCovered found q → IsCovered found_more q
      cover_more q c = let a = c.some in
          let inside : a.0 < length found_more = omega (arith, a.2, length_push found opened) in
          record { some = (a.0, a.1, inside, get_or_append_left found (opened ∷ []) a.1 a.0 a.2 ∙ a.3, a.4) }

      opened_islands : AreIslandsOf d items net (pins ++ pin ∷ []) found_more
      opened_islands = record {
        each = All-push (IsIsland d items net (pins ++ pin ∷ [])) found opened
            (λ k x within. stays (get_or found k x) (g.islands.each k x within)
            (without k (get_or found k x) (slice_get-get_or found k x within))) opened_is;
        covered = All-push (IsCovered found_more) pins pin
            (All-weaker (IsCovered found) (IsCovered found_more) cover_more pins g.islands.covered)
            (record { some = Any-push (λ (t : Island). Contains t.pins pin) found opened (in_here pin []) });
        places = g.islands.places ++ length pins ∷ [];
        ascend = ascend_push g.islands.places (length pins) g.islands.ascend
            (zip_left (BeginsAt pins) (λ i. i < length pins) g.islands.places found (λ i t b. b.within)
            g.islands.begin);
        begin = zip_push (BeginsAt (pins ++ pin ∷ [])) g.islands.places found (length pins) opened
            (zip_weaker (BeginsAt pins) (BeginsAt (pins ++ pin ∷ [])) g.islands.places found (begins_more pins pin)
            g.islands.begin)
            (record { within = omega (arith, length_push pins pin); first_is = sym (look_last pins pin) });
      }

      item_more : (id p : ℕ) → place_at places' id ≡ Some p → HasItemAt found_more p id
      item_more id p e = elim (in_or_not ids id) [
        | inl c ↦
            let last : length found ≡ p = same_Some (length found) p (sym (placed.here id c) ∙ e) in
            subst (λ (n : ℕ). HasItemAt found_more n id) last
            (record { island = opened; there = look_last found opened; has = c })
        | inr n ↦ let h = g.each id p (sym (placed.others id n) ∙ e) in
            record { island = h.island; there = look_left found (opened ∷ []) p h.island h.there; has = h.has }
      ]

      -- no item of another island is joined to the pad
      other_ids : (k : ℕ) (t : Island) → slice_get found k ≡ Some t → (id : ℕ) → Contains t.items id
          → ¬ (Contains ids id)
      other_ids k t t_at id c own =
          let t_is = island_at d items net pins found k t g.islands t_at in
          let a = (t_is.items_are.exact id).0 c in
          let b = (joined.exact id).0 own in
          let same : a.item ≡ b.item = one_item items up a.item b.item a.there b.there (a.id_is ∙ sym b.id_is) in
          without k t t_at
          (has_pad t t_is
          (joined_on items t_is.pad b.item pad (subst (AreJoined items t_is.pad) same a.joined)
          (joined_back back items pad b.item pad_there b.joined)))

      placed_more : (id p : ℕ) → HasItemAt found_more p id → place_at places' id ≡ Some p
      placed_more id p h = elim (look_cases found opened p h.island h.there) [
        | inl old ↦ placed.others id (other_ids p h.island old id h.has)
            ∙ g.whole id p (record { island = h.island; there = old; has = h.has })
        | inr last ↦ placed.here id (subst (λ (t : Island). Contains t.items id) (sym last.1) h.has)
            ∙ ap (λ (n : ℕ). Some n) (sym last.0)
      ]

      opened_progress : IsProgress d items net (pins ++ pin ∷ []) found_more places'
      opened_progress = record { islands = opened_islands; each = item_more; whole = placed_more }

    pub opens : TouchesBack → (found' : List Island) (places' : List (ℕ × ℕ)) → place_at places pad.id ≡ None
        → HasIslandMore items net pin pad found places found' places'
        → IsProgress d items net (pins ++ pin ∷ []) found' places'
    opens back found' places' fresh h =
        subst (λ (fs : List Island). IsProgress d items net (pins ++ pin ∷ []) fs places') (sym h.new_is)
        (opened_progress back fresh h.ids h.joined places' h.placed)
