-- The routed items in the way of new ones, from id to id and from item to item.
use Rattle.std.proofs.Common.{◌≡◌, ℕ, ◌+◌, ◌<◌, ◌≤◌, ◌^◌, List, [], ◌∷◌, ◌++◌, length, take, get_or, inl, inr, ◌⊎◌}
use Rattle.std.proofs.Common.{arith, sym, ◌∙◌, subst, refl, ap}
use Rattle.std.specs.Prelude.{Contains, All, Any, Option, Some}
use Prim.Native.Nat.{zero, suc}
use Rattle.std.proofs.lemmas.List.{take_more}
use Rattle.std.proofs.lemmas.List.Elements.{All-contains, All-push, All-nil, Contains-append_left, Contains-push}
use Rattle.std.proofs.lemmas.List.Elements.{Contains-push_cases}
use Rattle.pcb_model.specs.declared.item.Item.{Item}
use Rattle.pcb_model.specs.declared.design.Design.{Design}
use Rattle.pcb_model.specs.Pairs.{Agrees}
use Rattle.pcb_model.specs.Board.{IsRouted}
use Rattle.pcb_model.specs.Sound.{IsSound, Serves}
use Rattle.pcb_model.specs.Copper.{Ascends, Finds, IsLookedAt}
use Rattle.route_lattice.specs.Found.{AreSorted}
use Rattle.ripup.specs.Rips.{HasIdInWay, AreIdsInWay}
use Rattle.ripup.specs.inner.Steps.{AreInWayBelow, AreInWayOfOne, AreInWayOfAll}
use Rattle.ripup.proofs.Passing.{low_or_high}
use Rattle.ripup.proofs.Fixed.{high_routed, routed_high}

number : Item → ℕ
number b = b.id

-- two numbers are in order, or one
in_order : (m n : ℕ) → (m < n) ⊎ ((n < m) ⊎ (m ≡ n))
in_order m n = elim (low_or_high number m n) [
  | inl h ↦ inl h
  | inr h ↦ elim (low_or_high number n m) [ inl k ↦ inr (inl k) | inr k ↦ inr (inr (omega arith)) ]
]

module _ (d : Design) (items : List Item) (a : Item) where
  abbrev pub NextClash : ℕ → Option ℕ → Type 0
  NextClash from found = Finds (λ b. Agrees d a b → ⊥) (Agrees d a) from (Some a.id) items found

  -- an item that isn't looked at has a lesser id, or a's
  looked_at : (b : Item) (from : ℕ) → ((b.id < from) ⊎ (b.id ≡ a.id)) ⊎ IsLookedAt from (Some a.id) b
  looked_at b from = elim (low_or_high number b.id from) [
    | inl h ↦ inl (inl h)
    | inr h ↦ elim (in_order b.id a.id) [
      | inl k ↦ inr (h, λ e. let same : a.id ≡ b.id = cc e in absurd (omega arith))
      | inr k ↦ elim k [
        | inl g ↦ inr (h, λ e. let same : a.id ≡ b.id = cc e in absurd (omega arith))
        | inr g ↦ inl (inr g)
      ]
    ]
  ]

  in_way : (b : Item) → Contains items b → IsRouted b → ¬ (Agrees d a b) → HasIdInWay d items (a ∷ []) b.id
  in_way b there routed clash =
      record {
        item = b;
        there = there;
        id_is = refl;
        in_way =
            record { routed = routed; clashes = (0, a, omega arith, refl, clash) };
      }

  pub none_pushed : (old : List ℕ) → (sound : IsSound d) → Serves items d → Ascends items
      → ((b : Item) → Contains items b → b.id ≡ a.id → IsRouted b → Agrees d a b)
      → AreInWayBelow d items a (length d.fixed) old old
  none_pushed old sound serves up own = record {
    kept = λ id h. h;
    only = λ id h. inl h;
    below = λ b there routed low. elim low [
      | inl h ↦ let high = routed_high d items sound serves b up there routed in absurd (omega arith)
      | inr e ↦ inr (own b there e routed)
    ];
  }

  pub one_pushed : (old : List ℕ) (b : Item) → (sound : IsSound d) → Serves items d → Ascends items → Contains items b
      → b.id ≡ a.id → IsRouted b → ¬ (Agrees d a b) → AreInWayBelow d items a (length d.fixed) old (old ++ b.id ∷ [])
  one_pushed old b sound serves up b_in e b_routed clash = record {
    kept = λ id h. Contains-append_left old (b.id ∷ []) id h;
    only = λ id h. elim (Contains-push_cases old b.id id h) [
      | inl was ↦ inl was
      | inr is ↦ inr (subst (HasIdInWay d items (a ∷ [])) is (in_way b b_in b_routed clash))
    ];
    below = λ x there routed low. elim low [
      | inl h ↦ let high = routed_high d items sound serves x up there routed in absurd (omega arith)
      | inr f ↦ inl (subst (λ (n : ℕ). Contains (old ++ b.id ∷ []) n) (e ∙ sym f) (Contains-push old b.id))
    ];
  }

  module _ (sound : IsSound d) (serves : Serves items d) where
    -- one id more
    pub id_pushed : (from id : ℕ) (old ids : List ℕ) → length d.fixed ≤ from → AreInWayBelow d items a from old ids
        → NextClash from (Some id) → AreInWayBelow d items a (id + 1) old (ids ++ id ∷ [])
    id_pushed from id old ids behind h f =
        let e : f.item.id ≡ id = f.id_is in
        let on = f.looked_at.0 in
        record {
          kept = λ x was. Contains-append_left ids (id ∷ []) x (h.kept x was);
          only = λ x there. elim (Contains-push_cases ids id x there) [
            | inl was ↦ h.only x was
            | inr is ↦ inr (subst (HasIdInWay d items (a ∷ [])) (e
                ∙ is) (in_way f.item f.there (high_routed d items sound serves f.item f.there (omega arith)) f.holds))
          ];
          below = λ b there routed low. elim (looked_at b from) [
            | inl early ↦ elim (h.below b there routed early) [
              | inl was ↦ inl
                  (Contains-append_left ids (id ∷ []) b.id was)
              | inr fine ↦ inr fine
            ]
            | inr looked ↦ elim (in_order b.id id) [
              | inl before ↦ inr (f.before b there looked before)
              | inr n ↦ elim n [
                | inl after ↦ elim low [
                  | inl lt ↦ absurd (omega arith)
                  | inr own ↦ absurd (looked.1 (ap (λ (q : ℕ). Some q) (sym own)))
                ]
                | inr same ↦ inl (subst (λ (q : ℕ). Contains (ids ++ id ∷ []) q) (sym same) (Contains-push ids id))
              ]
            ]
          ];
        }

    pub last_pushed : (from : ℕ) (old ids : List ℕ) → AreInWayBelow d items a from old ids → 2 ^ 64 ≤ from
        → All (λ (b : Item). b.id < 2 ^ 64) items → AreInWayOfOne d items a old ids
    last_pushed from old ids h high within = record {
      kept = h.kept;
      only = h.only;
      whole = λ b there routed. let low : b.id < 2 ^ 64 = All-contains
          (λ (x : Item). x.id < 2 ^ 64) items b within there in h.below b there routed (inl (omega arith));
    }

-- ---- from new item to new item
module _ (d : Design) (items : List Item) where
  pub none_yet : AreInWayOfAll d items [] []
  none_yet = record {
    each = λ id h. absurd (omega (arith, h.1));
    whole = λ b there routed. inr
        (All-nil (λ (a : Item). Agrees d a b));
  }

  any_left : {X : Type 0} (P : X → Type 0) (xs : List X) (y : X) → Any P xs → Any P (xs ++ y ∷ [])
  any_left P xs y (k, x, within, is, p) = let c = Contains-append_left xs (y ∷ []) x (k, within, is) in
      (c.0, x, c.1, c.2, p)

  any_last : {X : Type 0} (P : X → Type 0) (xs : List X) (y : X) → P y → Any P (xs ++ y ∷ [])
  any_last P xs y p = let c = Contains-push xs y in (c.0, y, c.1, c.2, p)

  any_one : {X : Type 0} (P : X → Type 0) (y : X) → Any P (y ∷ []) → P y
  any_one P y (k, x, within, is, p) = subst P (sym is ∙ only k within) p
    where
      only : (k : ℕ) → k < length (y ∷ []) → get_or (y ∷ []) k x ≡ y
      only zero h = refl
      only (suc k) h = absurd (omega arith)

  still : (new : List Item) (a : Item) (id : ℕ) → HasIdInWay d items new id → HasIdInWay d items (new ++ a ∷ []) id
  still new a id h = record {
    item = h.item;
    there = h.there;
    id_is = h.id_is;
    in_way =
        record {
          routed = h.in_way.routed;
          clashes =
              any_left (λ (x : Item). ¬ (Agrees d x h.item)) new a h.in_way.clashes;
        };
  }

  now : (new : List Item) (a : Item) (id : ℕ) → HasIdInWay d items (a ∷ []) id → HasIdInWay d items (new ++ a ∷ []) id
  now new a id h = record {
    item = h.item;
    there = h.there;
    id_is = h.id_is;
    in_way =
        record {
          routed = h.in_way.routed;
          clashes =
              any_last (λ (x : Item). ¬ (Agrees d x h.item)) new a
              (any_one (λ (x : Item). ¬ (Agrees d x h.item)) a h.in_way.clashes);
        };
  }

  pub one_more : (new : List Item) (i : ℕ) (a e : Item) (old ids : List ℕ) → i < length new → a ≡ get_or new i e
      → AreInWayOfAll d items (take i new) old → AreInWayOfOne d items a old ids
      → AreInWayOfAll d items (take (i + 1) new) ids
  one_more new i a e old ids within is h k =
      let more : take (i + 1) new ≡ take i new ++ a ∷ [] = take_more new i e within
      ∙ ap (λ (x : Item). take i new ++ x ∷ []) (sym is) in
      subst (λ (xs : List Item). AreInWayOfAll d items xs ids) (sym more) (record {
        each = λ id there. elim (k.only id there) [
          | inl was ↦ still (take i new) a id (h.each id was)
          | inr own ↦ now
              (take i new) a id own
        ];
        whole = λ b there routed. elim (h.whole b there routed) [
          | inl was ↦ inl (k.kept b.id was)
          | inr fine ↦ elim (k.whole b there routed) [
            | inl is_in ↦ inl is_in
            | inr own ↦ inr (All-push (λ (x : Item). Agrees d x b) (take i new) a fine own)
          ]
        ];
      })

  pub in_order_now : (new : List Item) (ids sorted : List ℕ) → AreInWayOfAll d items new ids → AreSorted ids sorted
      → AreIdsInWay d items new sorted
  in_order_now new ids sorted h s = record {
    ascend = s.ascends;
    each = λ id there. h.each id (s.sound id there);
    whole = λ b there routed. elim (h.whole b there routed) [
      | inl was ↦ inl
          (s.complete b.id was)
      | inr fine ↦ inr fine
    ];
  }
