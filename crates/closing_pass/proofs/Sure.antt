-- What isn't denied: each net has islands, and each board a count of open connections.
use Rattle.std.proofs.Common.{◌≡◌, ◌⊎◌, ◌↔◌, ℕ, zero, suc, ◌+◌, ◌<◌, List, [], ◌∷◌, ◌++◌, length, Option, Some, None}
use Rattle.std.proofs.Common.{◌-◌, refl, sym, ap, ◌∙◌, subst, inl, inr, arith, add-one, cond, get_or, Ordering}
use Rattle.std.specs.Prelude.{Contains, All, slice_set}
use Rattle.std.specs.List.Sorted.{IsStrictlyIncreasing}
use Rattle.std.specs.Ordering.{is_eq, nat_cmp}
use Rattle.std.specs.declared.cmp.Ordering.TheVariants.{Less, Equal, Greater}
use Rattle.std.specs.Cmp.{nat_cmp_is}
use Rattle.std.proofs.lemmas.List.{append-nil, append_assoc}
use Rattle.std.proofs.lemmas.List.Elements.{Contains-append_left, Contains-get_or, Contains-push, Contains-push_cases}
use Rattle.geo_kernel.proofs.Ascending.{ascend_push}
use Rattle.pcb_model.specs.declared.item.Item.{Item}
use Rattle.pcb_model.specs.declared.design.Design.{Design}
use Rattle.pcb_model.specs.Sound.{IsSound, Serves}
use Rattle.pcb_model.specs.Copper.{Ascends}
use Rattle.pcb_model.proofs.Symmetry.{touching_swapped}
use Rattle.pcb_islands.specs.declared.net.Island.{Island}
use Rattle.pcb_islands.specs.Islands.{AreIslands, HasIdJoined, IsPadOf, pins_of}
use Rattle.pcb_islands.specs.inner.Numbers.{place_at}
use Rattle.pcb_islands.specs.inner.Progress.{ArePlaced, IsProgress}
use Rattle.pcb_islands.proofs.Elements.{in_cons, in_here, in_later, in_none}
use Rattle.pcb_islands.proofs.Gathering.{joins, none_gathered, opens}
use Rattle.pcb_islands.proofs.Pads.{net_pad, same_or_not}
use Rattle.pcb_islands.proofs.Touches.{below_or_same}
use Rattle.closing_pass.specs.OpenCount.{IsOpenCount}
use Rattle.closing_pass.specs.inner.Counting.{CountsFirst}
use Rattle.closing_pass.proofs.Counts.{counts_all, counts_more, counts_none}

-- a statement holds or not
pub sure_or_not : (P : Type 0) → ¬ (¬ (P ⊎ ¬ P))
sure_or_not P none = none (inr (λ p. none (inl p)))

-- ---- lists of numbers
-- the list has just those numbers below a bound that have the property
pub record IsListOf (P : ℕ → Type 0) (n : ℕ) (xs : List ℕ) : Type 0 where
  pub ascends : IsStrictlyIncreasing xs
  pub exact : (k : ℕ) → Contains xs k ↔ ((k < n) × P k)

below_all : (P : ℕ → Type 0) (n : ℕ) (xs : List ℕ) → IsListOf P n xs → All (λ x. x < n) xs
below_all P n xs are k x within = ((are.exact (get_or xs k x)).0 (Contains-get_or xs k x within)).0

list_more : (P : ℕ → Type 0) (n : ℕ) (xs : List ℕ) → IsListOf P n xs → P n → IsListOf P (suc n) (xs ++ n ∷ [])
list_more P n xs are p = record {
  ascends = ascend_push xs n are.ascends (below_all P n xs are);
  exact = λ k. (
    λ h. elim (Contains-push_cases xs n k h) [
      | inl old ↦ (let a = (are.exact k).0 old in (omega (arith, a.0), a.1))
      | inr last ↦ (omega (arith, last), subst P last p)
    ],
    λ h. elim (same_or_not n k) [
      | inl same ↦ subst (Contains (xs ++ n ∷ [])) same (Contains-push xs n)
      | inr apart ↦ Contains-append_left xs (n ∷ []) k ((are.exact k).1 (below_rest n k h.0 apart, h.1))
    ],
  );
}
  where
    below_rest : (n k : ℕ) → k < suc n → (n ≡ k → ⊥) → k < n
    below_rest n k less apart = elim (same_or_not k n) [
      | inl same ↦ absurd (apart (sym same))
      | inr other ↦ omega (arith, less, other)
    ]

list_same : (P : ℕ → Type 0) (n : ℕ) (xs : List ℕ) → IsListOf P n xs → ¬ (P n) → IsListOf P (suc n) xs
list_same P n xs are none = record {
  ascends = are.ascends;
  exact = λ k. (
    λ h. let a = (are.exact k).0 h in (omega (arith, a.0), a.1),
    λ h. elim (same_or_not k n) [
      | inl same ↦ absurd (none (subst P same h.1))
      | inr apart ↦ (are.exact k).1 (omega (arith, h.0, apart), h.1)
    ],
  );
}

pub sure_list : (P : ℕ → Type 0) (n : ℕ) → ¬ ((xs : List ℕ) → ¬ (IsListOf P n xs))
sure_list P zero none = none [] (record {
  ascends = λ k within. absurd (omega (arith, within));
  exact = λ k. (λ h. absurd (in_none k h), λ h. absurd (omega (arith, h.0)));
})
sure_list P (suc n) none = sure_list P n (λ xs are. sure_or_not (P n) (λ t. elim t [
  | inl p ↦ none (xs ++ n ∷ []) (list_more P n xs are p)
  | inr q ↦ none xs (list_same P n xs are q)
]))

-- ---- places
place_here : (id place : ℕ) (places : List (ℕ × ℕ)) → place_at ((id, place) ∷ places) id ≡ Some place
place_here id place places =
    let same : nat_cmp id id ≡ Equal = sym (nat_cmp_is id id Equal refl) in
    ap (λ (r : Ordering). cond (is_eq r) (Some place) (place_at places id)) same

place_other : (id place q : ℕ) (places : List (ℕ × ℕ)) → (q ≡ id → ⊥)
    → place_at ((id, place) ∷ places) q ≡ place_at places q
place_other id place q places apart = elim (below_or_same q id) [
  | inl less ↦ ap (λ (r : Ordering). cond (is_eq r) (Some place) (place_at places q)) (sym (nat_cmp_is q id Less less))
  | inr n ↦ elim n [
    | inl more ↦
        ap (λ (r : Ordering). cond (is_eq r) (Some place) (place_at places q)) (sym (nat_cmp_is q id Greater more))
    | inr same ↦ absurd (apart same)
  ]
]

abbrev place_all : List ℕ → ℕ → List (ℕ × ℕ) → List (ℕ × ℕ)
place_all [] place places = places
place_all (id ∷ ids) place places = (id, place) ∷ place_all ids place places

placed : (ids : List ℕ) (place : ℕ) (places : List (ℕ × ℕ)) → ArePlaced places ids place (place_all ids place places)
placed [] place places = record { here = λ q h. absurd (in_none q h); others = λ q none. refl }
placed (id ∷ ids) place places =
    let rest = placed ids place places in
    record {
      here = λ q h. elim (same_or_not q id) [
        | inl same ↦ subst (λ (v : ℕ). place_at ((id, place) ∷ place_all ids place places) v ≡ Some place) (sym same)
            (place_here id place (place_all ids place places))
        | inr apart ↦ elim (in_cons id q ids h) [
          | inl same ↦ absurd (apart (sym same))
          | inr more ↦ place_other id place q (place_all ids place places) apart ∙ rest.here q more
        ]
      ];
      others = λ q none. place_other id place q (place_all ids place places)
          (λ same. none (subst (Contains (id ∷ ids)) (sym same) (in_here id ids)))
          ∙ rest.others q (λ h. none (in_later id q ids h));
    }

-- ---- islands
-- no item has an id above some number
record IsBound (items : List Item) (n : ℕ) : Type 0 where
  each : (a : Item) → Contains items a → a.id < n

record HasBound (items : List Item) : Type 0 where
  bound : ℕ
  is : IsBound items bound

bounded : (items : List Item) → HasBound items
bounded [] = record { bound = 0; is = record { each = λ a h. absurd (in_none a h) } }
bounded (x ∷ items) =
    let rest = bounded items in
    record {
      bound = rest.bound + (x.id + 1);
      is = record {
        each = λ a h. elim (in_cons x a items h) [
          | inl same ↦ (let e = ap (λ (y : Item). y.id) same in omega (arith, e))
          | inr more ↦ (let w = rest.is.each a more in omega (arith, w))
        ];
      };
    }

module _ (d : Design) (items : List Item) (net : ℕ) (sound : IsSound d) (serves : Serves items d)
    (up : Ascends items) where
  gathers : (front rest : List ℕ) (found : List Island) (places : List (ℕ × ℕ))
      → IsProgress d items net front found places
      → ((pin : ℕ) → Contains rest pin → (pad : Item) × IsPadOf d pin pad)
      → ¬ ((more : List Island) (later : List (ℕ × ℕ)) → ¬ (IsProgress d items net (front ++ rest) more later))
  gathers front [] found places g pads none =
      none found places (subst (λ (ps : List ℕ). IsProgress d items net ps found places) (sym (append-nil front)) g)
  gathers front (pin ∷ rest) found places g pads none =
      let own = pads pin (in_here pin rest) in
      by own.0 own.1
      (λ found2 places2 g2. gathers (front ++ pin ∷ []) rest found2 places2 g2 (λ q h. pads q (in_later pin q rest h))
      (λ more later p. none more later
      (subst (λ (ps : List ℕ). IsProgress d items net ps more later) (append_assoc front (pin ∷ []) rest) p)))
      (place_at places own.0.id) refl
    where
      by : (pad : Item) → IsPadOf d pin pad
          → ((found2 : List Island) (places2 : List (ℕ × ℕ))
          → IsProgress d items net (front ++ pin ∷ []) found2 places2 → ⊥) → (o : Option ℕ)
          → place_at places pad.id ≡ o → ⊥
      by pad pad_is on (Some place) e =
          let at = g.each pad.id place e in
          let found2 = slice_set found place
          (record { net = at.island.net; pins = at.island.pins ++ pin ∷ []; items = at.island.items }) in
          on found2 places (joins d items net sound serves up front pin pad pad_is found places g place found2 e
          (record { island = at.island; there = at.there; new_is = refl }))
      by pad pad_is on None e =
          let b = bounded items in
          sure_list (HasIdJoined items pad) b.bound (λ ids are.
          let new = place_all ids (length found) places in
          let found2 = found ++ (record { net = net; pins = pin ∷ []; items = ids }) ∷ [] in
          on found2 new (opens d items net sound serves up front pin pad pad_is found places g touching_swapped found2
          new e (record {
            ids = ids;
            joined = record {
              ascend = are.ascends;
              exact = λ id. (
                λ h. ((are.exact id).0 h).1,
                λ j. (are.exact id).1 (subst (λ (k : ℕ). k < b.bound) j.id_is (b.is.each j.item j.there), j),
              );
            };
            new_is = refl;
            placed = placed ids (length found) places;
          })))

  pub sure_islands : ¬ ((found : List Island) → ¬ (AreIslands d items net found))
  sure_islands none = gathers [] (pins_of d net) [] [] (none_gathered d items net)
      (λ pin h. let own = net_pad d net sound pin h in (own.pad, own.pad_is)) (λ found places g. none found g.islands)

-- ---- open connections
module _ (d : Design) (items : List Item) (sound : IsSound d) (serves : Serves items d) (up : Ascends items) where
  counts : (n : ℕ) → ¬ ((count : ℕ) → ¬ (CountsFirst d items n count))
  counts zero none = none 0 (counts_none d items)
  counts (suc n) none = counts n (λ count are. sure_islands d items n sound serves up (λ found own.
      none (count + (length found - 1))
      (subst (λ (k : ℕ). CountsFirst d items k (count + (length found - 1))) (add-one n)
      (counts_more d items n count (length found - 1) are
      (record { found = found; islands = own; count_is = refl })))))

  pub sure_count : ¬ ((count : ℕ) → ¬ (IsOpenCount d items count))
  sure_count none = counts (length d.nets) (λ count are. none count (counts_all d items (length d.nets) count refl are))
