-- Items have one list of shoves, and ids of new items don't matter.
use Rattle.std.proofs.Common.{◌≡◌, ℕ, zero, suc, ◌+◌, ◌<◌, Bool, true, false, List, [], ◌∷◌, Some, refl, sym, ap, ◌∙◌}
use Rattle.std.proofs.Common.{subst, arith, inl, inr, ◌⊎◌, All}
use Rattle.std.specs.Prelude.{Any}
use Rattle.std.proofs.lemmas.List.Elements.{All-nil, All-cons, All-head, All-tail}
use Rattle.geo_kernel.specs.declared.point.Point.{Point}
use Rattle.pcb_model.specs.declared.item.Metal.{Metal}
use Rattle.pcb_model.specs.declared.item.Item.{Item}
use Rattle.pcb_model.specs.declared.design.Design.{Design}
use Rattle.pcb_model.specs.Pairs.{Agrees}
use Rattle.pcb_model.specs.Copper.{Ascends}
use Rattle.route_lattice.specs.Mesh.{Mesh}
use Rattle.path_wire.specs.Lays.{laid_item}
use Rattle.ripup.specs.Rips.{AreIdsInWay}
use Rattle.ripup.proofs.Passing.{same_key}
use Rattle.shove.specs.Shoves.{chain_of, IsShovedChain}
use Rattle.shove.proofs.Shoving.{one_chain}
use Rattle.board_offers.specs.declared.offer.Shoved.{Shoved}
use Rattle.board_offers.specs.Items.{added_from}
use Rattle.least_offer.specs.Least.{IsTriedBefore, Fits, FitsFirst, IsShoveOf, AreShovesOf}
use Rattle.least_offer.proofs.Replacing.{left_id}

order : (n m : ℕ) → (n < m) ⊎ ((m < n) ⊎ (n ≡ m))
order zero zero = inr (inr refl)
order zero (suc m) = inl (omega arith)
order (suc n) zero = inr (inl (omega arith))
order (suc n) (suc m) = elim (order n m) [
  | inl h ↦ inl (omega arith)
  | inr h ↦ elim h [
    | inl k ↦ inr
        (inl (omega arith))
    | inr e ↦ inr (inr (ap suc e))
  ]
]

same_run : (r s : ℕ) (up down : Bool) → r ≡ s → IsTriedBefore r up s down
    ⊎ (IsTriedBefore s down r up ⊎ ((r ≡ s) × (up ≡ down)))
same_run r s true true e = inr (inr (e, refl))
same_run r s true false e = inl (inr (e, refl, refl))
same_run r s false true e = inr (inl (inr (sym e, refl, refl)))
same_run r s false false e = inr (inr (e, refl))

-- of two runs one is tried first, or they are one
tried : (r s : ℕ) (up down : Bool) → IsTriedBefore r up s down ⊎ (IsTriedBefore s down r up ⊎ ((r ≡ s) × (up ≡ down)))
tried r s up down = elim (order r s) [
  | inl h ↦ inl (inl h)
  | inr h ↦ elim h [
    | inl k ↦ inr
        (inl (inl k))
    | inr e ↦ same_run r s up down e
  ]
]

module _ (d : Design) (m : Mesh) (items new : List Item) where
  pub one_fit : (a : Item) (s t : List Point) → FitsFirst d m items new a s → FitsFirst d m items new a t → s ≡ t
  one_fit a s t h k = elim (tried h.r k.r h.up k.up) [
    | inl before ↦ absurd (k.first h.r h.up s before h.fits)
    | inr rest ↦ elim rest [
      | inl after ↦ absurd (h.first k.r k.up t after k.fits)
      | inr e ↦ one_chain m (chain_of a.metal) k.r k.up s t (subst (λ (p : ℕ
          × Bool). IsShovedChain m (chain_of a.metal) p.0 p.1 s)
          (λ i. (e.0 i, e.1 i)) h.fits.shove.shoved) k.fits.shove.shoved
    ]
  ]

  one_shove : Ascends items → (id : ℕ) (s t : Shoved) → IsShoveOf d m items new id s → IsShoveOf d m items new id t
      → s ≡ t
  one_shove up id s t h k =
      let same : h.item ≡ k.item = same_key (λ (x : Item). x.id) items h.item k.item up h.there k.there (h.item_is
      ∙ sym k.item_is) in
      let chain : s.chain ≡ t.chain = one_fit k.item s.chain t.chain
      (subst (λ (x : Item). FitsFirst d m items new x s.chain) same h.first) k.first in
      let id_is : s.id ≡ t.id = h.id_is ∙ sym k.id_is in
      λ i. record { id = id_is i; chain = chain i }

  pub one_list : Ascends items → (ids : List ℕ) (ss ts : List Shoved) → AreShovesOf d m items new ids ss
      → AreShovesOf d m items new ids ts → ss ≡ ts
  one_list up [] [] [] h k = refl
  one_list up [] [] (t ∷ ts) h k = absurd k
  one_list up [] (s ∷ ss) ts h k = absurd h
  one_list up (x ∷ xs) [] ts h k = absurd h
  one_list up (x ∷ xs) (s ∷ ss) [] h k = absurd k
  one_list up (x ∷ xs) (s ∷ ss) (t ∷ ts) h k = λ i. one_shove up x s t h.0 k.0 i ∷ one_list up xs ss ts h.1 k.1 i

-- ---- ids of new items
module _ (d : Design) (net : ℕ) (b : Item) where
  any_alike : (i k : ℕ) (ms : List Metal) → Any (λ (a : Item). ¬ (Agrees d a b)) (added_from d net i ms)
      → Any (λ (a : Item). ¬ (Agrees d a b)) (added_from d net k ms)
  any_alike i k [] (n, x, within, is, p) = absurd (omega (arith, within))
  any_alike i k (a ∷ ms) (zero, x, within, is, p) = (
    0,
    laid_item d net k a,
    omega arith,
    refl,
    λ h. p
        (subst (λ (y : Item). Agrees d y b) is (left_id d k i (Some net) a b h)),
  )
  any_alike i k (a ∷ ms) (suc n, x, within, is, p) = let r = any_alike (i + 1) (k + 1) ms
      (n, x, omega (arith, within), is, p) in (suc r.0, r.1, omega (arith, r.2), r.3, r.4)

  all_alike : (i k : ℕ) (ms : List Metal) → All (λ (a : Item). Agrees d a b) (added_from d net i ms)
      → All (λ (a : Item). Agrees d a b) (added_from d net k ms)
  all_alike i k [] h = All-nil (λ (a : Item). Agrees d a b)
  all_alike i k (a ∷ ms) h =
      All-cons (λ (x : Item). Agrees d x b) (laid_item d net k a) (added_from d net (k + 1) ms)
      (left_id d i k (Some net) a b (All-head (λ (x : Item). Agrees d x b) (laid_item d net i a)
      (added_from d net (i + 1) ms) h))
      (all_alike (i + 1) (k + 1) ms (All-tail (λ (x : Item). Agrees d x b) (laid_item d net i a)
      (added_from d net (i + 1) ms) h))

pub in_way_alike : (d : Design) (net : ℕ) (items : List Item) (i k : ℕ) (ms : List Metal) (ids : List ℕ)
    → AreIdsInWay d items (added_from d net i ms) ids → AreIdsInWay d items (added_from d net k ms) ids
in_way_alike d net items i k ms ids h = record {
  ascend = h.ascend;
  each = λ id there. let w = h.each id there in
      record {
        item = w.item;
        there = w.there;
        id_is = w.id_is;
        in_way =
            record { routed = w.in_way.routed; clashes = any_alike d net w.item i k ms w.in_way.clashes };
      };
  whole = λ b there routed. elim (h.whole b there routed) [
    | inl named ↦ inl named
    | inr agrees ↦ inr
        (all_alike d net b i k ms agrees)
  ];
}

fits_alike : (d : Design) (m : Mesh) (net : ℕ) (items : List Item) (i k : ℕ) (ms : List Metal) (a : Item) (r : ℕ)
    (up : Bool) (s : List Point) → Fits d m items (added_from d net i ms) a r up s
    → Fits d m items (added_from d net k ms) a r up s
fits_alike d m net items i k ms a r up s h =
    record { wire = h.wire; shove = h.shove; agrees = all_alike d net _ i k ms h.agrees }

shove_alike : (d : Design) (m : Mesh) (net : ℕ) (items : List Item) (i k : ℕ) (ms : List Metal) (id : ℕ) (s : Shoved)
    → IsShoveOf d m items (added_from d net i ms) id s → IsShoveOf d m items (added_from d net k ms) id s
shove_alike d m net items i k ms id s h = record {
  id_is = h.id_is;
  item = h.item;
  there = h.there;
  item_is = h.item_is;
  first = record {
    r = h.first.r;
    up = h.first.up;
    fits = fits_alike d m net items i k ms h.item h.first.r h.first.up s.chain h.first.fits;
    first = λ q down other before f. h.first.first q down other before
        (fits_alike d m net items k i ms h.item q down other f);
  };
}

pub shoves_alike : (d : Design) (m : Mesh) (net : ℕ) (items : List Item) (i k : ℕ) (ms : List Metal) (ids : List ℕ)
    (ss : List Shoved) → AreShovesOf d m items (added_from d net i ms) ids ss
    → AreShovesOf d m items (added_from d net k ms) ids ss
shoves_alike d m net items i k ms [] [] h = h
shoves_alike d m net items i k ms [] (s ∷ ss) h = absurd h
shoves_alike d m net items i k ms (x ∷ xs) [] h = absurd h
shoves_alike d m net items i k ms (x ∷ xs)
    (s ∷ ss) h = (shove_alike d m net items i k ms x s h.0, shoves_alike d m net items i k ms xs ss h.1)
