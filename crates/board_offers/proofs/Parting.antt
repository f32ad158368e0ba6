-- Items that shoves part, step by step.
use Rattle.std.proofs.Common.{◌≡◌, ◌≢◌, inl, inr, ℕ, ◌+◌, ◌<◌, ◌≤◌, ◌^◌, ◌==◌, suc, not, Bool, true, false, cond}
use Rattle.std.proofs.Common.{Option, Some, None, refl, sym, ◌∙◌, ap, subst, List, [], ◌∷◌, ◌++◌, length, get_or, drop}
use Rattle.std.proofs.Common.{arith}
use Rattle.std.specs.Prelude.{All, Contains, slice_get, nat_lt}
use Rattle.std.specs.Option.{option_map_or}
use Rattle.std.specs.List.{find, position, position_or_len}
use Rattle.std.proofs.Math.Seq.{drop-append_seam}
use Rattle.std.proofs.lemmas.Bool.{cases_lt, eqb-true, ne_eqb, eq-eqb, lt-ltb, le-ltb, ltb-false}
use Rattle.std.proofs.lemmas.List.Quantifiers.{position-Some}
use Rattle.std.proofs.lemmas.List.Sums.{position_or_len_is}
use Rattle.std.proofs.lemmas.Option.{same_Some, none-some, get_or_from_slice_get}
use Rattle.std.proofs.lemmas.List.{get_or_default, get_or_past}
use Rattle.std.proofs.lemmas.List.Elements.{All-contains, Contains-append_left, Contains-push, Contains-push_cases}
use Rattle.pcb_model.specs.declared.item.Piece.{Piece}
use Rattle.pcb_model.specs.declared.item.Item.{Item}
use Rattle.pcb_model.specs.declared.design.Design.{Design}
use Rattle.pcb_model.specs.Bounds.{IsItemFit}
use Rattle.pcb_model.specs.Pairs.{is_same_net, AreTouching, PiecesTouch}
use Rattle.pcb_model.specs.Copper.{Ascends, Finds, IsLeast}
use Rattle.board_offers.specs.declared.offer.Shoved.{Shoved}
use Rattle.board_offers.specs.declared.offer.Offer.{Offer}
use Rattle.board_offers.specs.Items.{no_item, item_at, added, new_items, replaced, replaced_from, reshaped}
use Rattle.board_offers.specs.Items.{after_shoves}
use Rattle.board_offers.specs.Given.{AreGiven}
use Rattle.board_offers.specs.Troubles.{FailsLeast, StaysJoined}
use Rattle.board_offers.specs.inner.Searching.{least_of, lies_after, TouchesAfter, StaysBy, StayBy, StaysWith}
use Rattle.board_offers.specs.inner.Searching.{StaysWithAll}
use Rattle.board_offers.proofs.New.{added_length}
use Rattle.board_offers.proofs.Least.{least_both, least_same}

-- ---- one item an id
ordered : (items : List Item) (a b : Item) (k l : ℕ) → Ascends items → k < l → l < length items → get_or items k a ≡ a
    → get_or items l b ≡ b
    → a.id < b.id
ordered items a b k l ascends less within is also =
    let far : get_or items l a ≡ b = get_or_default items l a b within ∙ also in
    subst (λ (x : Item). x.id < b.id) is
    (subst (λ (y : Item). (get_or items k a).id < y.id) far (ascends k l a less within))

pub same_item : (items : List Item) (a b : Item) → Ascends items → Contains items a → Contains items b → a.id ≡ b.id
    → a ≡ b
same_item items a b ascends (k, within, is) (l, inside, also) same = elim (cases_lt k l) [
  | inl less ↦ absurd (let h = ordered items a b k l ascends less inside is also in omega (arith, h, same))
  | inr past ↦ elim (cases_lt l k) [
    | inl less ↦ absurd (let h = ordered items b a l k ascends less within also is in omega (arith, h, same))
    | inr other ↦
        let e : k ≡ l = omega (arith, past, other) in
        sym is ∙ get_or_default items k a b within ∙ ap (λ (i : ℕ). get_or items i b) e ∙ also
  ]
]

-- ---- what touching reads
pub record IsLike (a b : Item) : Type 0 where
  pub net : a.net ≡ b.net
  pub pieces : a.pieces ≡ b.pieces

pub like_itself : (a : Item) → IsLike a a
like_itself a = record { net = refl; pieces = refl }

pub like_back : (a b : Item) → IsLike a b → IsLike b a
like_back a b like = record { net = sym like.net; pieces = sym like.pieces }

pub like_touch : (a b x y : Item) → IsLike a b → IsLike x y → AreTouching a x → AreTouching b y
like_touch a b x y one other h = record {
  same_net = sym (ap (λ (n : Option ℕ). is_same_net n x.net) one.net ∙ ap (is_same_net b.net) other.net) ∙ h.same_net;
  touch =
      subst (λ (ps : List Piece). PiecesTouch ps y.pieces) one.pieces
      (subst (PiecesTouch a.pieces) other.pieces h.touch);
}

-- the first replacement, or what follows it, by whether the first shove is of the item
abbrev LiesFirst : Design → List Item → ℕ → Shoved → List Shoved → Item → Bool → Type 0
LiesFirst d given first s ss a b =
    IsLike
    (get_or (reshaped d first s.chain (item_at given s.id) ∷ replaced_from d given (first + 1) ss)
    (cond (not b) (1 + position_or_len (λ (t : Shoved). t.id == a.id) ss) 0) a)
    (option_map_or (λ (t : Shoved). reshaped d a.id t.chain a)
    (cond b (Some s) (find (λ (t : Shoved). t.id == a.id) ss)) a)

-- an item as it lies after the shoves is its replacement but for the id
pub lies_like : (d : Design) (given : List Item) (first : ℕ) (ss : List Shoved) (a : Item)
    → slice_get given a.id ≡ Some a
    → IsLike (lies_after ss (replaced_from d given first ss) a) (after_shoves d ss a)
lies_like d given first [] a at = like_itself a
lies_like d given first (s ∷ ss) a at = by (s.id == a.id) refl (lies_like d given (first + 1) ss a at)
  where
    by : (b : Bool) → (s.id == a.id) ≡ b → IsLike (lies_after ss (replaced_from d given (first + 1) ss) a)
        (after_shoves d ss a)
        → LiesFirst d given first s ss a b
    by true e r =
        let is : item_at given s.id ≡ a = ap (item_at given) (eqb-true s.id a.id e)
        ∙ get_or_from_slice_get given a.id a no_item at in
        subst (λ (x : Item). IsLike (reshaped d first s.chain x) (reshaped d a.id s.chain a)) (sym is)
        (record { net = refl; pieces = refl })
    by false e r =
        let n = position_or_len (λ (t : Shoved). t.id == a.id) ss in
        subst (λ (k : ℕ).
        IsLike (get_or (reshaped d first s.chain (item_at given s.id) ∷ replaced_from d given (first + 1) ss) k a)
        (after_shoves d ss a))
        (let k : suc n ≡ 1 + n = omega arith in k) r

pub lies_fit : (ss : List Shoved) (rs : List Item) (a : Item) → All IsItemFit rs → IsItemFit a
    → IsItemFit (lies_after ss rs a)
lies_fit ss rs a all fits = by (position_or_len (λ (s : Shoved). s.id == a.id) ss)
  where
    by : (n : ℕ) → IsItemFit (get_or rs n a)
    by n = elim (cases_lt n (length rs)) [
      | inl less ↦ all n a less
      | inr past ↦ subst IsItemFit (sym (get_or_past rs n a past)) fits
    ]

-- ---- one shoved item
module _ (ss : List Shoved) (rs items : List Item) (old : Item) (ascends : Ascends items) where
  pub none_looked_at : StayBy ss rs items old 0
  none_looked_at = record { each = λ a there less. absurd (omega (arith, less)) }

  abbrev After : Item → Type 0
  After a = AreTouching (lies_after ss rs old) (lies_after ss rs a)

  abbrev Least : ℕ → ℕ → Type 0
  Least from id = IsLeast (AreTouching old) (λ b. AreTouching old b → ⊥) from (Some old.id) items id

  -- before an id that is found, all stay
  stay_before : (from id : ℕ) → StayBy ss rs items old from → Least from id → (a : Item) → Contains items a
      → a.id < id → old.id ≢ a.id
      → AreTouching old a → After a
  stay_before from id passed h a there less other touch = elim (cases_lt a.id from) [
    | inl early ↦ passed.each a there early other touch
    | inr late ↦ absurd (h.before a there (late, λ e. other (same_Some old.id a.id e)) less touch)
  ]

  pub parted_found : (from id : ℕ) → StayBy ss rs items old from → Least from id → ¬ (TouchesAfter ss rs items old id)
      → FailsLeast (StaysBy ss rs items old) (Some id)
  parted_found from id passed h parts = (
    λ clear. parts (record {
      each = λ a there e.
          let same : h.item ≡ a = same_item items h.item a ascends h.there there (h.id_is ∙ sym e) in
          clear a there e (λ same_id. h.looked_at.1 (ap (λ (n : ℕ). Some n) (same_id ∙ sym h.id_is)))
          (subst (AreTouching old) same h.holds);
    }),
    λ y less a there e other touch.
        stay_before from id passed h a there (omega (arith, less, e)) (λ same. other (same ∙ e)) touch,
  )

  pub parted_passed : (from id : ℕ) → StayBy ss rs items old from → Least from id → TouchesAfter ss rs items old id
      → StayBy ss rs items old (id + 1)
  parted_passed from id passed h touches = record {
    each = λ a there less other touch. elim (cases_lt a.id id) [
      | inl early ↦ stay_before from id passed h a there early other touch
      | inr late ↦ touches.each a there (let same : a.id ≡ id = omega (arith, less, late) in same)
    ];
  }

  pub parted_none : (from : ℕ) → StayBy ss rs items old from
      → Finds (AreTouching old) (λ b. AreTouching old b → ⊥) from (Some old.id) items None
      → FailsLeast (StaysBy ss rs items old) None
  parted_none from passed h = λ x a there e other touch. elim (cases_lt a.id from) [
    | inl early ↦ passed.each a there early (λ same. other (same ∙ e)) touch
    | inr late ↦ absurd (h a there (late, λ same. other (same_Some old.id a.id same ∙ e)) touch)
  ]

  pub parted_end : (from : ℕ) → StayBy ss rs items old from → 2 ^ 64 ≤ from → All (λ (b : Item). b.id < 2 ^ 64) items
      → FailsLeast (StaysBy ss rs items old) None
  parted_end from passed big within = λ x a there e other touch.
      let small : a.id < 2 ^ 64 = All-contains (λ (b : Item). b.id < 2 ^ 64) items a within there in
      passed.each a there (omega (arith, small, big)) (λ same. other (same ∙ e)) touch

-- ---- all shoved items
module _ (given : List Item) (ss : List Shoved) (rs items : List Item) where
  pub with_given : (id : ℕ) (old : Item) (r : Option ℕ) → old.id ≡ id → slice_get given id ≡ Some old
      → FailsLeast (StaysBy ss rs items old) r
      → FailsLeast (StaysWith given ss rs items id) r
  with_given id old r numbered is h =
      least_same (StaysBy ss rs items old) (StaysWith given ss rs items id)
      (λ x p a there e other old' is' touch.
      let same : old ≡ old' = same_Some old old' (sym is ∙ is') in
      subst (λ (b : Item). AreTouching (lies_after ss rs b) (lies_after ss rs a)) same
      (p a there e (λ o. other (sym numbered ∙ o)) (subst (λ (b : Item). AreTouching b a) (sym same) touch)))
      (λ x p a there e other touch. p a there e (λ o. other (numbered ∙ o)) old is touch)
      r h

  pub with_none : (id : ℕ) → slice_get given id ≡ None → FailsLeast (StaysWith given ss rs items id) None
  with_none id missing = λ x a there e other old is touch. absurd (none-some old (sym missing ∙ is))

  pub with_more : (front : List Shoved) (s : Shoved) (r q : Option ℕ)
      → FailsLeast (StaysWithAll given ss rs items front) r
      → FailsLeast (StaysWith given ss rs items s.id) q → FailsLeast
      (StaysWithAll given ss rs items (front ++ s ∷ [])) (least_of r q)
  with_more front s r q h k =
      least_same (λ x. StaysWithAll given ss rs items front x × StaysWith given ss rs items s.id x)
      (StaysWithAll given ss rs items (front ++ s ∷ []))
      (λ x p a there e t within other old is touch. elim (Contains-push_cases front s t within) [
        | inl early ↦ p.0 a there e t early other old is touch
        | inr last ↦
            let same : s.id ≡ t.id = ap (λ (u : Shoved). u.id) last in
            p.1 a there e (λ o. other (sym same ∙ o)) old (ap (slice_get given) same ∙ is) touch
      ])
      (λ x p. (
        λ a there e t within other old is touch. p a there e t
            (Contains-append_left front (s ∷ []) t within) other old is touch,
        λ a there e other old is touch. p a there e s (Contains-push front s) other old is touch,
      ))
      (least_of r q)
      (least_both (StaysWithAll given ss rs items front) (StaysWith given ss rs items s.id) r q h k)

-- behind the added items stand the replacements
pub behind_added : (d : Design) (given : List Item) (o : Offer) (new : List Item) (count : ℕ)
    → new ≡ new_items d given o → count ≡ length o.add
    → drop count new ≡ replaced d given o
behind_added d given o new count is long =
    ap (drop count) is
    ∙ ap (λ (n : ℕ). drop n (added d given o ++ replaced d given o))
    (long ∙ sym (added_length d o.net (length given) o.add))
    ∙ drop-append_seam (added d given o) (replaced d given o)

-- what lies at its place among the replacements is what lies there after the shoves
pub joined_least : (d : Design) (given items : List Item) (o : Offer) (r : Option ℕ) → AreGiven d given
    → All (λ (a : Item). slice_get given a.id ≡ Some a) items
    → FailsLeast (StaysWithAll given o.shoves (replaced d given o) items o.shoves) r
    → FailsLeast (StaysJoined d given items o) r
joined_least d given items o r are stand h =
    let rs = replaced d given o in
    let first = length given + length o.add in
    let at : (a : Item) → Contains items a → slice_get given a.id ≡ Some a =
    λ a there. All-contains (λ (b : Item). slice_get given b.id ≡ Some b) items a stand there in
    let was : (x : ℕ) (a : Item) → slice_get given x ≡ Some a → slice_get given a.id ≡ Some a =
    λ x a is. ap (slice_get given) (are x a is).numbered ∙ is in
    let like : (a : Item) → slice_get given a.id ≡ Some a
    → IsLike (lies_after o.shoves rs a) (after_shoves d o.shoves a) = lies_like d given first o.shoves in
    least_same (StaysWithAll given o.shoves rs items o.shoves) (StaysJoined d given items o)
    (λ x p a there e s within other old is touch.
    like_touch (lies_after o.shoves rs old) (after_shoves d o.shoves old) (lies_after o.shoves rs a)
    (after_shoves d o.shoves a)
    (like old (was s.id old is)) (like a (at a there)) (p a there e s within other old is touch))
    (λ x p a there e s within other old is touch.
    like_touch (after_shoves d o.shoves old) (lies_after o.shoves rs old) (after_shoves d o.shoves a)
    (lies_after o.shoves rs a)
    (like_back _ _ (like old (was s.id old is))) (like_back _ _ (like a (at a there)))
    (p a there e s within other old is touch))
    r h

-- ---- places
pub no_shove : Shoved
no_shove = record { id = 0; chain = [] }

pub place_found : (ss : List Shoved) (id i : ℕ) → position (λ (s : Shoved). s.id == id) ss ≡ Some i
    → (i < length ss) × (position_or_len (λ (s : Shoved). s.id == id) ss ≡ i)
place_found ss id i e =
    let p = position-Some (λ (s : Shoved). s.id == id) ss i no_shove e in
    let within = p.0 in
    (within, position_or_len_is (λ (s : Shoved). s.id == id) ss i no_shove (omega (arith, within)) p.2 (λ l. p.1))

pub place_missing : (ss : List Shoved) (id : ℕ) → position (λ (s : Shoved). s.id == id) ss ≡ None
    → length ss ≤ position_or_len (λ (s : Shoved). s.id == id) ss
place_missing ss id e = by (nat_lt (position_or_len (λ (s : Shoved). s.id == id) ss) (length ss)) refl e
  where
    by : (b : Bool) → nat_lt (position_or_len (λ (s : Shoved). s.id == id) ss) (length ss) ≡ b
        → cond b (Some (position_or_len (λ (s : Shoved). s.id == id) ss)) None ≡ None
        → length ss ≤ position_or_len (λ (s : Shoved). s.id == id) ss
    by true less is = absurd (none-some (position_or_len (λ (s : Shoved). s.id == id) ss) (sym is))
    by false past is = ltb-false (position_or_len (λ (s : Shoved). s.id == id) ss) (length ss) past

-- what a loop knows that seeks a place
module _ (ss : List Shoved) (id i : ℕ) where
  pub none_before : (s : Shoved) → i < length ss → ((k : ℕ) → k < i → ((get_or ss k no_shove).id == id) ≡ false)
      → ((get_or ss i s).id ≡ id → ⊥) → (k : ℕ) → k < i + 1 → ((get_or ss k no_shove).id == id) ≡ false
  none_before s within none other k less = elim (cases_lt k i) [
    | inl before ↦ none k before
    | inr past ↦
        let same : i ≡ k = omega (arith, less, past) in
        subst (λ (n : ℕ). ((get_or ss n no_shove).id == id) ≡ false) same
        (subst (λ (a : Shoved). (a.id == id) ≡ false) (get_or_default ss i s no_shove within)
        (ne_eqb (get_or ss i s).id id other))
  ]

  place_at : (n : ℕ) (b : Bool) → n ≡ i → nat_lt i (length ss) ≡ b
      → cond b (Some i) None ≡ cond (nat_lt n (length ss)) (Some n) None
  place_at n b is e =
      subst (λ (m : ℕ). cond b (Some i) None ≡ cond (nat_lt m (length ss)) (Some m) None) (sym is)
      (ap (λ (t : Bool). cond t (Some i) None) (sym e))

  pub place_is : (s : Shoved) → i < length ss → ((k : ℕ) → k < i → ((get_or ss k no_shove).id == id) ≡ false)
      → (get_or ss i s).id ≡ id → Some i ≡ position (λ (s : Shoved). s.id == id) ss
  place_is s within none same =
      place_at (position_or_len (λ (s : Shoved). s.id == id) ss) true
      (position_or_len_is (λ (s : Shoved). s.id == id) ss i s (omega (arith, within))
      (λ k less.
      subst (λ (a : Shoved). (a.id == id) ≡ false)
      (get_or_default ss k no_shove s (omega (arith, less, within))) (none k less))
      (λ l. eq-eqb (get_or ss i s).id id same)) (lt-ltb i (length ss) within)

  pub no_place : length ss ≤ i → i ≤ length ss → ((k : ℕ) → k < i → ((get_or ss k no_shove).id == id) ≡ false)
      → None ≡ position (λ (s : Shoved). s.id == id) ss
  no_place past within none =
      place_at (position_or_len (λ (s : Shoved). s.id == id) ss) false
      (position_or_len_is (λ (s : Shoved). s.id == id) ss i no_shove within none
      (λ l. absurd (omega (arith, l, past)))) (le-ltb i (length ss) past)
