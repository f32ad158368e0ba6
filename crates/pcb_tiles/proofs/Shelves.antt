-- Items in chunks: where an id belongs, and what a change of one chunk does to all items.
use Rattle.std.proofs.Common.{◌≡◌, ℕ, ◌+◌, ◌-◌, ◌<◌, ◌≤◌, Bool, true, false, cond, not, ltb, eqb, List, [], ◌∷◌}
use Rattle.std.proofs.Common.{◌++◌, length, filter, take, drop, All, AllPairs, get_or, refl, sym, ap, ◌∙◌, subst}
use Rattle.std.proofs.Common.{arith, append_assoc, inl, inr}
use Prim.Native.Nat.{zero, suc}
use Rattle.std.specs.Prelude.{Contains, slice_get, Option, Some, None, MatchOption}
use Rattle.std.specs.List.Sorted.{IsNonDecreasingBy}
use Rattle.std.proofs.lemmas.List.{length-take, get_or-take, take_all, drop_all, length-append}
use Rattle.std.proofs.lemmas.List.Concat.{flat_map-append}
use Rattle.std.proofs.lemmas.List.Elements.{filter-append, All-head, All-tail, All-cons, All-nil, All-append}
use Rattle.std.proofs.lemmas.List.Elements.{All-weaker, All-take, All-drop, All-contains, Contains-append_left}
use Rattle.std.proofs.lemmas.List.Elements.{Contains-append_right, Contains-get_or}
use Rattle.std.proofs.lemmas.List.Kept.{AllPairs-cons}
use Rattle.pcb_model.specs.declared.item.Item.{Item}
use Rattle.pcb_model.specs.Copper.{Ascends, IsFirstFrom}
use Rattle.pcb_tiles.specs.Cells.{with_item, without_item}
use Rattle.pcb_tiles.specs.Shelves.{flat, IsChunk, last_id, id_of, chunk_at, IsHome, IsRoom}
use Rattle.pcb_tiles.proofs.Best.{same_or_less}
use Rattle.pcb_tiles.proofs.Nearness.{all_left, all_right, cases_lt}
use Rattle.pcb_tiles.proofs.Changes.{IsBelow, pairs_head, pairs_tail, filter_all, above_high, above_low, below_low}
use Rattle.pcb_tiles.proofs.Changes.{below_high, split, not_same}

-- ---- the parts of a shelf
pub flat_parts : (chunks : List (List Item)) (k : ℕ)
    → flat chunks ≡ flat (take k chunks) ++ (chunk_at chunks k ++ flat (drop (suc k) chunks))
flat_parts [] zero = refl
flat_parts [] (suc k) = refl
flat_parts (c ∷ chunks) zero = refl
flat_parts (c ∷ chunks) (suc k) =
    let F : List Item → List Item = λ xs. c ++ xs in
    ap F (flat_parts chunks k)
    ∙ sym (append_assoc c (flat (take k chunks)) (chunk_at chunks k ++ flat (drop (suc k) chunks)))

pairs_left : {X : Type 0} (R : X → X → Type 0) (xs ys : List X) → AllPairs R (xs ++ ys) → AllPairs R xs
pairs_left R [] ys h = λ i j d m l. absurd (omega (arith, l))
pairs_left R (x ∷ xs) ys h =
    AllPairs-cons R x xs (all_left (R x) xs ys (pairs_head R x (xs ++ ys) h))
    (pairs_left R xs ys (pairs_tail R x (xs ++ ys) h))

pub pairs_right : {X : Type 0} (R : X → X → Type 0) (xs ys : List X) → AllPairs R (xs ++ ys) → AllPairs R ys
pairs_right R [] ys h = h
pairs_right R (x ∷ xs) ys h = pairs_right R xs ys (pairs_tail R x (xs ++ ys) h)

pairs_across : {X : Type 0} (R : X → X → Type 0) (xs ys : List X) → AllPairs R (xs ++ ys) → All (λ x. All (R x) ys) xs
pairs_across {X} R [] ys h = let P : X → Type 0 = λ y. All (R y) ys in All-nil P
pairs_across {X} R (x ∷ xs) ys h =
    let P : X → Type 0 = λ y. All (R y) ys in
    All-cons P x xs (all_right (R x) xs ys (pairs_head R x (xs ++ ys) h))
    (pairs_across R xs ys (pairs_tail R x (xs ++ ys) h))

-- ---- the last item of a chunk
got_at : (items : List Item) (k : ℕ) (d : Item) → k < length items → slice_get items k ≡ Some (get_or items k d)
got_at [] k d h = absurd (omega (arith, h))
got_at (x ∷ xs) zero d h = refl
got_at (x ∷ xs) (suc k) d h = got_at xs k d (omega (arith, h))

last_is : (items : List Item) (d : Item) → 0 < length items → last_id items ≡ (get_or items (length items - 1) d).id
last_is items d h = ap id_of (got_at items (length items - 1) d (omega (arith, h)))

up_to_last : (items : List Item) → Ascends items → All (λ (b : Item). b.id ≤ last_id items) items
up_to_last items up k d l =
    let t = last_is items d (omega (arith, l)) in
    elim (same_or_less k (length items - 1) (omega (arith, l))) [
      | inl e ↦ let s : (get_or items k d).id ≡ (get_or items (length items - 1) d).id =
          ap (λ (n : ℕ). (get_or items n d).id) e in
          omega (arith, s, t)
      | inr m ↦ let u = up k (length items - 1) d m (omega (arith, l)) in omega (arith, u, t)
    ]

-- what holds of each id holds of the last one
last_has : (P : ℕ → Type 0) (items : List Item) → 0 < length items → All (λ (b : Item). P b.id) items
    → P (last_id items)
last_has P [] h a = absurd (omega (arith, h))
last_has P (x ∷ xs) h a = subst P (sym (last_is (x ∷ xs) x h)) (a (length (x ∷ xs) - 1) x (omega arith))

-- ---- ids below and above
flat_below : (chunks : List (List Item)) (id : ℕ) → Ascends (flat chunks)
    → All (λ (c : List Item). last_id c < id) chunks
    → All (λ (b : Item). b.id < id) (flat chunks)
flat_below [] id up h = All-nil (λ (b : Item). b.id < id)
flat_below (c ∷ chunks) id up h =
    let P : Item → Type 0 = λ b. b.id < id in
    let L : List Item → Type 0 = λ x. last_id x < id in
    let l : last_id c < id = All-head L c chunks h in
    All-append P c (flat chunks)
    (All-weaker (λ (b : Item). b.id ≤ last_id c) P (λ b m. omega (arith, m, l)) c
    (up_to_last c (pairs_left IsBelow c (flat chunks) up)))
    (flat_below chunks id (pairs_right IsBelow c (flat chunks) up) (All-tail L c chunks h))

above_chunks : (n : ℕ) (chunks : List (List Item)) → All IsChunk chunks → All (λ (b : Item). n < b.id) (flat chunks)
    → All (λ (c : List Item). n < last_id c) chunks
above_chunks n [] h a = All-nil (λ (c : List Item). n < last_id c)
above_chunks n (c ∷ chunks) h a =
    let P : List Item → Type 0 = λ x. n < last_id x in
    let Q : Item → Type 0 = λ b. n < b.id in
    All-cons P c chunks
    (last_has (λ (m : ℕ). n < m) c (All-head IsChunk c chunks h).some (all_left Q c (flat chunks) a))
    (above_chunks n chunks (All-tail IsChunk c chunks h) (all_right Q c (flat chunks) a))

later : (c rest : List Item) → 0 < length c → Ascends (c ++ rest) → All (λ (b : Item). last_id c < b.id) rest
later c rest h up = last_has (λ (n : ℕ). All (λ (b : Item). n < b.id) rest) c h (pairs_across IsBelow c rest up)

-- the chunks' last ids rise
pub chunks_rise : (chunks : List (List Item)) → Ascends (flat chunks) → All IsChunk chunks
    → IsNonDecreasingBy last_id chunks
chunks_rise [] up h i j d m l = absurd (omega (arith, l))
chunks_rise (c ∷ chunks) up h zero zero d m l = omega arith
chunks_rise (c ∷ chunks) up h zero (suc j) d m l =
    let a = above_chunks (last_id c) chunks (All-tail IsChunk c chunks h)
    (later c (flat chunks) (All-head IsChunk c chunks h).some up) j d (omega (arith, l)) in
    omega (arith, a)
chunks_rise (c ∷ chunks) up h (suc i) zero d m l = absurd (omega (arith, m))
chunks_rise (c ∷ chunks) up h (suc i) (suc j) d m l =
    chunks_rise chunks (pairs_right IsBelow c (flat chunks) up) (All-tail IsChunk c chunks h) i j d (omega (arith, m))
    (omega (arith, l))

-- ---- where an id belongs
pub home_is : (chunks : List (List Item)) (id k : ℕ) → k ≤ length chunks
    → ((j : ℕ) (d : List Item) → j < k → last_id (get_or chunks j d) < id)
    → ((j : ℕ) (d : List Item) → k ≤ j → j < length chunks → id ≤ last_id (get_or chunks j d)) → IsHome chunks id k
home_is chunks id k w below above = record {
  within = w;
  below = λ j d l.
      let m : j < k = omega (arith, l, length-take k chunks) in
      let F : List Item → Type 0 = λ c. last_id c < id in
      subst F (sym (get_or-take k chunks j d m)) (below j d m);
  at = λ l. above k [] (omega arith) l;
}

-- ids ascend from the chunk at a place on, and within it
from_here : (chunks : List (List Item)) (k : ℕ) → Ascends (flat chunks)
    → Ascends (chunk_at chunks k ++ flat (drop (suc k) chunks))
from_here chunks k up =
    pairs_right IsBelow (flat (take k chunks)) (chunk_at chunks k ++ flat (drop (suc k) chunks))
    (subst Ascends (flat_parts chunks k) up)

pub chunk_ascends : (chunks : List (List Item)) (k : ℕ) → Ascends (flat chunks) → Ascends (chunk_at chunks k)
chunk_ascends chunks k up =
    pairs_left IsBelow (chunk_at chunks k) (flat (drop (suc k) chunks)) (from_here chunks k up)

before_home : (chunks : List (List Item)) (id k : ℕ) → Ascends (flat chunks) → IsHome chunks id k
    → All (λ (b : Item). b.id < id) (flat (take k chunks))
before_home chunks id k up h =
    flat_below (take k chunks) id
    (pairs_left IsBelow (flat (take k chunks)) (chunk_at chunks k ++ flat (drop (suc k) chunks))
    (subst Ascends (flat_parts chunks k) up))
    h.below

pub all_below : (chunks : List (List Item)) (id k : ℕ) → Ascends (flat chunks) → IsHome chunks id k
    → length chunks ≤ k
    → All (λ (b : Item). b.id < id) (flat chunks)
all_below chunks id k up h l =
    let F : List (List Item) → Type 0 = λ x. All (λ (b : Item). b.id < id) (flat x) in
    subst F (take_all k chunks l) (before_home chunks id k up h)

chunk_some : (chunks : List (List Item)) (k : ℕ) → All IsChunk chunks → k < length chunks
    → 0 < length (chunk_at chunks k)
chunk_some chunks k h l = (h k [] l).some

pub chunk_most : (chunks : List (List Item)) (k : ℕ) → All IsChunk chunks → length (chunk_at chunks k) ≤ 128
chunk_most [] k h = omega arith
chunk_most (c ∷ chunks) zero h = (All-head IsChunk c chunks h).at_most
chunk_most (c ∷ chunks) (suc k) h = chunk_most chunks k (All-tail IsChunk c chunks h)

after_home : (chunks : List (List Item)) (id k : ℕ) → Ascends (flat chunks) → All IsChunk chunks → k < length chunks
    → id ≤ last_id (chunk_at chunks k) → All (λ (b : Item). id < b.id) (flat (drop (suc k) chunks))
after_home chunks id k up h l at =
    let P : Item → Type 0 = λ b. id < b.id in
    All-weaker (λ (b : Item). last_id (chunk_at chunks k) < b.id) P (λ b m. omega (arith, m, at))
    (flat (drop (suc k) chunks))
    (later (chunk_at chunks k) (flat (drop (suc k) chunks)) (chunk_some chunks k h l) (from_here chunks k up))

none_after : (chunks : List (List Item)) (id k : ℕ) → length chunks ≤ suc k
    → All (λ (b : Item). id < b.id) (flat (drop (suc k) chunks))
none_after chunks id k l =
    let F : List (List Item) → Type 0 = λ x. All (λ (b : Item). id < b.id) (flat x) in
    subst F (sym (drop_all (suc k) chunks l)) (All-nil (λ (b : Item). id < b.id))

-- room for an id: the chunk that is its home
pub room_home : (chunks : List (List Item)) (id k : ℕ) → Ascends (flat chunks) → All IsChunk chunks
    → IsHome chunks id k
    → k < length chunks → IsRoom chunks id k
room_home chunks id k up h home l = record {
  low = before_home chunks id k up home;
  high = after_home chunks id k up h l (home.at l);
}

-- or the last one
pub room_last : (chunks : List (List Item)) (id k j : ℕ) → Ascends (flat chunks) → IsHome chunks id k
    → length chunks ≤ k → k ≤ suc j
    → IsRoom chunks id j
room_last chunks id k j up home l m = record {
  low =
      let P : Item → Type 0 = λ b. b.id < id in
      all_left P (flat (take j chunks)) (chunk_at chunks j ++ flat (drop (suc j) chunks))
      (subst (All P) (flat_parts chunks j) (all_below chunks id k up home l));
  high = none_after chunks id j (omega (arith, l, m));
}

-- ---- the first item from an id on
first_none : (chunks : List (List Item)) (id k : ℕ) → Ascends (flat chunks) → All IsChunk chunks → IsHome chunks id k
    → All (λ (b : Item). b.id < id) (chunk_at chunks k) → All (λ (b : Item). b.id < id) (flat chunks)
first_none chunks id k up h home all = elim (cases_lt k (length chunks)) [
  | inl l ↦
      let m = last_has (λ (n : ℕ). n < id) (chunk_at chunks k) (chunk_some chunks k h l) all in
      let n = home.at l in
      absurd (omega (arith, m, n))
  | inr l ↦ all_below chunks id k up home l
]

first_some : (chunks : List (List Item)) (id k : ℕ) (a : Item) → Ascends (flat chunks) → IsHome chunks id k
    → IsFirstFrom id (chunk_at chunks k) a → IsFirstFrom id (flat chunks) a
first_some chunks id k a up home f =
    let L = flat (take k chunks) in
    let c = chunk_at chunks k in
    let R = flat (drop (suc k) chunks) in
    let P : Item → Type 0 = λ b. b.id < a.id → b.id < id in
    let F : List Item → Type 0 = λ x. Contains x a in
    let Q : Item → Type 0 = λ x. All (IsBelow x) R in
    let inside : All P c = λ j d m. f.before (get_or c j d) (Contains-get_or c j d m) in
    let beyond : All (IsBelow a) R = All-contains Q c a (pairs_across IsBelow c R (from_here chunks k up)) f.there in
    let parts : All P (L ++ (c ++ R)) =
    All-append P L (c ++ R)
    (All-weaker (λ (b : Item). b.id < id) P (λ b m less. m) L (before_home chunks id k up home))
    (All-append P c R inside (All-weaker (IsBelow a) P (λ b m less. absurd (omega (arith, m, less))) R beyond)) in
    let whole = sym (flat_parts chunks k) in
    let all : All P (flat chunks) = subst (All P) whole parts in
    record {
      there = subst F whole (Contains-append_right L (c ++ R) a (Contains-append_left c R a f.there));
      from_on = f.from_on;
      before = λ b m. All-contains P (flat chunks) b all m;
    }

pub first_is : (chunks : List (List Item)) (id k : ℕ) (c : List Item) (o : Option Item) → Ascends (flat chunks)
    → All IsChunk chunks
    → IsHome chunks id k → c ≡ chunk_at chunks k → MatchOption o (All (λ (b : Item). b.id < id) c) (IsFirstFrom id c)
    → MatchOption o (All (λ (b : Item). b.id < id) (flat chunks)) (IsFirstFrom id (flat chunks))
first_is chunks id k c None up h home e m =
    let F : List Item → Type 0 = All (λ (b : Item). b.id < id) in
    first_none chunks id k up h home (subst F e m)
first_is chunks id k c (Some a) up h home e m =
    let F : List Item → Type 0 = λ x. IsFirstFrom id x a in
    first_some chunks id k a up home (subst F e m)

-- ---- a change of one chunk
with_low : (a : Item) (low rest : List Item) → All (λ (b : Item). b.id < a.id) low
    → with_item a (low ++ rest) ≡ low ++ with_item a rest
with_low a low rest h =
    let p : Item → Bool = λ b. ltb b.id a.id in
    let q : Item → Bool = λ b. ltb a.id b.id in
    let F : List Item → List Item = λ x. x ++ a ∷ filter q (low ++ rest) in
    let G : List Item → List Item = λ x. (low ++ filter p rest) ++ a ∷ x in
    let H : List Item → List Item = λ x. x ++ filter p rest in
    let K : List Item → List Item = λ x. x ++ filter q rest in
    ap F (filter-append p low rest ∙ ap H (below_low a.id low h))
    ∙ (ap G (filter-append q low rest ∙ ap K (below_high a.id low h))
    ∙ append_assoc low (filter p rest) (a ∷ filter q rest))

pub append_none : (xs : List Item) → xs ++ [] ≡ xs
append_none [] = refl
append_none (x ∷ xs) = let F : List Item → List Item = λ y. x ∷ y in ap F (append_none xs)

with_high : (a : Item) (c high : List Item) → All (λ (b : Item). a.id < b.id) high
    → with_item a (c ++ high) ≡ with_item a c ++ high
with_high a c high h =
    let p : Item → Bool = λ b. ltb b.id a.id in
    let q : Item → Bool = λ b. ltb a.id b.id in
    let F : List Item → List Item = λ x. x ++ a ∷ filter q (c ++ high) in
    let G : List Item → List Item = λ x. filter p c ++ a ∷ x in
    let H : List Item → List Item = λ x. filter p c ++ x in
    let K : List Item → List Item = λ x. filter q c ++ x in
    ap F (filter-append p c high ∙ (ap H (above_low a.id high h) ∙ append_none (filter p c)))
    ∙ (ap G (filter-append q c high ∙ ap K (above_high a.id high h))
    ∙ sym (append_assoc (filter p c) (a ∷ filter q c) high))

flat_join : (xs by ys : List (List Item)) → flat (xs ++ (by ++ ys)) ≡ flat xs ++ (flat by ++ flat ys)
flat_join xs by ys =
    let I : List Item → List Item = λ c. c in
    let F : List Item → List Item = λ x. flat xs ++ x in
    flat_map-append I xs (by ++ ys) ∙ ap F (flat_map-append I by ys)

pub put_flat : (chunks by all : List (List Item)) (k : ℕ) (a : Item) → IsRoom chunks a.id k
    → flat by ≡ with_item a (chunk_at chunks k) → all ≡ take k chunks ++ (by ++ drop (suc k) chunks)
    → flat all ≡ with_item a (flat chunks)
put_flat chunks by all k a room e f =
    let L = flat (take k chunks) in
    let c = chunk_at chunks k in
    let R = flat (drop (suc k) chunks) in
    let F : List Item → List Item = λ x. L ++ x in
    let G : List Item → List Item = λ x. L ++ (x ++ R) in
    ap flat f ∙ (flat_join (take k chunks) by (drop (suc k) chunks) ∙ (ap G e
    ∙ sym (ap (with_item a) (flat_parts chunks k)
    ∙ (with_low a L (c ++ R) room.low ∙ ap F (with_high a c R room.high)))))

pub take_flat : (chunks by all : List (List Item)) (k id : ℕ) → IsRoom chunks id k
    → flat by ≡ without_item id (chunk_at chunks k) → all ≡ take k chunks ++ (by ++ drop (suc k) chunks)
    → flat all ≡ without_item id (flat chunks)
take_flat chunks by all k id room e f =
    let q : Item → Bool = λ b. not (eqb b.id id) in
    let L = flat (take k chunks) in
    let c = chunk_at chunks k in
    let R = flat (drop (suc k) chunks) in
    let G : List Item → List Item = λ x. L ++ (x ++ R) in
    let F : List Item → List Item = λ x. x ++ filter q (c ++ R) in
    let H : List Item → List Item = λ x. L ++ x in
    let K : List Item → List Item = λ x. L ++ (filter q c ++ x) in
    let low : filter q L ≡ L =
    filter_all q L
    (All-weaker (λ (b : Item). b.id < id) (λ (b : Item). q b ≡ true)
    (λ b m. not_same b.id id (λ s. omega (arith, m, s))) L room.low) in
    let high : filter q R ≡ R =
    filter_all q R
    (All-weaker (λ (b : Item). id < b.id) (λ (b : Item). q b ≡ true)
    (λ b m. not_same b.id id (λ s. omega (arith, m, s))) R room.high) in
    ap flat f ∙ (flat_join (take k chunks) by (drop (suc k) chunks) ∙ (ap G e
    ∙ sym (ap (filter q) (flat_parts chunks k)
    ∙ (filter-append q L (c ++ R) ∙ (ap F low ∙ (ap H (filter-append q c R) ∙ ap K high))))))

pub chunks_all : (chunks by all : List (List Item)) (k : ℕ) → All IsChunk chunks → All IsChunk by
    → all ≡ take k chunks ++ (by ++ drop (suc k) chunks) → All IsChunk all
chunks_all chunks by all k h b e =
    subst (All IsChunk) (sym e)
    (All-append IsChunk (take k chunks) (by ++ drop (suc k) chunks) (All-take IsChunk k chunks h)
    (All-append IsChunk by (drop (suc k) chunks) b (All-drop IsChunk (suc k) chunks h)))

chunk_has : (P : Item → Type 0) (chunks : List (List Item)) (k : ℕ) → All P (flat chunks) → All P (chunk_at chunks k)
chunk_has P chunks k h =
    let rest = chunk_at chunks k ++ flat (drop (suc k) chunks) in
    all_left P (chunk_at chunks k) (flat (drop (suc k) chunks))
    (all_right P (flat (take k chunks)) rest (subst (All P) (flat_parts chunks k) h))

-- ---- how many items a changed chunk has
pub with_length : (a : Item) (items : List Item) → Ascends items → All (λ (b : Item). b.id ≡ a.id → ⊥) items
    → length (with_item a items) ≡ length items + 1
with_length a items up none =
    let p = filter (λ (b : Item). ltb b.id a.id) items in
    let q = filter (λ (b : Item). ltb a.id b.id) items in
    let e = ap length (split a.id items up none) in
    omega (arith, e, length-append p q, length-append p (a ∷ q))

kept_most : {X : Type 0} (p : X → Bool) (t : Bool) (x : X) (xs : List X) → length (filter p xs) ≤ length xs
    → length (cond t (x ∷ filter p xs) (filter p xs)) ≤ suc (length xs)
kept_most p true x xs h = omega (arith, h)
kept_most p false x xs h = omega (arith, h)

pub filter_most : {X : Type 0} (p : X → Bool) (xs : List X) → length (filter p xs) ≤ length xs
filter_most p [] = omega arith
filter_most p (x ∷ xs) = kept_most p (p x) x xs (filter_most p xs)

pub put_fits : (chunks : List (List Item)) (k : ℕ) (a : Item) → Ascends (flat chunks) → All IsChunk chunks
    → All (λ (b : Item). b.id ≡ a.id → ⊥) (flat chunks) → length (with_item a (chunk_at chunks k)) ≤ 129
put_fits chunks k a up h none =
    let P : Item → Type 0 = λ b. b.id ≡ a.id → ⊥ in
    let e = with_length a (chunk_at chunks k) (chunk_ascends chunks k up) (chunk_has P chunks k none) in
    let m = chunk_most chunks k h in
    omega (arith, e, m)

pub take_fits : (chunks : List (List Item)) (k id : ℕ) → All IsChunk chunks
    → length (without_item id (chunk_at chunks k)) ≤ 129
take_fits chunks k id h =
    let e = filter_most (λ (b : Item). not (eqb b.id id)) (chunk_at chunks k) in
    let m = chunk_most chunks k h in
    omega (arith, e, m)

-- ---- the item of an id
pub none_held : (items : List Item) (id : ℕ) → All (λ (b : Item). b.id < id) items
    → All (λ (b : Item). b.id ≡ id → ⊥) items
none_held items id h = λ k d l e. let m = h k d l in omega (arith, m, e)

pub not_first : (items : List Item) (id : ℕ) (a : Item) → IsFirstFrom id items a → (a.id ≡ id → ⊥)
    → All (λ (b : Item). b.id ≡ id → ⊥) items
not_first items id a f n = λ k d l e.
    let from = f.from_on in
    elim (same_or_less id a.id (omega (arith, from))) [
      | inl s ↦ n (sym s)
      | inr m ↦ let b = f.before (get_or items k d) (Contains-get_or items k d l) (omega (arith, m, e)) in
          omega (arith, b, e)
    ]

-- ---- what is kept
pub put_kept : (shelf chunks list kept : List (List Item)) (a held : Item) → kept ≡ list
    → flat list ≡ with_item held (flat chunks)
    → held ≡ a → chunks ≡ shelf → flat kept ≡ with_item a (flat shelf)
put_kept shelf chunks list kept a held e f g h =
    let F : Item → List Item = λ x. with_item x (flat chunks) in
    let G : List (List Item) → List Item = λ x. with_item a (flat x) in
    ap flat e ∙ (f ∙ (ap F g ∙ ap G h))

pub take_kept : (shelf chunks list kept : List (List Item)) (id : ℕ) → kept ≡ list
    → flat list ≡ without_item id (flat chunks)
    → chunks ≡ shelf → flat kept ≡ without_item id (flat shelf)
take_kept shelf chunks list kept id e f h =
    let G : List (List Item) → List Item = λ x. without_item id (flat x) in
    ap flat e ∙ (f ∙ ap G h)
