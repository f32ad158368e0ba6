-- Parts of lists, and lists one behind the other.
use Rattle.std.proofs.Common.{◌≡◌, ◌⊎◌, inl, inr, ℕ, ◌+◌, ◌<◌, ◌≤◌, ◌==◌, map, zero, suc, Bool, true, false, true≢false}
use Rattle.std.proofs.Common.{cond, Option, Some, None, refl, sym, ◌∙◌, ap, subst, List, [], ◌∷◌, ◌++◌, length, get_or}
use Rattle.std.proofs.Common.{take, arith}
use Rattle.std.specs.Prelude.{not, ◌||◌, IfSome, slice_get}
use Rattle.std.specs.Option.{IsSomeAnd}
use Rattle.pcb_model.specs.declared.item.Item.{Item}
use Rattle.board_offers.specs.Items.{names, is_on}
use Rattle.std.proofs.lemmas.Option.{none-some, slice_get_within, get_or_from_slice_get, slice_get-get_or}
use Rattle.std.specs.List.{All, AllPairs, Any, Contains, filter}
use Rattle.std.proofs.lemmas.Bool.{eqb-true, eq-eqb}
use Rattle.std.proofs.lemmas.List.{take_all, take_more, get_or-take, get_or_default, length-take-le}
use Rattle.std.proofs.lemmas.List.Kept.{AllPairs-cons}
use Rattle.std.proofs.lemmas.List.Quantifiers.{all_pairs_push}
use Rattle.std.proofs.lemmas.List.Elements.{All-append, All-more, All-filter, All-contains, All-contains_itself}
use Rattle.std.proofs.lemmas.List.Elements.{filter_passes, Contains-get_or}

pub in_here : {X : Type 0} (x : X) (xs : List X) → Contains (x ∷ xs) x
in_here x xs = (0, omega arith, refl)

pub in_later : {X : Type 0} (x y : X) (xs : List X) → Contains xs y → Contains (x ∷ xs) y
in_later x y xs (k, within, is) = (suc k, omega (arith, within), is)

pub all_front : {X : Type 0} (R : X → X → Type 0) (x : X) (xs : List X) → AllPairs R (x ∷ xs) → All (R x) xs
all_front R x xs pairs = λ k d within. pairs 0 (suc k) d (omega arith) (omega (arith, within))

pub pairs_rest : {X : Type 0} (R : X → X → Type 0) (x : X) (xs : List X) → AllPairs R (x ∷ xs) → AllPairs R xs
pairs_rest R x xs pairs = λ i j d before within. pairs (suc i) (suc j) d (omega (arith, before)) (omega (arith, within))

-- what holds within each list and across
pub pairs_append : {X : Type 0} (R : X → X → Type 0) (xs ys : List X) → AllPairs R xs → AllPairs R ys
    → ((x : X) → Contains xs x → All (R x) ys) → AllPairs R (xs ++ ys)
pairs_append R [] ys first second across = second
pairs_append R (x ∷ xs) ys first second across =
    AllPairs-cons R x (xs ++ ys)
    (All-append (R x) xs ys (all_front R x xs first) (across x (in_here x xs)))
    (pairs_append R xs ys (pairs_rest R x xs first) second (λ z there. across z (in_later x z xs there)))

-- one more element, which stands so to each before it
pub pairs_more : {X : Type 0} (R : X → X → Type 0) (xs : List X) (i : ℕ) (x : X) → i < length xs → x ≡ get_or xs i x
    → AllPairs R (take i xs) → All (λ y. R y x) (take i xs) → AllPairs R (take (i + 1) xs)
pairs_more R xs i x within is pairs each =
    subst (AllPairs R) (sym (take_more xs i x within ∙ ap (λ y. take i xs ++ y ∷ []) (sym is)))
    (all_pairs_push R (take i xs) x pairs (λ k d less. each k d less))

-- each element before one stands so to it
pub pairs_before : {X : Type 0} (R : X → X → Type 0) (xs : List X) (i : ℕ) (x : X) → i < length xs → x ≡ get_or xs i x
    → AllPairs R xs → All (λ y. R y x) (take i xs)
pairs_before R xs i x within is pairs = λ k d less.
    let long : length (take i xs) ≡ i = length-take-le i xs (omega (arith, within)) in
    let before : k < i = omega (arith, less, long) in
    subst (λ y. R y x) (sym (get_or-take i xs k d before))
    (subst (R (get_or xs k d)) (get_or_default xs i d x within ∙ sym is) (pairs k i d before within))

-- the element that a loop is at
pub at_place_of : {X : Type 0} (P : X → Type 0) (xs : List X) → All P xs → (i : ℕ) (x : X) → i < length xs
    → x ≡ get_or xs i x → P x
at_place_of P xs all i x within is = subst P (sym is) (all i x within)

-- what holds before it, and of it
pub front_more : {X : Type 0} (P : X → Type 0) (xs : List X) (i : ℕ) (x : X) → i < length xs → x ≡ get_or xs i x
    → All P (take i xs) → P x → All P (take (i + 1) xs)
front_more P xs i x within is all here = All-more P xs i x within all (subst P is here)

pub front_all : {X : Type 0} (P : X → Type 0) (xs : List X) (i : ℕ) → length xs ≤ i → All P (take i xs) → All P xs
front_all P xs i past all = subst (All P) (take_all i xs past) all

-- some element, where one at a place is
pub any_at : {X : Type 0} (P : X → Type 0) (xs : List X) (i : ℕ) (x : X) → i < length xs → x ≡ get_or xs i x → P x
    → Any P xs
any_at P xs i x within is here = (i, x, within, sym is, here)

pub none_of_all : {X : Type 0} (P Q : X → Type 0) → ((x : X) → P x → Q x → ⊥) → (xs : List X) → All P xs → Any Q xs → ⊥
none_of_all P Q apart xs all (k, x, within, is, here) = apart x (subst P is (all k x within)) here

-- what stays was there, and passes
pub stayed : {X : Type 0} (p : X → Bool) (xs : List X) (x : X) → Contains (filter p xs) x → Contains xs x
stayed p xs x there =
    All-contains (Contains xs) (filter p xs) x (All-filter p (Contains xs) xs (All-contains_itself xs)) there

pub passes : {X : Type 0} (p : X → Bool) (xs : List X) (x : X) → Contains (filter p xs) x → p x ≡ true
passes p xs x there = All-contains (λ y. p y ≡ true) (filter p xs) x (filter_passes p xs) there

pub not_true : (b : Bool) → not b ≡ true → b ≡ false
not_true true e = sym e
not_true false e = refl

-- a filter that lets through whatever a second one keeps
filtered_step : {X : Type 0} (q : X → Bool) (x : X) (left all : List X) → filter q left ≡ all → (b : Bool)
    → (b ≡ false → q x ≡ false)
    → filter q (cond b (x ∷ left) left) ≡ cond (q x) (x ∷ all) all
filtered_step q x left all same true drops = ap (λ r. cond (q x) (x ∷ r) r) same
filtered_step q x left all same false drops = same ∙ sym (ap (λ (c : Bool). cond c (x ∷ all) all) (drops refl))

pub filtered_twice : {X : Type 0} (p q : X → Bool) (xs : List X) → All (λ x. p x ≡ false → q x ≡ false) xs
    → filter q (filter p xs) ≡ filter q xs
filtered_twice p q [] drops = refl
filtered_twice p q (x ∷ xs) drops =
    filtered_step q x (filter p xs) (filter q xs)
    (filtered_twice p q xs (λ k d within. drops (suc k) d (omega (arith, within)))) (p x) (drops 0 x (omega arith))

pub none_pass : {X : Type 0} (q : X → Bool) (xs : List X) → All (λ x. q x ≡ false) xs → filter q xs ≡ []
none_pass q [] all = refl
none_pass q (x ∷ xs) all =
    subst (λ (b : Bool). cond b (x ∷ filter q xs) (filter q xs) ≡ []) (sym (all 0 x (omega arith)))
    (none_pass q xs (λ k d within. all (suc k) d (omega (arith, within))))

-- ---- places
pub look_left : {X : Type 0} (xs ys : List X) (k : ℕ) (x : X) → slice_get xs k ≡ Some x
    → slice_get (xs ++ ys) k ≡ Some x
look_left [] ys k x e = absurd (none-some x e)
look_left (y ∷ xs) ys zero x e = e
look_left (y ∷ xs) ys (suc k) x e = look_left xs ys k x e

pub look_right : {X : Type 0} (xs ys : List X) (j : ℕ) (x : X) → slice_get ys j ≡ Some x
    → slice_get (xs ++ ys) (length xs + j) ≡ Some x
look_right [] ys j x e = subst (λ (n : ℕ). slice_get ys n ≡ Some x) (omega arith) e
look_right (y ∷ xs) ys j x e =
    subst (λ (n : ℕ). slice_get (y ∷ xs ++ ys) n ≡ Some x)
    (let k : suc (length xs + j) ≡ length (y ∷ xs) + j = omega arith in k) (look_right xs ys j x e)

-- an element of the second list, at its place there
pub record IsBehind {X : Type 0} (xs ys : List X) (k : ℕ) (x : X) : Type 0 where
  pub place : ℕ
  pub there : slice_get ys place ≡ Some x
  pub place_is : k ≡ length xs + place

pub look_cases : {X : Type 0} (xs ys : List X) (k : ℕ) (x : X) → slice_get (xs ++ ys) k ≡ Some x
    → (slice_get xs k ≡ Some x) ⊎ IsBehind xs ys k x
look_cases [] ys k x e = inr (record { place = k; there = e; place_is = omega arith })
look_cases (y ∷ xs) ys zero x e = inl e
look_cases (y ∷ xs) ys (suc k) x e = elim (look_cases xs ys k x e) [
  | inl left ↦ inl left
  | inr right ↦ inr (record { place = right.place; there = right.there; place_is = omega (arith, right.place_is) })
]

pub in_from : {X : Type 0} (xs : List X) (k : ℕ) (x : X) → slice_get xs k ≡ Some x → Contains xs x
in_from xs k x e = (k, slice_get_within xs k x e, get_or_from_slice_get xs k x x e)

pub record IsFoundAt {X : Type 0} (xs : List X) (x : X) : Type 0 where
  pub place : ℕ
  pub there : slice_get xs place ≡ Some x

pub found_at : {X : Type 0} (xs : List X) (x : X) → Contains xs x → IsFoundAt xs x
found_at xs x (k, within, is) = record { place = k; there = slice_get-get_or xs k x within ∙ ap (λ y. Some y) is }

-- what holds of each element at its place holds of all
pub all_from : {X : Type 0} (P : X → Type 0) (xs : List X) → ((x : X) → Contains xs x → P x) → All P xs
all_from P xs each = λ k d within. each (get_or xs k d) (Contains-get_or xs k d within)

-- ---- options
pub record IsThat {X : Type 0} (o : Option X) (P : X → Type 0) : Type 0 where
  pub value : X
  pub is : o ≡ Some value
  pub holds : P value

pub that : {X : Type 0} (o : Option X) (P : X → Type 0) → IsSomeAnd o P → IsThat o P
that None P h = absurd h
that (Some x) P h = record { value = x; is = refl; holds = h }

pub at_place : {X : Type 0} (P : X → Type 0) (xs : List X) (i : ℕ) → All P xs → IfSome (slice_get xs i) P
at_place P [] i h = tt
at_place P (x ∷ xs) zero h = h 0 x (omega arith)
at_place P (x ∷ xs) (suc i) h = at_place P xs i (λ k d within. h (suc k) d (omega (arith, within)))

-- ---- ids
or_cases : (a b : Bool) → (a || b) ≡ true → (a ≡ true) ⊎ (b ≡ true)
or_cases true b e = inl refl
or_cases false b e = inr e

pub named_in : (ids : List ℕ) (x : ℕ) → names ids x ≡ true → Contains ids x
named_in [] x e = absurd (true≢false (sym e))
named_in (y ∷ ys) x e = elim (or_cases (y == x) (names ys x) e) [
  | inl here ↦ subst (Contains (y ∷ ys)) (eqb-true y x here) (in_here y ys)
  | inr later ↦ in_later y x ys (named_in ys x later)
]

pub in_named : (ids : List ℕ) (x : ℕ) → Contains ids x → names ids x ≡ true
in_named [] x (k, within, is) = absurd (omega (arith, within))
in_named (y ∷ ys) x (zero, within, is) = ap (λ (b : Bool). b || names ys x) (eq-eqb y x is)
in_named (y ∷ ys) x (suc k, within, is) = or_later (y == x) (names ys x) (in_named ys x (k, omega (arith, within), is))
  where
    or_later : (a b : Bool) → b ≡ true → (a || b) ≡ true
    or_later true b e = refl
    or_later false b e = e

-- an item with the id
pub record HasItem (items : List Item) (x : ℕ) : Type 0 where
  pub item : Item
  pub there : Contains items item
  pub id_is : item.id ≡ x

pub on_item : (items : List Item) (x : ℕ) → is_on x items ≡ true → HasItem items x
on_item [] x e = absurd (true≢false (sym e))
on_item (a ∷ items) x e = elim (or_cases (a.id == x) (is_on x items) e) [
  | inl here ↦ record { item = a; there = in_here a items; id_is = eqb-true a.id x here }
  | inr later ↦ let h = on_item items x later in record
      { item = h.item; there = in_later a h.item items h.there; id_is = h.id_is }
]

pub record IsMapped {X Y : Type 0} (f : X → Y) (xs : List X) (y : Y) : Type 0 where
  pub from : X
  pub there : Contains xs from
  pub is : f from ≡ y

pub mapped : {X Y : Type 0} (f : X → Y) (xs : List X) (y : Y) → Contains (map f xs) y → IsMapped f xs y
mapped f [] y (k, within, is) = absurd (omega (arith, within))
mapped f (x ∷ xs) y (zero, within, is) = record { from = x; there = in_here x xs; is = is }
mapped f (x ∷ xs) y (suc k, within, is) =
    let m = mapped f xs y (k, omega (arith, within), is) in
    record { from = m.from; there = in_later x m.from xs m.there; is = m.is }

pub map_there : {X Y : Type 0} (f : X → Y) (xs : List X) (x : X) → Contains xs x → Contains (map f xs) (f x)
map_there f [] x (k, within, is) = absurd (omega (arith, within))
map_there f (y ∷ xs) x (zero, within, is) = (0, omega arith, ap f is)
map_there f (y ∷ xs) x (suc k, within, is) =
    in_later (f y) (f x) (map f xs) (map_there f xs x (k, omega (arith, within), is))

-- what a look-up gives
pub got : {X : Type 0} (P : X → Type 0) (xs : List X) → All P xs → (i : ℕ) (x : X) → Some x ≡ slice_get xs i → P x
got P xs all i x is = subst (λ o. IfSome o P) (sym is) (at_place P xs i all)
