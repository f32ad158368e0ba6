-- Elements of lists, by their places.
use Rattle.std.proofs.Common.{◌≡◌, ◌≢◌, ℕ, ◌<◌, Bool, List, [], ◌∷◌, ◌++◌, length, get_or, Some, refl, sym, ◌∙◌, ap}
use Rattle.std.proofs.Common.{subst, inl, inr, ◌⊎◌, arith}
use Rattle.std.specs.Prelude.{Contains, filter, slice_get}
use Rattle.std.specs.List.{AllZip}
use Rattle.std.proofs.Math.ListN.{set}
use Prim.Native.Nat.{zero, suc}
use Rattle.std.proofs.lemmas.Bool.{cases_lt}
use Rattle.std.proofs.lemmas.List.{get_or_append_left, get_or_push, length_push, length-append}
use Rattle.std.proofs.lemmas.List.Elements.{All-contains, All-filter, All-contains_itself}
use Rattle.std.proofs.lemmas.Option.{slice_get-get_or, slice_get_within, get_or_from_slice_get, same_Some}

-- ---- membership
pub in_none : {X : Type 0} (x : X) → ¬ (Contains [] x)
in_none x h = absurd (omega (arith, h.1))

pub in_here : {X : Type 0} (x : X) (xs : List X) → Contains (x ∷ xs) x
in_here x xs = (0, omega arith, refl)

pub in_later : {X : Type 0} (x y : X) (xs : List X) → Contains xs y → Contains (x ∷ xs) y
in_later x y xs h = (suc h.0, omega (arith, h.1), h.2)

in_at : {X : Type 0} (x y : X) (xs : List X) (k : ℕ) → k < length (x ∷ xs) → get_or (x ∷ xs) k y ≡ y
    → (x ≡ y) ⊎ Contains xs y
in_at x y xs zero within e = inl e
in_at x y xs (suc k) within e = inr (k, omega (arith, within), e)

pub in_cons : {X : Type 0} (x y : X) (xs : List X) → Contains (x ∷ xs) y → (x ≡ y) ⊎ Contains xs y
in_cons x y xs h = in_at x y xs h.0 h.1 h.2

-- what a filter keeps was there
pub in_filter : {X : Type 0} (p : X → Bool) (xs : List X) (x : X) → Contains (filter p xs) x → Contains xs x
in_filter p xs x h =
    All-contains (Contains xs) (filter p xs) x (All-filter p (Contains xs) xs (All-contains_itself xs)) h

-- ---- look-ups
pub look_at : {X : Type 0} (xs : List X) (x : X) (h : Contains xs x) → slice_get xs h.0 ≡ Some x
look_at {X} xs x h = slice_get-get_or xs h.0 x h.1 ∙ ap (λ (y : X). Some y) h.2

pub in_from : {X : Type 0} (xs : List X) (k : ℕ) (x : X) → slice_get xs k ≡ Some x → Contains xs x
in_from xs k x e = (k, slice_get_within xs k x e, get_or_from_slice_get xs k x x e)

pub look_left : {X : Type 0} (xs ys : List X) (k : ℕ) (x : X) → slice_get xs k ≡ Some x
    → slice_get (xs ++ ys) k ≡ Some x
look_left {X} xs ys k x e =
    let within : k < length xs = slice_get_within xs k x e in
    let more : k < length (xs ++ ys) = omega (arith, length-append xs ys) in
    slice_get-get_or (xs ++ ys) k x more
    ∙ ap (λ (y : X). Some y) (get_or_append_left xs ys x k within ∙ get_or_from_slice_get xs k x x e)

pub look_same : {X : Type 0} (xs ys : List X) (k : ℕ) → k < length xs → slice_get (xs ++ ys) k ≡ slice_get xs k
look_same [] ys k within = absurd (omega arith)
look_same (x ∷ xs) ys zero within = refl
look_same (x ∷ xs) ys (suc k) within = look_same xs ys k (omega arith)

pub look_last : {X : Type 0} (xs : List X) (x : X) → slice_get (xs ++ x ∷ []) (length xs) ≡ Some x
look_last {X} xs x =
    let within : length xs < length (xs ++ x ∷ []) = omega (arith, length_push xs x) in
    slice_get-get_or (xs ++ x ∷ []) (length xs) x within ∙ ap (λ (y : X). Some y) (get_or_push xs x x (length xs) refl)

pub look_cases : {X : Type 0} (xs : List X) (x : X) (k : ℕ) (y : X) → slice_get (xs ++ x ∷ []) k ≡ Some y
    → (slice_get xs k ≡ Some y) ⊎ ((k ≡ length xs) × (x ≡ y))
look_cases {X} xs x k y e = elim (cases_lt k (length xs)) [
  | inl h ↦ inl (sym (look_same xs (x ∷ []) k h) ∙ e)
  | inr h ↦
      let within : k < length (xs ++ x ∷ []) = slice_get_within (xs ++ x ∷ []) k y e in
      let last : k ≡ length xs = omega (arith, length_push xs x) in
      inr (last, same_Some x y (sym (look_last xs x) ∙ ap (λ (i : ℕ). slice_get (xs ++ x ∷ []) i) (sym last) ∙ e))
]

pub look_set_same : {X : Type 0} (xs : List X) (k : ℕ) (x : X) → k < length xs → slice_get (set xs k x) k ≡ Some x
look_set_same [] k x within = absurd (omega arith)
look_set_same (y ∷ xs) zero x within = refl
look_set_same (y ∷ xs) (suc k) x within = look_set_same xs k x (omega arith)

pub look_set_other : {X : Type 0} (xs : List X) (k i : ℕ) (x : X) → i ≢ k → slice_get (set xs k x) i ≡ slice_get xs i
look_set_other [] k i x apart = refl
look_set_other (y ∷ xs) zero zero x apart = absurd (apart refl)
look_set_other (y ∷ xs) zero (suc i) x apart = refl
look_set_other (y ∷ xs) (suc k) zero x apart = refl
look_set_other (y ∷ xs) (suc k) (suc i) x apart = look_set_other xs k i x (λ e. apart (ap (λ (n : ℕ). suc n) e))

-- the relation goes over to a weaker one
pub zip_weaker : {A B : Type 0} (R S : A → B → Type 0) (xs : List A) (ys : List B) → ((x : A) (w : B) → R x w → S x w)
    → AllZip R xs ys → AllZip S xs ys
zip_weaker R S [] [] weaker all = all
zip_weaker R S [] (w ∷ ys) weaker all = absurd all
zip_weaker R S (x ∷ xs) [] weaker all = absurd all
zip_weaker R S (x ∷ xs) (w ∷ ys) weaker all = (weaker x w all.0, zip_weaker R S xs ys weaker all.1)

-- also where one element is changed
pub zip_set : {A B : Type 0} (R S : A → B → Type 0) (xs : List A) (ys : List B) (k : ℕ) (y z : B)
    → slice_get ys k ≡ Some y → ((x : A) → R x y → S x z) → ((x : A) (w : B) → R x w → S x w) → AllZip R xs ys
    → AllZip S xs (set ys k z)
zip_set R S [] [] k y z at one other all = all
zip_set R S [] (w ∷ ys) k y z at one other all = absurd all
zip_set R S (x ∷ xs) [] k y z at one other all = absurd all
zip_set R S (x ∷ xs) (w ∷ ys) zero y z at one other all =
    (one x (subst (R x) (same_Some w y at) all.0), zip_weaker R S xs ys other all.1)
zip_set R S (x ∷ xs) (w ∷ ys) (suc k) y z at one other all =
    (other x w all.0, zip_set R S xs ys k y z at one other all.1)

pub zip_push : {A B : Type 0} (R : A → B → Type 0) (xs : List A) (ys : List B) (x : A) (y : B) → AllZip R xs ys → R x y
    → AllZip R (xs ++ x ∷ []) (ys ++ y ∷ [])
zip_push R [] [] x y all more = (more, all)
zip_push R [] (w ∷ ys) x y all more = absurd all
zip_push R (v ∷ xs) [] x y all more = absurd all
zip_push R (v ∷ xs) (w ∷ ys) x y all more = (all.0, zip_push R xs ys x y all.1 more)

-- ---- partners
-- an element of the right list with its partner
pub record HasLeft {A B : Type 0} (R : A → B → Type 0) (xs : List A) (k : ℕ) (y : B) : Type 0 where
  pub x : A
  pub there : slice_get xs k ≡ Some x
  pub holds : R x y

pub record HasRight {A B : Type 0} (R : A → B → Type 0) (ys : List B) (k : ℕ) (x : A) : Type 0 where
  pub y : B
  pub there : slice_get ys k ≡ Some y
  pub holds : R x y

pub left_of : {A B : Type 0} (R : A → B → Type 0) (xs : List A) (ys : List B) (k : ℕ) (y : B) → AllZip R xs ys
    → slice_get ys k ≡ Some y → HasLeft R xs k y
left_of R [] [] k y all at = absurd (cc at)
left_of R [] (w ∷ ys) k y all at = absurd all
left_of R (v ∷ xs) [] k y all at = absurd all
left_of R (v ∷ xs) (w ∷ ys) zero y all at = record { x = v; there = refl; holds = subst (R v) (same_Some w y at) all.0 }
left_of R (v ∷ xs) (w ∷ ys) (suc k) y all at = let h = left_of R xs ys k y all.1 at in
    record { x = h.x; there = h.there; holds = h.holds }

pub right_of : {A B : Type 0} (R : A → B → Type 0) (xs : List A) (ys : List B) (k : ℕ) (x : A) → AllZip R xs ys
    → slice_get xs k ≡ Some x → HasRight R ys k x
right_of R [] [] k x all at = absurd (cc at)
right_of R [] (w ∷ ys) k x all at = absurd all
right_of R (v ∷ xs) [] k x all at = absurd all
right_of {A} R (v ∷ xs) (w ∷ ys) zero x all at =
    record { y = w; there = refl; holds = subst (λ (u : A). R u w) (same_Some v x at) all.0 }
right_of R (v ∷ xs) (w ∷ ys) (suc k) x all at = let h = right_of R xs ys k x all.1 at in
    record { y = h.y; there = h.there; holds = h.holds }

pub zip_length : {A B : Type 0} (R : A → B → Type 0) (xs : List A) (ys : List B) → AllZip R xs ys
    → length xs ≡ length ys
zip_length R [] [] all = refl
zip_length R [] (w ∷ ys) all = absurd all
zip_length R (v ∷ xs) [] all = absurd all
zip_length R (v ∷ xs) (w ∷ ys) all = let e = zip_length R xs ys all.1 in omega (arith, e)

-- lists whose elements are one where their partners are
pub zip_one : {A B : Type 0} (R : A → B → Type 0) (xs : List A) (ys zs : List B) → AllZip R xs ys → AllZip R xs zs
    → ((x : A) (y z : B) → Contains ys y → Contains zs z → R x y → R x z → y ≡ z) → ys ≡ zs
zip_one R [] [] [] all other one = refl
zip_one R [] [] (u ∷ zs) all other one = absurd other
zip_one R [] (w ∷ ys) zs all other one = absurd all
zip_one R (v ∷ xs) [] zs all other one = absurd all
zip_one R (v ∷ xs) (w ∷ ys) [] all other one = absurd other
zip_one {B = B} R (v ∷ xs) (w ∷ ys) (u ∷ zs) all other one =
    ap (λ (e : B). e ∷ ys) (one v w u (in_here w ys) (in_here u zs) all.0 other.0)
    ∙ ap (λ (es : List B). u ∷ es)
    (zip_one R xs ys zs all.1 other.1 (λ x y z h k. one x y z (in_later w y ys h) (in_later u z zs k)))
