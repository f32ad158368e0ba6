-- The elements of a list that have a property, in their order.
use Rattle.std.proofs.Common.{◌≡◌, ◌≢◌, ℕ, ◌<◌, List, [], ◌∷◌, ◌++◌, length, get_or, Some, refl, sym, ◌∙◌, ap, subst}
use Rattle.std.proofs.Common.{inl, inr, arith}
use Rattle.std.specs.Prelude.{Contains, AllPairs, slice_get}
use Prim.Native.Nat.{zero, suc}
use Rattle.std.proofs.lemmas.Option.{get_or_from_slice_get}
use Rattle.pcb_islands.specs.Islands.{Selects}
use Rattle.pcb_islands.proofs.Elements.{in_none, in_here, in_later, in_cons}

-- one element more, which has it
pub selects_more : {X : Type 0} (P : X → Type 0) (xs ys : List X) (x : X) → Selects P xs ys → P x
    → Selects P (xs ++ x ∷ []) (ys ++ x ∷ [])
selects_more {X} P [] ys x s p = inl (p, [], ap (λ (zs : List X). zs ++ x ∷ []) s, refl)
selects_more {X} P (z ∷ xs) ys x s p = elim s [
  | inl a ↦ inl (a.0, a.1 ++ x ∷ [], ap (λ (zs : List X). zs ++ x ∷ []) a.2, selects_more P xs a.1 x a.3 p)
  | inr b ↦ inr (b.0, selects_more P xs ys x b.1 p)
]

-- or hasn't
pub selects_same : {X : Type 0} (P : X → Type 0) (xs ys : List X) (x : X) → Selects P xs ys → ¬ (P x)
    → Selects P (xs ++ x ∷ []) ys
selects_same P [] ys x s n = inr (n, s)
selects_same P (z ∷ xs) ys x s n = elim s [
  | inl a ↦ inl (a.0, a.1, a.2, selects_same P xs a.1 x a.3 n)
  | inr b ↦ inr (b.0, selects_same P xs ys x b.1 n)
]

pub selects_none : {X : Type 0} (P : X → Type 0) (xs : List X) → ((x : X) → Contains xs x → ¬ (P x)) → Selects P xs []
selects_none P [] h = refl
selects_none P (x ∷ xs) h = inr (h x (in_here x xs), selects_none P xs (λ y there. h y (in_later x y xs there)))

-- what was selected has it, and is of the list
pub selected : {X : Type 0} (P : X → Type 0) (xs ys : List X) (y : X) → Selects P xs ys → Contains ys y
    → P y × Contains xs y
selected {X} P [] ys y s h = absurd (in_none y (subst (λ (zs : List X). Contains zs y) s h))
selected {X} P (x ∷ xs) ys y s h = elim s [
  | inl a ↦ elim (in_cons x y a.1 (subst (λ (zs : List X). Contains zs y) a.2 h)) [
    | inl same ↦ (subst P same a.0, subst (Contains (x ∷ xs)) same (in_here x xs))
    | inr more ↦ let r = selected P xs a.1 y a.3 more in (r.0, in_later x y xs r.1)
  ]
  | inr b ↦ let r = selected P xs ys y b.1 h in (r.0, in_later x y xs r.1)
]

-- and what has it is selected
pub selects : {X : Type 0} (P : X → Type 0) (xs ys : List X) (x : X) → Selects P xs ys → Contains xs x → P x
    → Contains ys x
selects P [] ys x s h p = absurd (in_none x h)
selects {X} P (z ∷ xs) ys x s h p = elim s [
  | inl a ↦ subst (λ (zs : List X). Contains zs x) (sym a.2) (elim (in_cons z x xs h) [
    | inl same ↦ subst (Contains (z ∷ a.1)) same (in_here z a.1)
    | inr more ↦ in_later z x a.1 (selects P xs a.1 x a.3 more p)
  ])
  | inr b ↦ elim (in_cons z x xs h) [
    | inl same ↦ absurd (b.0 (subst P (sym same) p))
    | inr more ↦ selects P xs ys x b.1 more p
  ]
]

-- ---- the first that is selected
abbrev pub AreApart : List ℕ → Type 0
AreApart xs = AllPairs (λ (i j : ℕ). i ≢ j) xs

apart_tail : (x : ℕ) (xs : List ℕ) → AreApart (x ∷ xs) → AreApart xs
apart_tail x xs apart i j d less within = apart (suc i) (suc j) d (omega arith) (omega (arith, within))

-- where the head is selected, the first isn't later
first_is_head : (x : ℕ) (xs ys rest : List ℕ) (j : ℕ) → AreApart (x ∷ xs) → ys ≡ x ∷ rest
    → slice_get ys 0 ≡ slice_get xs j → j < length xs → ⊥
first_is_head x xs ys rest j apart ys_is e within =
    let at : slice_get xs j ≡ Some x = sym e ∙ ap (λ (zs : List ℕ). slice_get zs 0) ys_is in
    apart 0 (suc j) x (omega arith) (omega arith) (sym (get_or_from_slice_get xs j x x at))

-- no element before the first that is selected has it
pub first_selected : (P : ℕ → Type 0) (xs ys : List ℕ) (i j d : ℕ) → AreApart xs → Selects P xs ys
    → slice_get ys 0 ≡ slice_get xs j → i < j → j < length xs → ¬ (P (get_or xs i d))
first_selected P [] ys i j d apart s e less within p = absurd (omega (arith, within))
first_selected P (x ∷ xs) ys i zero d apart s e less within p = absurd (omega (arith, less))
first_selected P (x ∷ xs) ys zero (suc j) d apart s e less within p = elim s [
  | inl a ↦ first_is_head x xs ys a.1 j apart a.2 e (omega arith)
  | inr b ↦ b.0 p
]
first_selected P (x ∷ xs) ys (suc i) (suc j) d apart s e less within p = elim s [
  | inl a ↦ first_is_head x xs ys a.1 j apart a.2 e (omega arith)
  | inr b ↦ first_selected P xs ys i j d (apart_tail x xs apart) b.1 e (omega arith) (omega arith) p
]

-- ---- one selection, and another property
pub selects_one : {X : Type 0} (P : X → Type 0) (xs ys zs : List X) → Selects P xs ys → Selects P xs zs → ys ≡ zs
selects_one P [] ys zs s t = s ∙ sym t
selects_one {X} P (x ∷ xs) ys zs s t = elim s [
  | inl a ↦ elim t [
    | inl b ↦ a.2 ∙ ap (λ (rest : List X). x ∷ rest) (selects_one P xs a.1 b.1 a.3 b.3) ∙ sym b.2
    | inr b ↦ absurd (b.0 a.0)
  ]
  | inr a ↦ elim t [
    | inl b ↦ absurd (a.0 b.0)
    | inr b ↦ selects_one P xs ys zs a.1 b.1
  ]
]

pub selects_alike : {X : Type 0} (P Q : X → Type 0) → ((x : X) → P x → Q x) → ((x : X) → Q x → P x) → (xs ys : List X)
    → Selects P xs ys → Selects Q xs ys
selects_alike P Q to from [] ys s = s
selects_alike P Q to from (x ∷ xs) ys s = elim s [
  | inl a ↦ inl (to x a.0, a.1, a.2, selects_alike P Q to from xs a.1 a.3)
  | inr b ↦ inr (λ q. b.0 (from x q), selects_alike P Q to from xs ys b.1)
]
