-- Copper without an item, and with another in its place, beside the board that an offer makes.
use Rattle.std.proofs.Common.{◌≡◌, ℕ, zero, suc, List, [], ◌∷◌, ◌++◌, Option, Some, None, refl, sym, ◌∙◌}
use Rattle.std.proofs.Common.{subst, inl, inr, ◌⊎◌, arith}
use Rattle.std.specs.Prelude.{Contains, slice_get, remove}
use Rattle.std.proofs.lemmas.Option.{same_Some, slice_get_within}
use Rattle.std.proofs.lemmas.List.Elements.{Contains-append_left, Contains-push, Contains-push_cases}
use Rattle.pcb_model.specs.declared.item.Item.{Item}
use Rattle.pcb_model.specs.declared.item.Probe.{Probe}
use Rattle.pcb_model.specs.declared.design.Design.{Design}
use Rattle.pcb_model.specs.Copper.{Removes}
use Rattle.pcb_islands.proofs.Elements.{in_here, in_later, in_cons, in_none}
use Rattle.route_lattice.specs.Mesh.{Mesh}
use Rattle.route_lattice.specs.Legal.{IsLegalProbe, IsOpen, probe_at, legal_graph}
use Rattle.cut_certificate.specs.Same.{SameMoves}

-- ---- members
-- an element, or one of the list without it
pub removed_cases : {X : Type 0} (xs : List X) (k : ℕ) (x y : X) → slice_get xs k ≡ Some x → Contains xs y
    → (x ≡ y) ⊎ Contains (remove xs k) y
removed_cases [] k x y at h = absurd (in_none y h)
removed_cases (z ∷ xs) zero x y at h = elim (in_cons z y xs h) [
  | inl same ↦ inl (sym (same_Some z x at) ∙ same)
  | inr more ↦ inr more
]
removed_cases (z ∷ xs) (suc k) x y at h = elim (in_cons z y xs h) [
  | inl same ↦ inr (subst (Contains (z ∷ remove xs k)) same (in_here z (remove xs k)))
  | inr more ↦ elim (removed_cases xs k x y at more) [
    | inl here ↦ inl here
    | inr left ↦ inr (in_later z y (remove xs k) left)
  ]
]

pub removed_in : {X : Type 0} (xs : List X) (k : ℕ) (y : X) → Contains (remove xs k) y → Contains xs y
removed_in [] zero y h = absurd (in_none y h)
removed_in [] (suc k) y h = absurd (in_none y h)
removed_in (z ∷ xs) zero y h = in_later z y xs h
removed_in (z ∷ xs) (suc k) y h = elim (in_cons z y (remove xs k) h) [
  | inl same ↦ subst (Contains (z ∷ xs)) same (in_here z xs)
  | inr more ↦ in_later z y xs (removed_in xs k y more)
]

pub removed_at : {X : Type 0} (xs : List X) (k : ℕ) (x : X) → slice_get xs k ≡ Some x → Contains xs x
removed_at {X} [] k x at = absurd (let w = slice_get_within {A = X} [] k x at in omega (arith, w))
removed_at (z ∷ xs) zero x at = subst (Contains (z ∷ xs)) (same_Some z x at) (in_here z xs)
removed_at (z ∷ xs) (suc k) x at = in_later z x xs (removed_at xs k x at)

-- the same for copper
module _ (items rest : List Item) (x : Item) (r : Removes items x rest) where
  pub out_cases : (a : Item) → Contains items a → (x ≡ a) ⊎ Contains rest a
  out_cases a h = elim (removed_cases items r.place x a r.there h) [
    | inl same ↦ inl same
    | inr left ↦ inr (subst (λ (ys : List Item). Contains ys a) (sym r.rest_is) left)
  ]

  pub out_in : (a : Item) → Contains rest a → Contains items a
  out_in a h = removed_in items r.place a (subst (λ (ys : List Item). Contains ys a) r.rest_is h)

  pub out_there : Contains items x
  out_there = removed_at items r.place x r.there

-- ---- moves among the same items
-- each item of the one list is in the other
abbrev pub Holds : List Item → List Item → Type 0
Holds xs ys = (a : Item) → Contains ys a → Contains xs a

module _ (d : Design) (m : Mesh) (net : ℕ) (xs ys : List Item) (over : Holds xs ys) where
  pub probe_among : (p : Probe) → IsLegalProbe d xs net p → IsLegalProbe d ys net p
  probe_among p l = record { agrees = λ b h. l.agrees b (over b h); inside = l.inside }

  pub open_among : (o : Option Probe) → IsOpen d xs net o → IsOpen d ys net o
  open_among None h = h
  open_among (Some p) h = probe_among p h

pub moves_among : (d : Design) (m : Mesh) (net via_cost : ℕ) (xs ys : List Item) → Holds xs ys → Holds ys xs
    → SameMoves (legal_graph d m xs net via_cost) (legal_graph d m ys net via_cost)
moves_among d m net via_cost xs ys over back = record {
  count = refl;
  arity = refl;
  leads = λ node i. refl;
  opens = λ node i. (
    open_among d m net xs ys over (probe_at d m net node i),
    open_among d m net ys xs back (probe_at d m net node i),
  );
  costs = λ node i price. (λ h. h, λ h. h);
}

-- a list with an element put in, and with it behind the others
pub put_over : (rest past : List Item) (a : Item) → Removes past a rest → Holds past (rest ++ a ∷ [])
put_over rest past a r b h = elim (Contains-push_cases rest a b h) [
  | inl old ↦ out_in past rest a r b old
  | inr same ↦ subst (Contains past) same (out_there past rest a r)
]

pub put_back : (rest past : List Item) (a : Item) → Removes past a rest → Holds (rest ++ a ∷ []) past
put_back rest past a r b h = elim (out_cases past rest a r b h) [
  | inl same ↦ subst (Contains (rest ++ a ∷ [])) same (Contains-push rest a)
  | inr old ↦ Contains-append_left rest (a ∷ []) b old
]
