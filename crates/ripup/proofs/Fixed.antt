-- The fixed items of copper that serves a sound design have the lowest ids.
use Rattle.std.proofs.Common.{◌≡◌, ◌<◌, ◌≤◌, Bool, true, false, true≢false, cond, List, [], ◌∷◌, length, get_or, inl}
use Rattle.std.proofs.Common.{inr, ◌⊎◌, arith, sym, ◌∙◌, subst, refl, ap}
use Rattle.std.specs.Prelude.{Contains, filter, Some}
use Prim.Native.Nat.{zero, suc}
use Rattle.std.proofs.lemmas.Option.{slice_get-get_or}
use Rattle.std.proofs.lemmas.List.Elements.{All-contains, All-filter, All-contains_itself, Contains-get_or}
use Rattle.pcb_model.specs.declared.item.Item.{Item}
use Rattle.pcb_model.specs.declared.design.Design.{Design}
use Rattle.pcb_model.specs.Board.{is_fixed, IsRouted}
use Rattle.pcb_model.specs.Sound.{IsSound, Serves}
use Rattle.pcb_model.specs.Copper.{Ascends}
use Rattle.ripup.proofs.Passing.{same_key, low_or_high}

-- ---- what a filter keeps
pub filter_had : {X : Type 0} (p : X → Bool) (xs : List X) (x : X) → Contains (filter p xs) x → Contains xs x
filter_had p xs x h = All-contains (Contains xs) (filter p xs) x
    (All-filter p (Contains xs) xs (All-contains_itself xs)) h

later : {X : Type 0} (x y : X) (xs : List X) → Contains xs y → Contains (x ∷ xs) y
later x y xs h = (suc h.0, omega (arith, h.1), h.2)

pub filter_has : {X : Type 0} (p : X → Bool) (xs : List X) (x : X) → Contains xs x → p x ≡ true
    → Contains (filter p xs) x
filter_has p [] x (k, within, e) t = absurd (omega arith)
filter_has {X} p (y ∷ xs) x (zero, within, e) t =
    subst (λ (b : Bool). Contains (cond b (y ∷ filter p xs) (filter p xs)) x) (sym (ap p e ∙ t)) (0, omega arith, e)
filter_has {X} p (y ∷ xs) x (suc k, within, e) t =
    let rest = filter_has p xs x (k, omega arith, e) t in
    either (p y) rest
  where
    either : (b : Bool) → Contains (filter p xs) x → Contains (cond b (y ∷ filter p xs) (filter p xs)) x
    either true h = later y x (filter p xs) h
    either false h = h

true_or_false : (b : Bool) → (b ≡ true) ⊎ (b ≡ false)
true_or_false true = inl refl
true_or_false false = inr refl

-- ---- ids
module _ (d : Design) (items : List Item) (sound : IsSound d) (serves : Serves items d) where
  pub fixed_held : (b : Item) → Contains d.fixed b → Contains items b
  fixed_held b h = filter_had is_fixed items b (subst (λ (xs : List Item). Contains xs b) (sym serves.fixed_there) h)

  pub fixed_known : (b : Item) → Contains items b → b.fixed ≡ true → Contains d.fixed b
  fixed_known b h e = subst (λ (xs : List Item). Contains xs b) serves.fixed_there (filter_has is_fixed items b h e)

  pub fixed_is : (b : Item) → Contains d.fixed b → b.fixed ≡ true
  fixed_is b h = (sound.fixed h.0 b (slice_get-get_or d.fixed h.0 b h.1 ∙ ap (λ (x : Item). Some x) h.2)).fixed

  pub fixed_low : (b : Item) → Contains d.fixed b → b.id < length d.fixed
  fixed_low b h =
      let e : b.id ≡ h.0 = (sound.fixed h.0 b (slice_get-get_or d.fixed h.0 b h.1
      ∙ ap (λ (x : Item). Some x) h.2)).numbered in
      omega (arith, h.1)

  pub high_routed : (b : Item) → Contains items b → length d.fixed ≤ b.id → IsRouted b
  high_routed b h high = elim (true_or_false b.fixed) [
    | inl e ↦ let low = fixed_low b (fixed_known b h e) in absurd (omega arith)
    | inr e ↦ e
  ]

  pub low_fixed : (b : Item) → Ascends items → Contains items b → b.id < length d.fixed → Contains d.fixed b
  low_fixed b up h low =
      let f = get_or d.fixed b.id b in
      let there : Contains d.fixed f = Contains-get_or d.fixed b.id b low in
      let e : f.id ≡ b.id = (sound.fixed b.id f (slice_get-get_or d.fixed b.id b low)).numbered in
      subst (Contains d.fixed) (same_key (λ (x : Item). x.id) items f b up (fixed_held f there) h e) there

  pub routed_high : (b : Item) → Ascends items → Contains items b → IsRouted b → length d.fixed ≤ b.id
  routed_high b up h routed = elim (low_or_high (λ (x : Item). x.id) b.id (length d.fixed)) [
    | inl low ↦ absurd (true≢false (sym (fixed_is b (low_fixed b up h low)) ∙ routed))
    | inr high ↦ high
  ]
