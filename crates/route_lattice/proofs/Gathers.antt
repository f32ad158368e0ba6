-- What a loop keeps of one element more, and which layers are signal layers.
use Rattle.std.proofs.Common.{◌≡◌, ℕ, ℤ, ◌<◌, ◌≤◌, ◌+◌, arith, zero-add, sym, ap, ap₂, ◌∙◌, List, [], ◌∷◌, ◌++◌, length}
use Rattle.std.proofs.Common.{take, get_or, Bool, true, false, cond}
use Rattle.std.proofs.Common.{to_z, of_z, w64, ◌^◌, unsigned_abs}
use Rattle.std.proofs.lemmas.Int.{to_z-of_z, fits_signed_from_abs}
use Rattle.geo_kernel.specs.declared.point.Point.{Point}
use Rattle.geo_kernel.specs.Plane.{IsWithin}
use Rattle.std.specs.Prelude.{map, filter, not, is_some}
use Rattle.std.specs.List.{enumerate_from}
use Rattle.std.proofs.lemmas.List.{map-append, append-nil, take_all}
use Rattle.std.proofs.lemmas.List.Elements.{filter_more}
use Rattle.std.proofs.lemmas.List.FromFn.{length-enumerate_from, get_or-enumerate_from}
use Rattle.pcb_model.specs.declared.design.Pin.{Pin}
use Rattle.pcb_model.specs.declared.design.BoardLayer.{BoardLayer}
use Rattle.route_lattice.specs.Round.{nearest}
use Rattle.route_lattice.specs.Gather.{anchors_of, coordinate, signals_of}

module _ {X Y : Type 0} (p : X → Bool) (f : X → Y) (xs : List X) (i : ℕ) (d : X) (h : i < length xs) where
  at : (b : Bool) → p (get_or xs i d) ≡ b → map f (filter p (take (i + 1) xs)) ≡ map f (filter p (take i xs))
      ++ map f (cond b (get_or xs i d ∷ []) [])
  at b e = ap (map f) (filter_more p xs i d h) ∙ map-append f (filter p (take i xs))
      (cond (p (get_or xs i d)) (get_or xs i d ∷ []) [])
      ∙ ap (λ (c : Bool). map f (filter p (take i xs)) ++ map f (cond c (get_or xs i d ∷ []) [])) e

  pub kept_more : p (get_or xs i d) ≡ true → map f (filter p (take (i + 1) xs)) ≡ map f (filter p (take i xs))
      ++ f (get_or xs i d) ∷ []
  kept_more e = at true e

  pub passed_more : p (get_or xs i d) ≡ false → map f (filter p (take (i + 1) xs)) ≡ map f (filter p (take i xs))
  passed_more e = at false e ∙ append-nil (map f (filter p (take i xs)))

-- ---- pins
-- a number within 2^30 is seen as it is
pub seen : (z : ℤ) → unsigned_abs z ≤ 2 ^ 30 → to_z w64 (of_z w64 z) ≡ z
seen z h = to_z-of_z w64 z (fits_signed_from_abs w64 z (omega (arith, h)))

pub pin_within : (upright : Bool) (p : Point) → IsWithin (2 ^ 29) p → unsigned_abs (coordinate upright p) ≤ 2 ^ 29
pin_within true p h = h.1
pin_within false p h = h.0

pub pin_seen : (upright : Bool) (p : Point) (z : ℤ) → IsWithin (2 ^ 29) p → z ≡ coordinate upright p
    → to_z w64 (of_z w64 z) ≡ coordinate upright p
pin_seen upright p z h e =
    let a = pin_within upright p h in
    ap (λ x. to_z w64 (of_z w64 x)) e ∙ seen (coordinate upright p) (omega (arith, a))

module _ (unit : ℕ) (upright : Bool) (pins : List Pin) (i : ℕ) (d : Pin) (h : i < length pins) where
  pub pin_kept : (xs ys : List ℤ) (z : ℤ) → is_some (get_or pins i d).net ≡ true
      → xs ≡ anchors_of unit upright (take i pins) → z ≡ nearest unit (coordinate upright (get_or pins i d).centre)
      → ys ≡ xs ++ z ∷ []
      → ys ≡ anchors_of unit upright (take (i + 1) pins)
  pin_kept xs ys z t e f g =
      g ∙ ap₂ (λ (zs : List ℤ) (a : ℤ). zs ++ a ∷ []) e f
      ∙ sym (kept_more (λ (p : Pin). is_some p.net) (λ (p : Pin). nearest unit (coordinate upright p.centre)) pins i d h
      t)

  pub pin_passed : (xs : List ℤ) → is_some (get_or pins i d).net ≡ false → xs ≡ anchors_of unit upright (take i pins)
      → xs ≡ anchors_of unit upright (take (i + 1) pins)
  pin_passed xs t e =
      e ∙ sym (passed_more (λ (p : Pin). is_some p.net) (λ (p : Pin). nearest unit (coordinate upright p.centre)) pins i
      d h t)

-- ---- layers
-- the signal layers among the first i
abbrev pub signals_to : ℕ → List BoardLayer → List ℕ
signals_to i layers =
    map (λ (q : ℕ × BoardLayer). q.0)
    (filter (λ (q : ℕ × BoardLayer). not q.1.power) (take i (enumerate_from 0 layers)))

pub all_signals : (layers : List BoardLayer) (i : ℕ) → length layers ≤ i → signals_to i layers ≡ signals_of layers
all_signals layers i h =
    ap (λ (qs : List (ℕ × BoardLayer)).
    map (λ (q : ℕ × BoardLayer). q.0) (filter (λ (q : ℕ × BoardLayer). not q.1.power) qs))
    (take_all i (enumerate_from 0 layers) (omega (arith, length-enumerate_from 0 layers)))

module _ (layers : List BoardLayer) (i : ℕ) (d : BoardLayer) (h : i < length layers) where
  among : i < length (enumerate_from 0 layers)
  among = omega (arith, length-enumerate_from 0 layers)

  there : get_or (enumerate_from 0 layers) i (0, d) ≡ (i, get_or layers i d)
  there = get_or-enumerate_from 0 layers i (0, d) h ∙ ap (λ (n : ℕ). (n, get_or layers i d)) (zero-add i)

  pub layer_kept : (xs ys : List ℕ) → not (get_or layers i d).power ≡ true → xs ≡ signals_to i layers
      → ys ≡ xs ++ i ∷ [] → ys ≡ signals_to (i + 1) layers
  layer_kept xs ys t e g =
      g ∙ ap₂ (λ (zs : List ℕ) (a : ℕ). zs ++ a ∷ []) e (sym (ap (λ (q : ℕ × BoardLayer). q.0) there))
      ∙ sym (kept_more (λ (q : ℕ × BoardLayer). not q.1.power) (λ (q : ℕ × BoardLayer). q.0) (enumerate_from 0 layers) i
      (0, d) among (ap (λ (q : ℕ × BoardLayer). not q.1.power) there ∙ t))

  pub layer_passed : (xs : List ℕ) → not (get_or layers i d).power ≡ false → xs ≡ signals_to i layers
      → xs ≡ signals_to (i + 1) layers
  layer_passed xs t e =
      e ∙ sym (passed_more (λ (q : ℕ × BoardLayer). not q.1.power) (λ (q : ℕ × BoardLayer). q.0)
      (enumerate_from 0 layers) i (0, d) among (ap (λ (q : ℕ × BoardLayer). not q.1.power) there ∙ t))
