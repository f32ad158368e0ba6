-- Which pins of a plane's net have copper on its layer.
use Rattle.std.proofs.Common.{◌≡◌, ℕ, ℤ, ◌<◌, ◌≤◌, ◌+◌, arith, zero-add, refl, sym, ap, ap₂, ◌∙◌, List, []}
use Rattle.std.proofs.Common.{◌∷◌, ◌++◌}
use Rattle.std.proofs.Common.{length, take, get_or, Bool, true, false, Some, Contains, ◌==◌}
use Rattle.std.specs.Prelude.{map, filter, ◌&&◌, slice_get}
use Rattle.std.specs.List.{enumerate_from, list_any}
use Rattle.std.proofs.lemmas.Bool.{false≢true}
use Rattle.std.proofs.lemmas.Bool.{eqb-true, eq-eqb}
use Rattle.std.proofs.lemmas.List.{take_all}
use Rattle.std.proofs.lemmas.List.Folds.{list_any-from_Any, list_any_none}
use Rattle.std.proofs.lemmas.List.FromFn.{length-enumerate_from, get_or-enumerate_from}
use Rattle.std.proofs.lemmas.Option.{slice_get_read, same_Some}
use Rattle.pcb_model.specs.declared.item.Item.{Item}
use Rattle.pcb_model.specs.declared.item.Metal.{Metal}
use Rattle.pcb_model.specs.declared.item.Metal.TheVariants.{Wire, Via, Pad, Ban}
use Rattle.pcb_model.specs.declared.design.Pin.{Pin}
use Rattle.pcb_model.specs.declared.design.Design.{Design}
use Rattle.pcb_model.specs.Sound.{IsSound}
use Rattle.pcb_islands.specs.Islands.{IsPadOf}
use Rattle.route_lattice.specs.Gather.{coordinate, unit_of}
use Rattle.route_lattice.specs.Round.{nearest}
use Rattle.route_lattice.specs.Ways.{has_copper}
use Rattle.route_lattice.proofs.Gathers.{kept_more, passed_more}
use Rattle.plane_joins.specs.declared.area.PlaneArea.{PlaneArea}
use Rattle.plane_joins.specs.Planes.{is_pad_of, has_pad_on, is_own, own_anchors}
use Rattle.plane_joins.proofs.Places.{at_place, copied}

-- ---- the pad of a pin
pad_told : (pin : ℕ) (m : Metal) → is_pad_of pin m ≡ true → m ≡ Pad pin
pad_told pin (Wire layer width chain) e = absurd (false≢true e)
pad_told pin (Via padstack at) e = absurd (false≢true e)
pad_told pin (Pad i) e = ap Pad (eqb-true i pin e)
pad_told pin (Ban wires vias) e = absurd (false≢true e)

pad_is : (pin : ℕ) (m : Metal) → m ≡ Pad pin → is_pad_of pin m ≡ true
pad_is pin m e = ap (is_pad_of pin) e ∙ same pin
  where
    same : (n : ℕ) → (n == n) ≡ true
    same n = eq-eqb n n refl

and_both : (a b : Bool) → a ≡ true → (a && b) ≡ b
and_both a b e = ap (λ c. c && b) e

and_not : (a b : Bool) → (a ≡ true → b ≡ false) → (a && b) ≡ false
and_not true b h = h refl
and_not false b h = refl

module _ (d : Design) (s : IsSound d) (pin : ℕ) (q : Pin) (q_at : slice_get d.pins pin ≡ Some q) where
  -- two pads of one pin are one item
  one_pad : (a b : Item) → Contains d.fixed a → Contains d.fixed b → a.metal ≡ Pad pin → b.metal ≡ Pad pin → a ≡ b
  one_pad a b (i, wi, ai) (j, wj, bj) ea eb =
      let only = (s.pads pin q q_at).only in
      let same_id : a.id ≡ b.id = only a (i, wi, ai) ea ∙ sym (only b (j, wj, bj) eb) in
      let at_i = slice_get_read d.fixed (length d.fixed) i a refl wi (sym ai) in
      let at_j = slice_get_read d.fixed (length d.fixed) j b refl wj (sym bj) in
      let same : i ≡ j = sym (s.fixed i a at_i).numbered ∙ same_id ∙ (s.fixed j b at_j).numbered in
      same_Some a b (sym at_i ∙ ap (slice_get d.fixed) same ∙ at_j)

  pub pad_tells : (layer : ℕ) (pad : Item) → IsPadOf d pin pad → has_copper pad.pieces layer ≡ has_pad_on d layer pin
  unfolding has_pad_on
  pad_tells layer pad is = by (has_copper pad.pieces layer) refl
    where
      by : (b : Bool) → has_copper pad.pieces layer ≡ b
          → b ≡ list_any (λ (a : Item). is_pad_of pin a.metal && has_copper a.pieces layer) d.fixed
      by true e = sym (list_any-from_Any (λ (a : Item). is_pad_of pin a.metal && has_copper a.pieces layer) d.fixed (
        is.there.0,
        pad,
        is.there.1,
        is.there.2,
        and_both (is_pad_of pin pad.metal) (has_copper pad.pieces layer) (pad_is pin pad.metal is.is_pad) ∙ e,
      ))
      by false e = sym (list_any_none (λ (a : Item). is_pad_of pin a.metal && has_copper a.pieces layer) d.fixed
          (λ k a within.
          let x = get_or d.fixed k a in
          and_not (is_pad_of pin x.metal) (has_copper x.pieces layer)
          (λ t. ap (λ (y : Item). has_copper y.pieces layer)
          (one_pad x pad (k, within, sym (copied d.fixed k a within)) is.there (pad_told pin x.metal t) is.is_pad)
          ∙ e)))

pub own_pad_tells : (d : Design) → IsSound d → (pin : ℕ) → pin < length d.pins → (layer : ℕ) (pad : Item)
    → IsPadOf d pin pad → has_copper pad.pieces layer ≡ has_pad_on d layer pin
own_pad_tells d s pin within layer pad is =
    let q = at_place d.pins pin within in pad_tells d s pin q.0 q.1 layer pad is

-- ---- the anchors among the first i pins
abbrev pub anchors_to : Design → PlaneArea → Bool → ℕ → List ℤ
anchors_to d p upright i =
    map (λ (q : ℕ × Pin). nearest (unit_of d) (coordinate upright q.1.centre))
    (filter (is_own d p) (take i (enumerate_from 0 d.pins)))

pub all_anchors : (d : Design) (p : PlaneArea) (upright : Bool) (i : ℕ) → length d.pins ≤ i
    → anchors_to d p upright i ≡ own_anchors d p upright
all_anchors d p upright i h =
    ap (λ (qs : List (ℕ × Pin)).
    map (λ (q : ℕ × Pin). nearest (unit_of d) (coordinate upright q.1.centre)) (filter (is_own d p) qs))
    (take_all i (enumerate_from 0 d.pins) (omega (arith, h, length-enumerate_from 0 d.pins)))

module _ (d : Design) (p : PlaneArea) (upright : Bool) (i : ℕ) (e : Pin) (h : i < length d.pins) where
  among : i < length (enumerate_from 0 d.pins)
  among = omega (arith, h, length-enumerate_from 0 d.pins)

  there : get_or (enumerate_from 0 d.pins) i (0, e) ≡ (i, get_or d.pins i e)
  there = get_or-enumerate_from 0 d.pins i (0, e) h ∙ ap (λ (n : ℕ). (n, get_or d.pins i e)) (zero-add i)

  abbrev anchor : ℕ × Pin → ℤ
  anchor q = nearest (unit_of d) (coordinate upright q.1.centre)

  pub own_kept : (xs ys : List ℤ) (z : ℤ) → is_own d p (i, get_or d.pins i e) ≡ true → xs ≡ anchors_to d p upright i
      → z ≡ nearest (unit_of d) (coordinate upright (get_or d.pins i e).centre) → ys ≡ xs ++ z ∷ []
      → ys ≡ anchors_to d p upright (i + 1)
  own_kept xs ys z t f g more =
      more ∙ ap₂ (λ (zs : List ℤ) (a : ℤ). zs ++ a ∷ []) f (g ∙ sym (ap anchor there))
      ∙ sym (kept_more (is_own d p) anchor (enumerate_from 0 d.pins) i (0, e) among (ap (is_own d p) there ∙ t))

  pub own_passed : (xs : List ℤ) → is_own d p (i, get_or d.pins i e) ≡ false → xs ≡ anchors_to d p upright i
      → xs ≡ anchors_to d p upright (i + 1)
  own_passed xs t f =
      f ∙ sym (passed_more (is_own d p) anchor (enumerate_from 0 d.pins) i (0, e) among (ap (is_own d p) there ∙ t))
