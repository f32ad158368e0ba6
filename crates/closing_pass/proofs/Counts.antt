-- Open connections: fewer where a net has fewer islands and no net has more.
use Rattle.std.proofs.Common.{◌≡◌, ◌∙◌, ℕ, zero, suc, ◌+◌, ◌-◌, ◌<◌, ◌≤◌, ◌^◌, List, [], ◌∷◌, ◌++◌, length, Some}
use Rattle.std.proofs.Common.{refl, sym, ap, subst, arith, inl, inr, length-append, All}
use Rattle.std.specs.Prelude.{sum_by, slice_get}
use Rattle.std.specs.List.{AllZip}
use Rattle.std.proofs.lemmas.Bool.{eqb-true}
use Rattle.std.proofs.lemmas.Bool.Decides.{Decides-eqb}
use Rattle.std.proofs.lemmas.List.Elements.{All-nil, All-cons}
use Rattle.std.proofs.lemmas.List.Sums.{sum_by-cons, sum_by_push}
use Rattle.std.proofs.lemmas.Map.Keys.{sorted_from_strictly_increasing}
use Rattle.std.proofs.lemmas.Map.Made.{IsDistinct-from_AllPairs}
use Rattle.std.proofs.lemmas.Map.Steps.{length-le_from_distinct_below}
use Rattle.std.proofs.lemmas.Map.Views.{length-le_from_below, Contains-from_any}
use Rattle.std.proofs.lemmas.Option.{slice_get_within, slice_get-get_or}
use Rattle.std.proofs.lemmas.Slice.Zip.{AllZip-long}
use Rattle.pcb_model.specs.declared.item.Item.{Item}
use Rattle.pcb_model.specs.declared.design.Pin.{Pin}
use Rattle.pcb_model.specs.declared.design.Design.{Design}
use Rattle.pcb_model.specs.Sound.{IsSound}
use Rattle.pcb_islands.specs.declared.net.Island.{Island}
use Rattle.pcb_islands.specs.Islands.{BeginsAt, AreIslands, pins_of}
use Rattle.pcb_islands.proofs.Pads.{net_pins}
use Rattle.pcb_islands.proofs.Elements.{look_cases}
use Rattle.board_offers.proofs.Lists.{that}
use Rattle.closing_pass.specs.OpenCount.{IsOpenCount}
use Rattle.closing_pass.specs.inner.Counting.{CountsFirst, CountsNet}

abbrev less_one : List Island → ℕ
less_one own = length own - 1

abbrev sum : List (List Island) → ℕ
sum found = sum_by less_one found

-- each element of the second list lacks at most what that of the first does
abbrev NoneMore : List (List Island) → List (List Island) → Type 0
NoneMore fs gs = (i : ℕ) (f g : List Island) → slice_get fs i ≡ Some f → slice_get gs i ≡ Some g → length g ≤ length f

rest_more : (f g : List Island) (fs gs : List (List Island)) → NoneMore (f ∷ fs) (g ∷ gs) → NoneMore fs gs
rest_more f g fs gs h i x y a b = h (suc i) x y a b

pub sums_stay : (fs gs : List (List Island)) → length gs ≡ length fs → NoneMore fs gs → sum gs ≤ sum fs
sums_stay [] [] e h = omega arith
sums_stay [] (g ∷ gs) e h = absurd (omega (arith, e))
sums_stay (f ∷ fs) [] e h = absurd (omega (arith, e))
sums_stay (f ∷ fs) (g ∷ gs) e h =
    let here = h 0 f g refl refl in
    let later = sums_stay fs gs (omega (arith, e)) (rest_more f g fs gs h) in
    let one = sum_by-cons less_one f fs in
    let two = sum_by-cons less_one g gs in
    omega (arith, here, later, one, two)

pub sums_fall : (fs gs : List (List Island)) → length gs ≡ length fs → NoneMore fs gs → (i : ℕ) (f g : List Island)
    → slice_get fs i ≡ Some f → slice_get gs i ≡ Some g → length g < length f → 1 ≤ length g → sum gs < sum fs
sums_fall [] gs e h i f g a b less some =
    absurd (let w = slice_get_within {A = List Island} [] i f a in omega (arith, w))
sums_fall (x ∷ fs) [] e h i f g a b less some =
    absurd (let w = slice_get_within {A = List Island} [] i g b in omega (arith, w))
sums_fall (x ∷ fs) (y ∷ gs) e h zero f g a b less some =
    let later = sums_stay fs gs (omega (arith, e)) (rest_more x y fs gs h) in
    let one = sum_by-cons less_one x fs in
    let two = sum_by-cons less_one y gs in
    let f_is : x ≡ f = cc in
    let g_is : y ≡ g = cc in
    let f_long = ap (λ (xs : List Island). length xs) f_is in
    let g_long = ap (λ (xs : List Island). length xs) g_is in
    omega (arith, later, one, two, f_long, g_long, less, some)
sums_fall (x ∷ fs) (y ∷ gs) e h (suc i) f g a b less some =
    let here = h 0 x y refl refl in
    let later = sums_fall fs gs (omega (arith, e)) (rest_more x y fs gs h) i f g a b less some in
    let one = sum_by-cons less_one x fs in
    let two = sum_by-cons less_one y gs in
    omega (arith, here, later, one, two)

-- ---- on boards
-- no net has more islands on the later copper
abbrev pub NoNetMore : Design → List Item → List Item → Type 0
NoNetMore d items later = (net : ℕ) (old new : List Island) → AreIslands d items net old → AreIslands d later net new
    → length new ≤ length old

-- an open net of the first, which has fewer islands on the second, but some
pub record HasFallen (d : Design) (items later : List Item) (net : ℕ) : Type 0 where
  pub there : net < length d.nets
  pub fewer : (old new : List Island) → AreIslands d items net old → AreIslands d later net new
      → (length new < length old) × (1 ≤ length new)

module _ (d : Design) (items later : List Item) (n k : ℕ) (old : IsOpenCount d items n) (new : IsOpenCount d later k)
    (none : NoNetMore d items later) where
  long : length new.found ≡ length old.found
  long = new.all ∙ sym old.all

  each : NoneMore old.found new.found
  each i f g a b = none i f g (old.islands i f a) (new.islands i g b)

  pub counts_stay : k ≤ n
  counts_stay =
      let less = sums_stay old.found new.found long each in
      omega (arith, less, old.sum_is, new.sum_is)

  pub counts_fall : (net : ℕ) → HasFallen d items later net → k < n
  counts_fall net fallen =
      let f = slice_get-get_or old.found net [] (omega (arith, fallen.there, old.all)) in
      let g = slice_get-get_or new.found net [] (omega (arith, fallen.there, new.all)) in
      let less = fallen.fewer _ _ (old.islands net _ f) (new.islands net _ g) in
      let sums = sums_fall old.found new.found long each net _ _ f g less.0 less.1 in
      omega (arith, sums, old.sum_is, new.sum_is)

-- ---- few islands
-- a net has no more pins than the design
pins_within : (d : Design) (net : ℕ) → IsSound d → length (pins_of d net) ≤ length d.pins
pins_within d net sound =
    let pins = pins_of d net in
    let are = net_pins d net sound in
    length-le_from_distinct_below pins (length d.pins) (IsDistinct-from_AllPairs Decides-eqb pins are.0)
    (λ q there.
    let pin = that (slice_get d.pins q) (λ (p : Pin). p.net ≡ Some net)
    (are.1 q (Contains-from_any eqb-true q pins there)) in
    slice_get_within d.pins q pin.value pin.is)

places_within : (pins places : List ℕ) (found : List Island) → AllZip (BeginsAt pins) places found
    → All (λ i. i < length pins) places
places_within pins [] [] begin = All-nil (λ i. i < length pins)
places_within pins [] (s ∷ found) begin = absurd begin
places_within pins (i ∷ places) [] begin = absurd begin
places_within pins (i ∷ places) (s ∷ found) begin =
    All-cons (λ i. i < length pins) i places begin.0.within (places_within pins places found begin.1)

-- so a net of a sound design has few islands
pub few_islands : (d : Design) (items : List Item) (net : ℕ) (found : List Island) → IsSound d
    → AreIslands d items net found → length found ≤ 2 ^ 26
few_islands d items net found sound are =
    let pins = pins_of d net in
    let each : length are.places ≤ length pins =
    length-le_from_below (length pins) are.places (sorted_from_strictly_increasing are.places are.ascend)
    (places_within pins are.places found are.begin) in
    let same : length found ≡ length are.places = AllZip-long (BeginsAt pins) are.places found are.begin in
    let own : length pins ≤ length d.pins = pins_within d net sound in
    let few : length d.pins ≤ 2 ^ 26 = sound.parts.few_pins in
    omega (arith, each, same, own, few)

-- ---- one net after another
pub counts_none : (d : Design) (items : List Item) → CountsFirst d items 0 0
counts_none d items = record {
  found = [];
  all = refl;
  islands = λ net own at. absurd
      (let w = slice_get_within {A = List Island} [] net own at in omega (arith, w));
  sum_is = refl;
}

pub counts_more : (d : Design) (items : List Item) (n count more : ℕ) → CountsFirst d items n count
    → CountsNet d items n more → CountsFirst d items (n + 1) (count + more)
counts_more d items n count more are is = record {
  found = are.found ++ is.found ∷ [];
  all = length-append are.found (is.found ∷ []) ∙ ap (λ (k : ℕ). k + 1) are.all;
  islands = λ net own at. elim (look_cases are.found is.found net own at) [
    | inl there ↦ are.islands net own there
    | inr last ↦
        let place : net ≡ n = last.0 ∙ are.all in
        subst (λ (k : ℕ). AreIslands d items k own) (sym place)
        (subst (AreIslands d items n) last.1 is.islands)
  ];
  sum_is =
      let sum = sum_by_push less_one are.found is.found in
      let before : count ≡ sum_by less_one are.found = are.sum_is in
      let here : more ≡ length is.found - 1 = is.count_is in
      omega (arith, sum, before, here);
}

pub counts_all : (d : Design) (items : List Item) (n count : ℕ) → n ≡ length d.nets → CountsFirst d items n count
    → IsOpenCount d items count
counts_all d items n count all are =
    record { found = are.found; all = are.all ∙ all; islands = are.islands; sum_is = are.sum_is }
