-- The pins of a design are numbered in the order of the placement, and each is found by its number.
use Rattle.std.proofs.Common.{◌≡◌, ◌<◌, ◌≤◌, ◌+◌, ◌-◌, ◌++◌, ◌^◌, ◌∙◌, ap, sym, ⊎_elim, ℕ, zero, suc, cond, Bool, true}
use Rattle.std.proofs.Common.{false, List, [], ◌∷◌, Option, Some, None, length, map, refl, arith}
use Rattle.std.specs.Prelude.{fold, slice_get, sum_by, unwrap_or}
use Rattle.std.specs.Option.{option_map_or}
use Rattle.std.proofs.lemmas.Bool.{cases_lt, cond-true}
use Rattle.std.proofs.lemmas.List.{length-append, map-append}
use Rattle.std.proofs.lemmas.Option.{same_Some, slice_get_within}
use Rattle.pcb_model.specs.declared.design.Padstack.{Padstack}
use Rattle.pcb_model.specs.declared.design.Pin.{Pin}
use Rattle.dsn_shapes.specs.declared.parts.Image.{Image}
use Rattle.dsn_shapes.specs.declared.parts.ImagePin.{ImagePin}
use Rattle.dsn_shapes.specs.declared.parts.Library.{Library}
use Rattle.dsn_shapes.specs.declared.parts.Place.{Place}
use Rattle.dsn_shapes.specs.declared.parts.PinRef.{PinRef}
use Rattle.dsn_placement.specs.Places.{counted_by, pins_of as pins_placed}
use Rattle.dsn_placement.specs.Sound.{placed_pins}
use Rattle.dsn_design.specs.declared.parts.Parts.{Parts}
use Rattle.dsn_design.specs.Counts.{counted_number, counted_pins, first_pins, firsts_from, next_component, pin_count}
use Rattle.dsn_design.specs.Counts.{pins_at, pins_from, place_pins, plus}
use Rattle.dsn_design.specs.Pins.{image_pins, is_placed, net_of_pin, pin_of, pin_ref}

-- ---- lists end to end
pub get_front : {X : Type 0} (xs ys : List X) (i : ℕ) → i < length xs → slice_get (xs ++ ys) i ≡ slice_get xs i
get_front [] ys i h = absurd (omega arith)
get_front (x ∷ xs) ys zero h = refl
get_front (x ∷ xs) ys (suc i) h = get_front xs ys i (omega arith)

pub get_behind : {X : Type 0} (xs ys : List X) (n i : ℕ) → n ≡ length xs + i → slice_get (xs ++ ys) n ≡ slice_get ys i
get_behind [] ys n i e = let f : n ≡ i = omega arith in ap (slice_get ys) f
get_behind (x ∷ xs) ys zero i e = absurd (omega arith)
get_behind (x ∷ xs) ys (suc n) i e = get_behind xs ys n i (omega arith)

-- ---- the pins of all placed components, by component and pin
abbrev pub refs_at : ℕ → ℕ → List ImagePin → List PinRef
refs_at place pin [] = []
refs_at place pin (i ∷ is) = pin_ref place pin ∷ refs_at place (pin + 1) is

abbrev pub place_refs : Library → ℕ → Place → List PinRef
place_refs lib place p = cond (is_placed p) (refs_at place 0 (image_pins lib p)) []

abbrev pub refs_from : Library → ℕ → List Place → List PinRef
refs_from lib place [] = []
refs_from lib place (p ∷ ps) = place_refs lib place p ++ refs_from lib (place + 1) ps

refs_at_count : (place pin : ℕ) (is : List ImagePin) → length (refs_at place pin is) ≡ length is
refs_at_count place pin [] = refl
refs_at_count place pin (i ∷ is) = ap suc (refs_at_count place (pin + 1) is)

count_if : (b : Bool) (refs : List PinRef) (n : ℕ) → length refs ≡ n → length (cond b refs []) ≡ cond b n 0
count_if true refs n e = e
count_if false refs n e = refl

pub refs_count : (lib : Library) (place : ℕ) (p : Place) → length (place_refs lib place p) ≡ pin_count lib p
refs_count lib place p =
    count_if (is_placed p) (refs_at place 0 (image_pins lib p)) (length (image_pins lib p))
    (refs_at_count place 0 (image_pins lib p))

record IsRefAt (place pin count m : ℕ) (r : PinRef) : Type 0 where
  below : m < count
  place_is : r.place ≡ place
  pin_is : r.pin ≡ pin + m

ref_at : (place pin : ℕ) (is : List ImagePin) (m : ℕ) (r : PinRef) → slice_get (refs_at place pin is) m ≡ Some r
    → IsRefAt place pin (length is) m r
ref_at place pin [] m r e = absurd (cc)
ref_at place pin (i ∷ is) zero r e = let f : pin_ref place pin ≡ r = same_Some (pin_ref place pin) r e in
    record {
      below = omega arith;
      place_is = sym (ap (λ (s : PinRef). s.place) f);
      pin_is = omega (arith, ap (λ (s : PinRef). s.pin) f);
    }
ref_at place pin (i ∷ is) (suc m) r e = let h = ref_at place (pin + 1) is m r e in
    record { below = omega (arith, h.below); place_is = h.place_is; pin_is = omega (arith, h.pin_is) }

ref_if : (b : Bool) (place : ℕ) (is : List ImagePin) (m : ℕ) (r : PinRef) → slice_get (cond b (refs_at place 0 is) []) m
    ≡ Some r → IsRefAt place 0 (length is) m r
ref_if true place is m r e = ref_at place 0 is m r e
ref_if false place is m r e = absurd (cc)

ref_there : (place pin : ℕ) (is : List ImagePin) (m n : ℕ) → m < length is → n ≡ pin + m
    → slice_get (refs_at place pin is) m ≡ Some (pin_ref place n)
ref_there place pin [] m n h e = absurd (omega arith)
ref_there place pin (i ∷ is) zero n h e = let f : pin ≡ n = omega arith in ap (λ k. Some (pin_ref place k)) f
ref_there place pin (i ∷ is) (suc m) n h e = ref_there place (pin + 1) is m n (omega arith) (omega arith)

-- ---- numbers of pins
-- pin r is number i behind the n pins before these components
record IsNumber (lib : Library) (place n : ℕ) (ps : List Place) (i : ℕ) (r : PinRef) : Type 0 where
  k : ℕ
  place_is : r.place ≡ place + k
  first : ℕ
  first_is : slice_get (firsts_from lib n ps) k ≡ Some first
  number : first + r.pin ≡ n + i

number_at : (lib : Library) (place n : ℕ) (ps : List Place) (i : ℕ) (r : PinRef) → n + length (refs_from lib place ps)
    ≤ 2 ^ 32 - 1 → slice_get (refs_from lib place ps) i ≡ Some r → IsNumber lib place n ps i r
number_at lib place n [] i r few e = absurd (cc)
number_at lib place n (p ∷ ps) i r few e =
    let here = place_refs lib place p in
    let more = refs_from lib (place + 1) ps in
    let count : length here ≡ pin_count lib p = refs_count lib place p in
    let whole : length (here ++ more) ≡ length here + length more = length-append here more in
    ⊎_elim
    (λ l. let h = ref_if (is_placed p) place (image_pins lib p) i r (sym (get_front here more i l) ∙ e) in record {
      k = 0;
      place_is = omega (arith, h.place_is);
      first = n;
      first_is = refl;
      number = omega (arith, h.pin_is);
    })
    (λ l. let w = number_at lib (place + 1) (plus n (pin_count lib p)) ps (i - length here) r (omega arith)
    (sym (get_behind here more i (i - length here) (omega arith)) ∙ e) in record {
      k = suc w.k;
      place_is = omega (arith, w.place_is);
      first = w.first;
      first_is = w.first_is;
      number = omega (arith, w.number);
    })
    (cases_lt i (length here))

-- the number that a design gives to its i-th pin is i
pub number_is : (lib : Library) (places : List Place) (i : ℕ) (r : PinRef)
    → length (refs_from lib 0 places) ≤ 2 ^ 32 - 1 → slice_get (refs_from lib 0 places) i ≡ Some r
    → counted_number (first_pins lib places) r ≡ i
unfolding first_pins counted_number
number_is lib places i r few e =
    let w = number_at lib 0 0 places i r (omega arith) e in
    let k : r.place ≡ w.k = omega (arith, w.place_is) in
    let f : slice_get (firsts_from lib 0 places) r.place ≡ Some w.first = ap (slice_get (firsts_from lib 0 places)) k
    ∙ w.first_is in
    let below = slice_get_within (refs_from lib 0 places) i r e in
    let n : plus w.first r.pin ≡ i = omega (arith, w.number) in
    ap (λ o. plus (unwrap_or o 0) r.pin) f ∙ n

-- each pin of a placed component is there
pub ref_is_there : (lib : Library) (place : ℕ) (ps : List Place) (k : ℕ) (p : Place) (r : PinRef)
    → slice_get ps k ≡ Some p → is_placed p ≡ true → r.place ≡ place + k → r.pin < length (image_pins lib p)
    → (i : ℕ) × (slice_get (refs_from lib place ps) i ≡ Some r)
ref_is_there lib place [] k p r e b at h = absurd (cc)
ref_is_there lib place (q ∷ ps) zero p r e b at h =
    let same : q ≡ p = same_Some q p e in
    let here : place_refs lib place q ≡ refs_at place 0 (image_pins lib p) =
    ap (place_refs lib place) same ∙ cond-true (is_placed p) (refs_at place 0 (image_pins lib p)) [] b in
    let l : r.pin < length (place_refs lib place q) =
    omega (arith, ap length here, refs_at_count place 0 (image_pins lib p)) in
    let same_place : place ≡ r.place = omega arith in (
      r.pin,
      get_front (place_refs lib place q) (refs_from lib (place + 1) ps) r.pin l
          ∙ ap (λ xs. slice_get xs r.pin) here ∙ ref_there place 0 (image_pins lib p) r.pin r.pin h (omega arith)
          ∙ ap (λ s. Some (pin_ref s r.pin)) same_place,
    )
ref_is_there lib place (q ∷ ps) (suc k) p r e b at h =
    let w = ref_is_there lib (place + 1) ps k p r e b (omega arith) h in (
      length (place_refs lib place q) + w.0,
      get_behind (place_refs lib place q) (refs_from lib (place + 1) ps) (length (place_refs lib place q) + w.0) w.0
          refl ∙ w.1,
    )

-- ---- the nets of pins
abbrev net_at : Pin → Option ℕ
net_at p = p.net

pins_at_nets : (parts : Parts) (stacks : List Padstack) (place component : ℕ) (p : Place) (pin : ℕ) (is : List ImagePin)
    → pin + length is ≤ 2 ^ 32 - 1 → map net_at (pins_at parts stacks place component p pin is)
    ≡ map (net_of_pin parts.network.nets) (refs_at place pin is)
unfolding pin_of
pins_at_nets parts stacks place component p pin [] few = refl
pins_at_nets parts stacks place component p pin (i ∷ is) few =
    let next : plus pin 1 ≡ pin + 1 = omega arith in
    ap (λ ns. net_of_pin parts.network.nets (pin_ref place pin) ∷ ns)
    (ap (λ q. map net_at (pins_at parts stacks place component p q is)) next
    ∙ pins_at_nets parts stacks place component p (pin + 1) is (omega arith))

nets_if : (b : Bool) (pins : List Pin) (refs : List PinRef) (net : PinRef → Option ℕ)
    → (b ≡ true → map net_at pins ≡ map net refs) → map net_at (cond b pins []) ≡ map net (cond b refs [])
nets_if true pins refs net h = h refl
nets_if false pins refs net h = refl

place_nets : (parts : Parts) (stacks : List Padstack) (place component : ℕ) (p : Place)
    → length (place_refs parts.library place p) ≤ 2 ^ 32 - 1 → map net_at (place_pins parts stacks place component p)
    ≡ map (net_of_pin parts.network.nets) (place_refs parts.library place p)
unfolding place_pins
place_nets parts stacks place component p few =
    let is = image_pins parts.library p in
    nets_if (is_placed p) (pins_at parts stacks place component p 0 is) (refs_at place 0 is)
    (net_of_pin parts.network.nets)
    (λ b. pins_at_nets parts stacks place component p 0 is
    (omega (arith, refs_count parts.library place p, cond-true (is_placed p) (length is) 0 b)))

nets_from : (parts : Parts) (stacks : List Padstack) (place component : ℕ) (ps : List Place)
    → place + length ps ≤ 2 ^ 32 - 1 → length (refs_from parts.library place ps) ≤ 2 ^ 32 - 1
    → map net_at (pins_from parts stacks place component ps)
    ≡ map (net_of_pin parts.network.nets) (refs_from parts.library place ps)
nets_from parts stacks place component [] few less = refl
nets_from parts stacks place component (p ∷ ps) few less =
    let lib = parts.library in
    let net = net_of_pin parts.network.nets in
    let next : plus place 1 ≡ place + 1 = omega arith in
    let whole : length (place_refs lib place p ++ refs_from lib (place + 1) ps)
    ≡ length (place_refs lib place p) + length (refs_from lib (place + 1) ps) =
    length-append (place_refs lib place p) (refs_from lib (place + 1) ps) in
    map-append net_at (place_pins parts stacks place component p)
    (pins_from parts stacks (plus place 1) (next_component component p) ps)
    ∙ ap (λ ns. ns ++ map net_at (pins_from parts stacks (plus place 1) (next_component component p) ps))
    (place_nets parts stacks place component p (omega arith))
    ∙ ap (λ s. map net (place_refs lib place p)
    ++ map net_at (pins_from parts stacks s (next_component component p) ps)) next
    ∙ ap (λ ns. map net (place_refs lib place p) ++ ns)
    (nets_from parts stacks (place + 1) (next_component component p) ps (omega arith) (omega arith))
    ∙ sym (map-append net (place_refs lib place p) (refs_from lib (place + 1) ps))

pub nets_are : (parts : Parts) (stacks : List Padstack) → length parts.placing.places ≤ 2 ^ 32 - 1
    → length (refs_from parts.library 0 parts.placing.places) ≤ 2 ^ 32 - 1
    → map (λ (p : Pin). p.net) (counted_pins parts stacks)
    ≡ map (net_of_pin parts.network.nets) (refs_from parts.library 0 parts.placing.places)
unfolding counted_pins
nets_are parts stacks few less = nets_from parts stacks 0 0 parts.placing.places (omega arith) less

-- ---- how many they are
image_count : (o : Option Image) → length (option_map_or (λ (i : Image). i.pins) o []) ≡ pins_placed o
image_count None = refl
image_count (Some i) = refl

placed_count : (lib : Library) (p : Place) → pin_count lib p ≡ placed_pins lib p
placed_count lib p = ap (counted_by (is_placed p)) (image_count (slice_get lib.images p.image))

refs_sum : (lib : Library) (n place : ℕ) (ps : List Place) → n + length (refs_from lib place ps)
    ≡ fold (λ a p. a + placed_pins lib p) n ps
refs_sum lib n place [] = omega arith
refs_sum lib n place (p ∷ ps) =
    let more = refs_sum lib (n + placed_pins lib p) (place + 1) ps in
    omega (
      arith,
      more,
      refs_count lib place p,
      placed_count lib p,
      length-append (place_refs lib place p) (refs_from lib (place + 1) ps),
    )

-- as many as the placement counts
pub refs_are : (lib : Library) (places : List Place) → length (refs_from lib 0 places) ≡ sum_by (placed_pins lib) places
refs_are lib places = omega (arith, refs_sum lib 0 0 places)
