-- Sums of indices never end early in a design of sound parts, so each number that counts up is a place in a list.
use Rattle.std.proofs.Common.{◌≡◌, ◌<◌, ◌≤◌, ◌+◌, ◌-◌, ◌++◌, ◌^◌, ◌∙◌, ap, sym, ℕ, suc, cond, Bool, true, false, List}
use Rattle.std.proofs.Common.{[], ◌∷◌, Some, length, map, refl, arith}
use Rattle.std.specs.Prelude.{All, filter, slice_get, unwrap_or}
use Rattle.std.specs.List.{enumerate_from, flat_map}
use Rattle.std.proofs.lemmas.Bool.{cond-true, false_from_ne_true}
use Rattle.std.proofs.lemmas.List.{length-append, map-append}
use Rattle.std.proofs.lemmas.List.Elements.{All-head, All-tail, All-weaker}
use Rattle.std.proofs.lemmas.Option.{slice_get_within}
use Rattle.pcb_model.specs.declared.item.Item.{Item}
use Rattle.pcb_model.specs.declared.design.Component.{Component}
use Rattle.pcb_model.specs.declared.design.Design.{Design}
use Rattle.pcb_model.specs.declared.design.Net.{Net}
use Rattle.pcb_model.specs.declared.design.Padstack.{Padstack}
use Rattle.pcb_model.specs.declared.design.Pin.{Pin}
use Rattle.dsn_shapes.specs.declared.parts.ImagePin.{ImagePin}
use Rattle.dsn_shapes.specs.declared.parts.Library.{Library}
use Rattle.dsn_shapes.specs.declared.parts.Place.{Place}
use Rattle.dsn_shapes.specs.declared.parts.PinRef.{PinRef}
use Rattle.dsn_shapes.specs.declared.parts.ReadClass.{ReadClass}
use Rattle.dsn_shapes.specs.declared.parts.ReadNet.{ReadNet}
use Rattle.dsn_network.specs.Nets.{is_pin}
use Rattle.dsn_design.specs.declared.parts.Parts.{Parts}
use Rattle.dsn_design.specs.Counts.{IsCountedOf, counted_components, counted_from, counted_items, counted_nets}
use Rattle.dsn_design.specs.Counts.{counted_number, counted_pins, first_pins, items_from, next_component, next_number}
use Rattle.dsn_design.specs.Counts.{pads_at, pin_count, pins_at, pins_from, place_items, place_pins, plus}
use Rattle.dsn_design.specs.Items.{ban_item, component_items, edge_item, fixed_items, fixed_wiring, free_wiring}
use Rattle.dsn_design.specs.Items.{numbered, pad_item, pad_of, placed_ban}
use Rattle.dsn_design.specs.Made.{IsDesignOf, design_from, design_with, nets_of, structure_vias}
use Rattle.dsn_design.specs.Nets.{net_of}
use Rattle.dsn_design.specs.Pins.{PlacedComponent, PlacedPin, all_pins, board_pins, component_of, component_pins}
use Rattle.dsn_design.specs.Pins.{components_of, has_place, image_bans, image_pins, is_placed, layer_count, pin_number}
use Rattle.dsn_design.specs.Pins.{pin_of, pin_ref, pin_refs, placed_as, placed_components, placed_pin}
use Rattle.dsn_design.specs.Sound.{ArePartsSound}
use Rattle.dsn_design.proofs.Numbered.{get_behind, get_front, number_is, place_refs, refs_are, refs_at, refs_count}
use Rattle.dsn_design.proofs.Numbered.{refs_from}
use Rattle.dsn_design.proofs.Owned.{IsPinThere, first_here, is_itself, own_pins, same_pin, there_at}

-- ---- lists
-- what is made of each of a list that is there or not
map_if : {X Y : Type 0} (b : Bool) (f : X → Y) (xs : List X) (ys : List Y) → (b ≡ true → map f xs ≡ ys)
    → map f (cond b xs []) ≡ cond b ys []
map_if true f xs ys h = h refl
map_if false f xs ys h = refl

-- a list that is there or not
same_if : {X : Type 0} (b : Bool) (xs ys : List X) → (b ≡ true → xs ≡ ys) → cond b xs [] ≡ cond b ys []
same_if true xs ys h = h refl
same_if false xs ys h = refl

-- two functions that agree on each element
map_agree : {X Y : Type 0} (f g : X → Y) (xs : List X) → All (λ x. f x ≡ g x) xs → map f xs ≡ map g xs
map_agree f g [] h = refl
map_agree f g (x ∷ xs) h = ap (λ y. y ∷ map f xs) (All-head (λ z. f z ≡ g z) x xs h)
    ∙ ap (λ ys. g x ∷ ys) (map_agree f g xs (All-tail (λ z. f z ≡ g z) x xs h))

-- ---- placed components
-- of these components, the first is number n of the placement, and k placed ones stand before it
abbrev placed_from : ℕ → ℕ → List Place → List PlacedComponent
placed_from n k ps = map placed_as (enumerate_from k (filter has_place (enumerate_from n ps)))

-- what is made of the first, which is placed or not, and then of the others
rows_if : {Y : Type 0} (row : PlacedComponent → List Y) (b : Bool) (n k : ℕ) (p : Place) (rest : List (ℕ × Place))
    → flat_map row (map placed_as (enumerate_from k (cond b ((n, p) ∷ rest) rest)))
    ≡ cond b (row (placed_as (k, (n, p)))) [] ++ flat_map row (map placed_as (enumerate_from (cond b (k + 1) k) rest))
rows_if row true n k p rest = refl
rows_if row false n k p rest = refl

-- what is made of each, component by component
rows : {Y : Type 0} (row : PlacedComponent → List Y) (n k : ℕ) (p : Place) (ps : List Place)
    → flat_map row (placed_from n k (p ∷ ps))
    ≡ cond (is_placed p) (row (placed_as (k, (n, p)))) []
    ++ flat_map row (placed_from (n + 1) (cond (is_placed p) (k + 1) k) ps)
rows row n k p ps = rows_if row (is_placed p) n k p (filter has_place (enumerate_from (n + 1) ps))

abbrev made : Library → PlacedComponent → Component
made lib c = component_of lib c.place

-- the first, which is placed or not, and then the others
components_if : (lib : Library) (b : Bool) (n k : ℕ) (p : Place) (rest : List (ℕ × Place)) (kept : List Place)
    → ((m : ℕ) → map (made lib) (map placed_as (enumerate_from m rest)) ≡ map (component_of lib) kept)
    → map (made lib) (map placed_as (enumerate_from k (cond b ((n, p) ∷ rest) rest)))
    ≡ map (component_of lib) (cond b (p ∷ kept) kept)
components_if lib true n k p rest kept h = ap (λ cs. component_of lib p ∷ cs) (h (k + 1))
components_if lib false n k p rest kept h = h k

-- the placed ones of a list
components_same : (lib : Library) (n k : ℕ) (ps : List Place)
    → map (made lib) (placed_from n k ps) ≡ map (component_of lib) (filter is_placed ps)
components_same lib n k [] = refl
components_same lib n k (p ∷ ps) = components_if lib (is_placed p) n k p (filter has_place (enumerate_from (n + 1) ps))
    (filter is_placed ps) (λ m. components_same lib (n + 1) m ps)

-- those of a design
components_are : (lib : Library) (places : List Place) → counted_components lib places ≡ components_of lib places
unfolding counted_components components_of placed_components
components_are lib places = sym (components_same lib 0 0 places)

-- ---- references
abbrev ref_of : PlacedPin → PinRef
ref_of q = q.ref

-- those of a component
refs_same : (c : PlacedComponent) (pin : ℕ) (is : List ImagePin)
    → map ref_of (map (placed_pin c) (enumerate_from pin is)) ≡ refs_at c.number pin is
refs_same c pin [] = refl
refs_same c pin (i ∷ is) = ap (λ rs. pin_ref c.number pin ∷ rs) (refs_same c (pin + 1) is)

-- those of some components
refs_from_same : (lib : Library) (n k : ℕ) (ps : List Place)
    → map ref_of (flat_map (component_pins lib) (placed_from n k ps)) ≡ refs_from lib n ps
refs_from_same lib n k [] = refl
refs_from_same lib n k (p ∷ ps) =
    let c = placed_as (k, (n, p)) in
    let next = cond (is_placed p) (k + 1) k in
    let more = flat_map (component_pins lib) (placed_from (n + 1) next ps) in
    ap (map ref_of) (rows (component_pins lib) n k p ps)
    ∙ map-append ref_of (cond (is_placed p) (component_pins lib c) []) more
    ∙ ap (λ rs. rs ++ map ref_of more)
    (map_if (is_placed p) ref_of (component_pins lib c) (refs_at n 0 (image_pins lib p))
    (λ b. refs_same c 0 (image_pins lib p)))
    ∙ ap (λ rs. place_refs lib n p ++ rs) (refs_from_same lib (n + 1) next ps)

-- those of a board
refs_all : (lib : Library) (places : List Place) → pin_refs lib places ≡ refs_from lib 0 places
unfolding pin_refs board_pins placed_components
refs_all lib places = refs_from_same lib 0 0 places

-- the place of the i-th is i
place_is : (lib : Library) (places : List Place) (i : ℕ) (r : PinRef) → length (refs_from lib 0 places) ≤ 2 ^ 32 - 1
    → slice_get (refs_from lib 0 places) i ≡ Some r → pin_number (pin_refs lib places) r ≡ i
place_is lib places i r few e =
    let refs = refs_from lib 0 places in
    let differs : (j : ℕ) (s : PinRef) → j < i → slice_get refs j ≡ Some s
    → is_pin r s ≡ false = λ j s l f. false_from_ne_true (is_pin r s)
    (λ t. let g : slice_get refs j ≡ Some r = f ∙ ap (λ (q : PinRef). Some q) (sym (same_pin r s t)) in
    absurd (omega (arith, l, number_is lib places j r few g, number_is lib places i r few e))) in
    let n : 0 + i ≡ i = omega arith in
    ap (λ rs. pin_number rs r) (refs_all lib places)
    ∙ ap (λ o. unwrap_or o 0) (first_here (is_pin r) refs 0 i r e (is_itself r) differs)
    ∙ n

-- a pin that is there has one number by both
number_same : (lib : Library) (places : List Place) (r : PinRef) → length (refs_from lib 0 places) ≤ 2 ^ 32 - 1
    → IsPinThere lib places r → counted_number (first_pins lib places) r ≡ pin_number (pin_refs lib places) r
number_same lib places r few h =
    let w = there_at lib places r (slice_get places r.place) refl h in
    number_is lib places w.0 r few w.1 ∙ sym (place_is lib places w.0 r few w.1)

-- ---- pins
-- those of an image
pins_at_same : (parts : Parts) (stacks : List Padstack) (c : PlacedComponent) (pin : ℕ) (is : List ImagePin)
    → pin + length is ≤ 2 ^ 32 - 1
    → pins_at parts stacks c.number c.index c.place pin is ≡ map (pin_of parts stacks)
    (map (placed_pin c) (enumerate_from pin is))
pins_at_same parts stacks c pin [] few = refl
pins_at_same parts stacks c pin (i ∷ is) few =
    let next : plus pin 1 ≡ pin + 1 = omega arith in
    let here = pin_of parts stacks (placed_pin c (pin, i)) in
    ap (λ n. here ∷ pins_at parts stacks c.number c.index c.place n is) next
    ∙ ap (λ qs. here ∷ qs) (pins_at_same parts stacks c (pin + 1) is (omega arith))

-- a count of placed components goes on
count_on : (b : Bool) (k n m : ℕ) → k + suc n ≤ m → cond b (k + 1) k + n ≤ m
count_on true k n m h = omega arith
count_on false k n m h = omega arith

-- and it doesn't end early
count_up : (b : Bool) (k n : ℕ) → k + suc n ≤ 2 ^ 32 - 1 → cond b (plus k 1) k ≡ cond b (k + 1) k
count_up true k n h = omega arith
count_up false k n h = refl

-- a placed component has no more pins than references
here_few : (lib : Library) (place : ℕ) (p : Place) (n : ℕ) → length (place_refs lib place p) ≤ n → is_placed p ≡ true
    → length (image_pins lib p) ≤ n
here_few lib place p n h b = omega (
  arith,
  h,
  refs_count lib place p,
  cond-true (is_placed p) (length (image_pins lib p)) 0 b,
)

-- those of a component that is placed or not
place_pins_same : (parts : Parts) (stacks : List Padstack) (place component : ℕ) (p : Place)
    → length (place_refs parts.library place p) ≤ 2 ^ 32 - 1
    → place_pins parts stacks place component p ≡ map (pin_of parts stacks)
    (cond (is_placed p) (component_pins parts.library (placed_as (component, (place, p)))) [])
unfolding place_pins
place_pins_same parts stacks place component p few =
    let c = placed_as (component, (place, p)) in
    let is = image_pins parts.library p in
    sym (map_if (is_placed p) (pin_of parts stacks) (component_pins parts.library c)
    (pins_at parts stacks place component p 0 is)
    (λ b. sym (pins_at_same parts stacks c 0 is (omega (arith, here_few parts.library place p (2 ^ 32 - 1) few b)))))

-- those of some components
pins_same : (parts : Parts) (stacks : List Padstack) (place component : ℕ) (ps : List Place)
    → place + length ps ≤ 2 ^ 32 - 1 → component + length ps ≤ 2 ^ 32 - 1
    → length (refs_from parts.library place ps) ≤ 2 ^ 32 - 1
    → pins_from parts stacks place component ps ≡ map (pin_of parts stacks)
    (flat_map (component_pins parts.library) (placed_from place component ps))
pins_same parts stacks place component [] few less pins = refl
pins_same parts stacks place component (p ∷ ps) few less pins =
    let lib = parts.library in
    let c = placed_as (component, (place, p)) in
    let here = place_pins parts stacks place component p in
    let next = cond (is_placed p) (component + 1) component in
    let more = flat_map (component_pins lib) (placed_from (place + 1) next ps) in
    let f : plus place 1 ≡ place + 1 = omega arith in
    let whole : length (place_refs lib place p ++ refs_from lib (place + 1) ps) ≡ length
    (place_refs lib place p) + length (refs_from lib (place + 1) ps) =
    length-append (place_refs lib place p) (refs_from lib (place + 1) ps) in
    ap (λ n. here ++ pins_from parts stacks n (next_component component p) ps) f
    ∙ ap (λ n. here ++ pins_from parts stacks (place + 1) n ps) (count_up (is_placed p) component (length ps) less)
    ∙ ap (λ qs. here ++ qs) (pins_same parts stacks (place + 1) next ps (omega arith)
    (count_on (is_placed p) component (length ps) (2 ^ 32 - 1) less) (omega arith))
    ∙ ap (λ qs. qs ++ map (pin_of parts stacks) more) (place_pins_same parts stacks place component p (omega arith))
    ∙ sym (map-append (pin_of parts stacks) (cond (is_placed p) (component_pins lib c) []) more)
    ∙ ap (map (pin_of parts stacks)) (sym (rows (component_pins lib) place component p ps))

-- those of a design
pins_are : (parts : Parts) (stacks : List Padstack) → length parts.placing.places ≤ 2 ^ 32 - 1
    → length (refs_from parts.library 0 parts.placing.places) ≤ 2 ^ 32 - 1
    → counted_pins parts stacks ≡ all_pins parts stacks
unfolding counted_pins all_pins board_pins placed_components
pins_are parts stacks few pins = pins_same parts stacks 0 0 parts.placing.places (omega arith) (omega arith) pins

-- ---- nets
-- a net whose pins have the same numbers
net_same : (stacks : List Padstack) (f g : PinRef → ℕ) (vias : List ℕ) (classes : List ReadClass) (n : ReadNet)
    → map f n.pins ≡ map g n.pins → net_of stacks f vias classes n ≡ net_of stacks g vias classes n
unfolding net_of
net_same stacks f g vias classes n e = ap (λ (pins : List ℕ). record (net_of stacks f vias classes n) { pins = pins }) e

-- those of a design
nets_are : (p : Parts) (stacks : List Padstack) → ArePartsSound p
    → length (refs_from p.library 0 p.placing.places) ≤ 2 ^ 32 - 1 → counted_nets p stacks ≡ nets_of p stacks
nets_are p stacks s few =
    let lib = p.library in
    let places = p.placing.places in
    let counted = counted_number (first_pins lib places) in
    let placed = pin_number (pin_refs lib places) in
    let vias = structure_vias p in
    let classes = p.network.classes in
    let own = own_pins lib p.placing p.network s.network in
    map_agree (net_of stacks counted vias classes) (net_of stacks placed vias classes) p.network.nets
    (All-weaker (λ (n : ReadNet). All (IsPinThere lib places) n.pins)
    (λ (n : ReadNet). net_of stacks counted vias classes n ≡ net_of stacks placed vias classes n)
    (λ n there. net_same stacks counted placed vias classes n
    (map_agree counted placed n.pins
    (All-weaker (IsPinThere lib places) (λ r. counted r ≡ placed r)
    (λ r h. number_same lib places r few h) n.pins there)))
    p.network.nets own.there)

-- ---- fixed items
-- the pins of these references have the places from `number` on
abbrev AreAt : Library → List Place → ℕ → List PinRef → Type 0
AreAt lib places number refs = (j : ℕ) (r : PinRef) → slice_get refs j ≡ Some r
    → pin_number (pin_refs lib places) r ≡ number + j

-- the pads of an image
pads_same : (parts : Parts) (stacks : List Padstack) (c : PlacedComponent) (pin number : ℕ) (is : List ImagePin)
    → pin + length is ≤ 2 ^ 32 - 1 → number + length is ≤ 2 ^ 32 - 1
    → AreAt parts.library parts.placing.places number (refs_at c.number pin is)
    → pads_at parts stacks c.number c.place pin number is ≡ map (pad_of parts stacks)
    (map (placed_pin c) (enumerate_from pin is))
pads_same parts stacks c pin number [] few less at = refl
pads_same parts stacks c pin number (i ∷ is) few less at =
    let r = pin_ref c.number pin in
    let here = pad_of parts stacks (placed_pin c (pin, i)) in
    let n : number ≡ pin_number (pin_refs parts.library parts.placing.places) r = omega (arith, at 0 r refl) in
    let f : plus pin 1 ≡ pin + 1 = omega arith in
    let g : plus number 1 ≡ number + 1 = omega arith in
    ap (λ k. pad_item parts stacks k r c.place i ∷ pads_at parts stacks c.number c.place (plus pin 1)
    (plus number 1) is) n
    ∙ ap (λ k. here ∷ pads_at parts stacks c.number c.place k (plus number 1) is) f
    ∙ ap (λ k. here ∷ pads_at parts stacks c.number c.place (pin + 1) k is) g
    ∙ ap (λ xs. here ∷ xs) (pads_same parts stacks c (pin + 1) (number + 1) is (omega arith) (omega arith)
    (λ j s e. omega (arith, at (suc j) s e)))

-- keepouts and pads of a component that is placed or not
place_items_same : (parts : Parts) (stacks : List Padstack) (place component number : ℕ) (p : Place)
    → number + length (place_refs parts.library place p) ≤ 2 ^ 32 - 1
    → AreAt parts.library parts.placing.places number (place_refs parts.library place p)
    → place_items parts stacks place number p ≡ cond (is_placed p)
    (component_items parts stacks (placed_as (component, (place, p)))) []
unfolding place_items
place_items_same parts stacks place component number p few at =
    let lib = parts.library in
    let c = placed_as (component, (place, p)) in
    let is = image_pins lib p in
    let bans : List Item = map (placed_ban parts p) (image_bans lib p) in
    same_if (is_placed p) (bans ++ pads_at parts stacks place p 0 number is) (component_items parts stacks c)
    (λ b. let n : number + length is ≤ 2 ^ 32 - 1 =
    omega (arith, few, here_few lib place p (length (place_refs lib place p)) (omega arith) b) in
    ap (λ xs. bans ++ xs) (pads_same parts stacks c 0 number is (omega arith) n
    (λ j r e. at j r (ap (λ (rs : List PinRef). slice_get rs j) (cond-true (is_placed p) (refs_at place 0 is) [] b)
    ∙ e))))

-- a count of pins doesn't end early
count_all : (b : Bool) (number k : ℕ) → number + cond b k 0 ≤ 2 ^ 32 - 1
    → cond b (plus number k) number ≡ number + cond b k 0
count_all true number k h = omega arith
count_all false number k h = omega arith

-- those of some components
items_same : (parts : Parts) (stacks : List Padstack) (place component number : ℕ) (ps : List Place)
    → place + length ps ≤ 2 ^ 32 - 1 → number + length (refs_from parts.library place ps) ≤ 2 ^ 32 - 1
    → AreAt parts.library parts.placing.places number (refs_from parts.library place ps)
    → items_from parts stacks place number ps ≡ flat_map (component_items parts stacks) (placed_from place component ps)
items_same parts stacks place component number [] few less at = refl
items_same parts stacks place component number (p ∷ ps) few less at =
    let lib = parts.library in
    let here = place_refs lib place p in
    let more = refs_from lib (place + 1) ps in
    let items = place_items parts stacks place number p in
    let count : length here ≡ pin_count lib p = refs_count lib place p in
    let whole : length (here ++ more) ≡ length here + length more = length-append here more in
    let next = cond (is_placed p) (component + 1) component in
    let f : plus place 1 ≡ place + 1 = omega arith in
    ap (λ n. items ++ items_from parts stacks n (next_number parts number p) ps) f
    ∙ ap (λ n. items ++ items_from parts stacks (place + 1) n ps)
    (count_all (is_placed p) number (length (image_pins lib p)) (omega arith))
    ∙ ap (λ xs. items ++ xs) (items_same parts stacks (place + 1) next (number + pin_count lib p) ps (omega arith)
    (omega arith)
    (λ j r e. omega (arith, count, at (length here + j) r (get_behind here more (length here + j) j refl ∙ e))))
    ∙ ap (λ xs. xs ++ flat_map (component_items parts stacks) (placed_from (place + 1) next ps))
    (place_items_same parts stacks place component number p (omega arith)
    (λ j r e. at j r (get_front here more j (slice_get_within here j r e) ∙ e)))
    ∙ sym (rows (component_items parts stacks) place component p ps)

-- those of a design
items_are : (parts : Parts) (stacks : List Padstack) → length parts.placing.places ≤ 2 ^ 32 - 1
    → length (refs_from parts.library 0 parts.placing.places) ≤ 2 ^ 32 - 1
    → counted_items parts stacks ≡ fixed_items parts stacks
unfolding counted_items fixed_items placed_components
items_are parts stacks few pins =
    let lib = parts.library in
    let places = parts.placing.places in
    ap (λ (xs : List Item). numbered (map (edge_item (layer_count parts)) parts.structure.bounds
    ++ (map (ban_item (layer_count parts)) parts.structure.bans ++ (xs ++ fixed_wiring stacks parts.wiring.wires))))
    (items_same parts stacks 0 0 0 places (omega arith) (omega arith)
    (λ j r e. omega (arith, place_is lib places j r pins e)))

-- ---- the whole
-- the counted design of sound parts is that of the definitions
pub counted_are : (p : Parts) (stacks : List Padstack) → ArePartsSound p → counted_from p stacks ≡ design_from p stacks
counted_are p stacks s =
    let lib = p.library in
    let places = p.placing.places in
    let free = free_wiring p.wiring.wires in
    let few : length places ≤ 2 ^ 32 - 1 = omega (arith, s.few.places) in
    let pins : length (refs_from lib 0 places) ≤ 2 ^ 32 - 1 = omega (arith, refs_are lib places, s.placing.few_pins) in
    ap (λ (cs : List Component). design_with p stacks cs (counted_pins p stacks) (counted_nets p stacks)
    (counted_items p stacks) free) (components_are lib places)
    ∙ ap (λ (qs : List Pin). design_with p stacks (components_of lib places) qs (counted_nets p stacks)
    (counted_items p stacks) free) (pins_are p stacks few pins)
    ∙ ap (λ (ns : List Net). design_with p stacks (components_of lib places) (all_pins p stacks) ns
    (counted_items p stacks) free) (nets_are p stacks s pins)
    ∙ ap (λ (xs : List Item). design_with p stacks (components_of lib places) (all_pins p stacks)
    (nets_of p stacks) xs free) (items_are p stacks few pins)

-- so what is made by counting is the design of the parts
pub counted_design : (p : Parts) (d : Design) → ArePartsSound p → IsCountedOf p d → IsDesignOf p d
counted_design p d s h = record { padstacks = h.padstacks; design = h.design ∙ counted_are p d.padstacks s }
