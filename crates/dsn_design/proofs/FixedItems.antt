-- What holds of each fixed item of a design, from its parts, and the items behind their numbers.
use Rattle.std.proofs.Common.{◌≡◌, ◌<◌, ◌≤◌, ◌+◌, ◌++◌, ◌∙◌, ap, sym, subst, ℕ, zero, suc, List, [], ◌∷◌, Option, Some}
use Rattle.std.proofs.Common.{None, get_or, length, map, refl, arith}
use Rattle.std.specs.Prelude.{All, filter, slice_get, unwrap_or}
use Rattle.std.specs.List.{flat_map, position_from}
use Rattle.std.proofs.lemmas.List.{length-append, length-map}
use Rattle.std.proofs.lemmas.List.Elements.{All-append, All-cons, All-filter, All-head, All-map, All-nil, All-tail}
use Rattle.std.proofs.lemmas.List.Elements.{All-weaker}
use Rattle.std.proofs.lemmas.Option.{same_Some}
use Rattle.pcb_model.specs.declared.item.Item.{Item}
use Rattle.pcb_model.specs.declared.design.Padstack.{Padstack}
use Rattle.dsn_shapes.specs.declared.parts.BanShape.{BanShape}
use Rattle.dsn_shapes.specs.declared.parts.ImagePin.{ImagePin}
use Rattle.dsn_shapes.specs.declared.parts.LayerShape.{LayerShape}
use Rattle.dsn_shapes.specs.declared.parts.Library.{Library}
use Rattle.dsn_shapes.specs.declared.parts.PinRef.{PinRef}
use Rattle.dsn_shapes.specs.declared.parts.Place.{Place}
use Rattle.dsn_shapes.specs.declared.parts.ReadWire.{ReadWire}
use Rattle.dsn_shapes.proofs.Fits.{place_below}
use Rattle.dsn_network.specs.Nets.{is_pin}
use Rattle.dsn_design.specs.declared.parts.Parts.{Parts}
use Rattle.dsn_design.specs.Items.{ban_item, component_items, edge_item, fixed_items, fixed_wiring, is_fixed, numbered}
use Rattle.dsn_design.specs.Items.{numbered_from, pad_item, pad_of, placed_ban, wiring_item, with_id}
use Rattle.dsn_design.specs.Pins.{PlacedComponent, PlacedPin, all_pins, board_pins, component_pins, image_bans}
use Rattle.dsn_design.specs.Pins.{layer_count, pin_number, pin_of, pin_ref, pin_refs, placed_components}

-- ---- lists
pub all_made : {X Y : Type 0} (P : Y → Type 0) (Q : X → Type 0) (f : X → List Y) → ((x : X) → Q x → All P (f x))
    → (xs : List X) → All Q xs → All P (flat_map f xs)
all_made P Q f h [] a = All-nil P
all_made P Q f h (x ∷ xs) a = All-append P (f x) (flat_map f xs) (h x (All-head Q x xs a))
    (all_made P Q f h xs (All-tail Q x xs a))

-- ---- items behind their numbers
-- item number id + i is the i-th of these
pub record IsItemAt (items : List Item) (id i : ℕ) (a : Item) : Type 0 where
  pub from : Item
  pub there : slice_get items i ≡ Some from
  pub is : with_id (id + i) from ≡ a

pub item_at : (id : ℕ) (items : List Item) (i : ℕ) (a : Item) → slice_get (numbered_from id items) i ≡ Some a
    → IsItemAt items id i a
item_at id [] i a e = absurd (cc)
item_at id (b ∷ items) zero a e =
    let n : id + 0 ≡ id = omega arith in
    record { from = b; there = refl; is = ap (λ k. with_id k b) n ∙ same_Some (with_id id b) a e }
item_at id (b ∷ items) (suc i) a e =
    let w = item_at (id + 1) items i a e in
    let n : id + suc i ≡ id + 1 + i = omega arith in
    record { from = w.from; there = w.there; is = ap (λ k. with_id k w.from) n ∙ w.is }

pub item_there : (id : ℕ) (items : List Item) (i : ℕ) (a : Item) → slice_get items i ≡ Some a
    → slice_get (numbered_from id items) i ≡ Some (with_id (id + i) a)
item_there id [] i a e = absurd (cc)
item_there id (b ∷ items) zero a e =
    let n : id ≡ id + 0 = omega arith in
    ap (λ k. Some (with_id k b)) n ∙ ap (λ (c : Item). Some (with_id (id + 0) c)) (same_Some b a e)
item_there id (b ∷ items) (suc i) a e =
    let n : id + 1 + i ≡ id + suc i = omega arith in
    item_there (id + 1) items i a e ∙ ap (λ k. Some (with_id k a)) n

-- the fixed items before they are numbered
abbrev pub unnumbered : Parts → List Padstack → List Item
unnumbered parts stacks = map (edge_item (layer_count parts)) parts.structure.bounds
    ++ (map (ban_item (layer_count parts)) parts.structure.bans
    ++ (flat_map (component_items parts stacks) (placed_components parts.placing.places)
    ++ fixed_wiring stacks parts.wiring.wires))

pub items_numbered : (parts : Parts) (stacks : List Padstack)
    → fixed_items parts stacks ≡ numbered_from 0 (unnumbered parts stacks)
unfolding fixed_items numbered
items_numbered parts stacks = refl

-- ---- what holds of each
-- what holds of the keepouts and pads of placed components, where there are `total` pins
pub record HoldsPlaced (P : Item → Type 0) (parts : Parts) (stacks : List Padstack) (total : ℕ) : Type 0 where
  pub bans : (p : Place) → All (λ (b : BanShape). P (placed_ban parts p b)) (image_bans parts.library p)
  pub pads : (place : ℕ) (p : Place) (pin number : ℕ) (i : ImagePin) → number < total
      → P (pad_item parts stacks number (pin_ref place pin) p i)

unwrap_below : (o : Option ℕ) (n : ℕ) → ((k : ℕ) → o ≡ Some k → k < n) → 0 < n → unwrap_or o 0 < n
unwrap_below None n h some = some
unwrap_below (Some k) n h some = h k refl

-- where a board has pins, a number is below their count
number_below : (refs : List PinRef) (r : PinRef) → 0 < length refs → pin_number refs r < length refs
number_below refs r some = unwrap_below (position_from (is_pin r) 0 refs) (length refs)
    (λ k e. omega (arith, place_below (is_pin r) refs 0 k e)) some

-- each list is at most as long as all of them together
each_short : {X Y : Type 0} (f : X → List Y) (xs : List X) → All (λ x. length (f x) ≤ length (flat_map f xs)) xs
each_short f [] = All-nil (λ x. length (f x) ≤ 0)
each_short f (x ∷ xs) =
    let whole : length (f x ++ flat_map f xs) ≡ length (f x) + length (flat_map f xs) =
    length-append (f x) (flat_map f xs) in
    All-cons (λ y. length (f y) ≤ length (f x ++ flat_map f xs)) x xs (omega arith)
    (All-weaker (λ y. length (f y) ≤ length (flat_map f xs)) (λ y. length (f y) ≤ length (f x ++ flat_map f xs))
    (λ y h. omega (arith, h)) xs (each_short f xs))

component_all : (P : Item → Type 0) (parts : Parts) (stacks : List Padstack)
    → HoldsPlaced P parts stacks (length (pin_refs parts.library parts.placing.places)) → (c : PlacedComponent)
    → length (component_pins parts.library c) ≤ length (pin_refs parts.library parts.placing.places)
    → All P (component_items parts stacks c)
component_all P parts stacks h c few =
    let refs = pin_refs parts.library parts.placing.places in
    let bans = image_bans parts.library c.place in
    let pins = component_pins parts.library c in
    All-append P (map (placed_ban parts c.place) bans) (map (pad_of parts stacks) pins)
    (All-map P (placed_ban parts c.place) bans (h.bans c.place))
    (All-map P (pad_of parts stacks) pins (λ k d l. let q = get_or pins k d in
    h.pads q.ref.place q.component.place q.ref.pin (pin_number refs q.ref) q.image_pin
    (number_below refs q.ref (omega arith))))

refs_long : (lib : Library) (places : List Place)
    → length (pin_refs lib places) ≡ length (flat_map (component_pins lib) (placed_components places))
unfolding pin_refs board_pins
refs_long lib places = length-map (flat_map (component_pins lib) (placed_components places)) (λ (q : PlacedPin). q.ref)

pub pins_long : (parts : Parts) (stacks : List Padstack)
    → length (all_pins parts stacks) ≡ length (pin_refs parts.library parts.placing.places)
unfolding all_pins pin_refs
pins_long parts stacks = length-map (board_pins parts.library parts.placing.places) (pin_of parts stacks)
    ∙ sym (length-map (board_pins parts.library parts.placing.places) (λ (q : PlacedPin). q.ref))

placed_all : (P : Item → Type 0) (parts : Parts) (stacks : List Padstack)
    → HoldsPlaced P parts stacks (length (all_pins parts stacks))
    → All P (flat_map (component_items parts stacks) (placed_components parts.placing.places))
placed_all P parts stacks h =
    let lib = parts.library in
    let cs = placed_components parts.placing.places in
    let total = length (pin_refs lib parts.placing.places) in
    let holds : HoldsPlaced P parts stacks total = subst (HoldsPlaced P parts stacks) (pins_long parts stacks) h in
    all_made P (λ c. length (component_pins lib c) ≤ total) (component_items parts stacks)
    (component_all P parts stacks holds) cs
    (subst (λ n. All (λ c. length (component_pins lib c) ≤ n) cs) (sym (refs_long lib parts.placing.places))
    (each_short (component_pins lib) cs))

-- what holds of each is shown part by part
pub fixed_all : (P : Item → Type 0) (parts : Parts) (stacks : List Padstack)
    → All (λ (s : LayerShape). P (edge_item (layer_count parts) s)) parts.structure.bounds
    → All (λ (b : BanShape). P (ban_item (layer_count parts) b)) parts.structure.bans
    → HoldsPlaced P parts stacks (length (all_pins parts stacks))
    → All (λ (w : ReadWire). P (wiring_item stacks w)) parts.wiring.wires → All P (unnumbered parts stacks)
unfolding fixed_wiring
fixed_all P parts stacks edges bans placed wires =
    let n = layer_count parts in
    let placings = flat_map (component_items parts stacks) (placed_components parts.placing.places) in
    let kept = filter is_fixed parts.wiring.wires in
    let wired : List Item = map (wiring_item stacks) kept in
    let edged : List Item = map (edge_item n) parts.structure.bounds in
    let banned : List Item = map (ban_item n) parts.structure.bans in
    All-append P edged (banned ++ (placings ++ wired)) (All-map P (edge_item n) parts.structure.bounds edges)
    (All-append P banned (placings ++ wired) (All-map P (ban_item n) parts.structure.bans bans)
    (All-append P placings wired
    (placed_all P parts stacks placed)
    (All-map P (wiring_item stacks) kept
    (All-filter is_fixed (λ w. P (wiring_item stacks w)) parts.wiring.wires wires))))
