-- Just one fixed item is the pad of a pin, and it has the pin's net.
use Rattle.std.proofs.Common.{◌≡◌, ◌≤◌, ◌+◌, ◌-◌, ◌++◌, ◌^◌, ◌∙◌, ap, sym, subst, ℕ, zero, suc, cond, Bool, true, false}
use Rattle.std.proofs.Common.{List, [], ◌∷◌, Option, Some, length, map, refl, arith}
use Rattle.std.specs.Prelude.{All, Contains, filter, slice_get}
use Rattle.std.specs.Option.{option_map}
use Rattle.std.proofs.lemmas.List.{append-nil, length-append, map-append}
use Rattle.std.proofs.lemmas.List.Elements.{All-filter, All-head, All-tail}
use Rattle.std.proofs.lemmas.Option.{get_or_from_slice_get, same_Some, slice_get-get_or, slice_get-map}
use Rattle.std.proofs.lemmas.Option.{slice_get_within}
use Rattle.pcb_model.specs.declared.item.Item.{Item}
use Rattle.pcb_model.specs.declared.item.Metal.{Metal}
use Rattle.pcb_model.specs.declared.item.Metal.TheVariants.{Wire, Via, Pad, Ban}
use Rattle.pcb_model.specs.declared.design.Design.{Design}
use Rattle.pcb_model.specs.declared.design.Padstack.{Padstack}
use Rattle.pcb_model.specs.declared.design.Pin.{Pin}
use Rattle.pcb_model.specs.Sound.{HasOnePad}
use Rattle.dsn_shapes.specs.declared.parts.BanShape.{BanShape}
use Rattle.dsn_shapes.specs.declared.parts.ImagePin.{ImagePin}
use Rattle.dsn_shapes.specs.declared.parts.LayerShape.{LayerShape}
use Rattle.dsn_shapes.specs.declared.parts.Library.{Library}
use Rattle.dsn_shapes.specs.declared.parts.Network.{Network}
use Rattle.dsn_shapes.specs.declared.parts.Place.{Place}
use Rattle.dsn_shapes.specs.declared.parts.ReadWire.{ReadWire}
use Rattle.dsn_shapes.specs.declared.parts.Structure.{Structure}
use Rattle.dsn_placement.specs.Sound.{IsPlacingSound}
use Rattle.dsn_wiring.specs.Sound.{IsCopperSound, IsWireSound, IsWiringSound}
use Rattle.dsn_design.specs.declared.parts.Parts.{Parts}
use Rattle.dsn_design.specs.Counts.{counted_from, counted_items, counted_pins, items_from, next_component, next_number}
use Rattle.dsn_design.specs.Counts.{pads_at, pin_count, pins_at, pins_from, place_items, place_pins, plus}
use Rattle.dsn_design.specs.Items.{ban_item, edge_item, fixed_wiring, is_fixed, numbered, numbered_from, pad_item}
use Rattle.dsn_design.specs.Items.{placed_ban, wiring_item, with_id}
use Rattle.dsn_design.specs.Made.{design_with}
use Rattle.dsn_design.specs.Pins.{image_bans, image_pins, is_placed, layer_count, net_of_pin, pin_of, pin_ref}
use Rattle.dsn_design.proofs.FixedItems.{item_at, item_there}
use Rattle.dsn_design.proofs.Numbered.{place_refs, refs_are, refs_count, refs_from}
use Rattle.dsn_design.proofs.Stands.{pins_count}

-- ---- the items that are counted
abbrev counted_list : Parts → List Padstack → List Item
counted_list parts stacks = map (edge_item (layer_count parts)) parts.structure.bounds
    ++ (map (ban_item (layer_count parts)) parts.structure.bans
    ++ (items_from parts stacks 0 0 parts.placing.places
    ++ fixed_wiring stacks parts.wiring.wires))

counted_list_is : (parts : Parts) (stacks : List Padstack) → (counted_from parts stacks).fixed
    ≡ numbered_from 0 (counted_list parts stacks)
unfolding design_with counted_items numbered
counted_list_is parts stacks = refl

-- ---- how many pins there are
abbrev pins_in : Library → List Place → ℕ
pins_in lib [] = 0
pins_in lib (p ∷ ps) = pin_count lib p + pins_in lib ps

pins_in_refs : (lib : Library) (place : ℕ) (ps : List Place) → length (refs_from lib place ps) ≡ pins_in lib ps
pins_in_refs lib place [] = refl
pins_in_refs lib place (p ∷ ps) =
    omega (
      arith,
      refs_count lib place p,
      pins_in_refs lib (place + 1) ps,
      length-append (place_refs lib place p) (refs_from lib (place + 1) ps),
    )

pins_in_all : (parts : Parts) (stacks : List Padstack) → pins_in parts.library parts.placing.places
    ≡ length (counted_pins parts stacks)
pins_in_all parts stacks =
    sym (pins_in_refs parts.library 0 parts.placing.places) ∙ refs_are parts.library parts.placing.places
    ∙ sym (pins_count parts stacks)

count_here : (b : Bool) (number k rest total : ℕ) → number + (cond b k 0 + rest) ≤ total → b ≡ true → number + k ≤ total
count_here true number k rest total few t = omega arith
count_here false number k rest total few t = absurd (cc)

-- ---- the nets of pads
abbrev net_before : Metal → Option ℕ → List (Option ℕ) → List (Option ℕ)
net_before (Wire layer width chain) net nets = nets
net_before (Via stack at) net nets = nets
net_before (Pad pin) net nets = net ∷ nets
net_before (Ban wires vias) net nets = nets

-- the nets of those items that are pads
abbrev pub pad_nets : List Item → List (Option ℕ)
pad_nets [] = []
pad_nets (a ∷ items) = net_before a.metal a.net (pad_nets items)

before_append : (m : Metal) (net : Option ℕ) (xs ys zs : List (Option ℕ)) → xs ≡ ys ++ zs
    → net_before m net xs ≡ net_before m net ys ++ zs
before_append (Wire layer width chain) net xs ys zs e = e
before_append (Via stack at) net xs ys zs e = e
before_append (Pad pin) net xs ys zs e = ap (λ ns. net ∷ ns) e
before_append (Ban wires vias) net xs ys zs e = e

nets_append : (xs ys : List Item) → pad_nets (xs ++ ys) ≡ pad_nets xs ++ pad_nets ys
nets_append [] ys = refl
nets_append (a ∷ xs) ys =
    before_append a.metal a.net (pad_nets (xs ++ ys)) (pad_nets xs) (pad_nets ys) (nets_append xs ys)

-- ---- pads that count up
abbrev IsNext : ℕ → Metal → Type 0
IsNext n (Wire layer width chain) = Unit {0}
IsNext n (Via stack at) = Unit {0}
IsNext n (Pad pin) = pin ≡ n
IsNext n (Ban wires vias) = Unit {0}

abbrev next_pad : ℕ → Metal → ℕ
next_pad n (Wire layer width chain) = n
next_pad n (Via stack at) = n
next_pad n (Pad pin) = n + 1
next_pad n (Ban wires vias) = n

-- the pads of these items have the numbers from n, in order, up to m
abbrev Counts : ℕ → List Item → ℕ → Type 0
Counts n [] m = n ≡ m
Counts n (a ∷ items) m = IsNext n a.metal × Counts (next_pad n a.metal) items m

counts_append : (n m k : ℕ) (xs ys : List Item) → Counts n xs m → Counts m ys k → Counts n (xs ++ ys) k
counts_append n m k [] ys h g = subst (λ j. Counts j ys k) (sym h) g
counts_append n m k (a ∷ xs) ys h g = (h.0, counts_append (next_pad n a.metal) m k xs ys h.1 g)

-- ---- items that are no pads
abbrev IsNoPad : Metal → Type 0
IsNoPad (Wire layer width chain) = Unit {0}
IsNoPad (Via stack at) = Unit {0}
IsNoPad (Pad pin) = ⊥
IsNoPad (Ban wires vias) = Unit {0}

record IsPassed (n : ℕ) (m : Metal) : Type 0 where
  fits : IsNext n m
  stays : next_pad n m ≡ n

passed : (n : ℕ) (m : Metal) → IsNoPad m → IsPassed n m
passed n (Wire layer width chain) h = record { fits = tt; stays = refl }
passed n (Via stack at) h = record { fits = tt; stays = refl }
passed n (Pad pin) h = absurd h
passed n (Ban wires vias) h = record { fits = tt; stays = refl }

before_none : (m : Metal) (net : Option ℕ) (xs : List (Option ℕ)) → IsNoPad m → net_before m net xs ≡ xs
before_none (Wire layer width chain) net xs h = refl
before_none (Via stack at) net xs h = refl
before_none (Pad pin) net xs h = absurd h
before_none (Ban wires vias) net xs h = refl

-- items of which none is a pad
record HasNoPads (items : List Item) : Type 0 where
  nets : pad_nets items ≡ []
  counts : (n : ℕ) → Counts n items n

no_pads : {X : Type 0} (Q : X → Type 0) (f : X → Item) → ((x : X) → Q x → IsNoPad (f x).metal) → (xs : List X)
    → All Q xs → HasNoPads (map f xs)
no_pads Q f h [] a = record { nets = refl; counts = λ n. refl }
no_pads Q f h (x ∷ xs) a =
    let w = no_pads Q f h xs (All-tail Q x xs a) in
    let none = h x (All-head Q x xs a) in
    record {
      nets = before_none (f x).metal (f x).net (pad_nets (map f xs)) none ∙ w.nets;
      counts = λ n. let p = passed n (f x).metal none in
          (p.fits, subst (λ j. Counts j (map f xs) n) (sym p.stays) (w.counts n));
    }

abbrev IsAny : {X : Type 0} → X → Type 0
IsAny x = Unit {0}

edges_none : (n : ℕ) (ss : List LayerShape) → HasNoPads (map (edge_item n) ss)
unfolding edge_item
edges_none n ss = no_pads IsAny (edge_item n) (λ s h. tt) ss (λ k d l. tt)

bans_none : (n : ℕ) (bs : List BanShape) → HasNoPads (map (ban_item n) bs)
unfolding ban_item
bans_none n bs = no_pads IsAny (ban_item n) (λ b h. tt) bs (λ k d l. tt)

placed_bans_none : (parts : Parts) (p : Place) (bs : List BanShape) → HasNoPads (map (placed_ban parts p) bs)
unfolding placed_ban
placed_bans_none parts p bs = no_pads IsAny (placed_ban parts p) (λ b h. tt) bs (λ k d l. tt)

no_pad : (st : Structure) (lib : Library) (m : Metal) → IsCopperSound st lib m → IsNoPad m
no_pad st lib (Wire layer width chain) h = tt
no_pad st lib (Via stack at) h = tt
no_pad st lib (Pad pin) h = h
no_pad st lib (Ban wires vias) h = tt

wiring_none : (st : Structure) (lib : Library) (network : Network) (stacks : List Padstack) (ws : List ReadWire)
    → All (IsWireSound st lib network) ws → HasNoPads (map (wiring_item stacks) ws)
unfolding wiring_item
wiring_none st lib network stacks ws h =
    no_pads (IsWireSound st lib network) (wiring_item stacks) (λ w k. no_pad st lib w.metal k.copper) ws h

-- ---- the pads of pins
abbrev net_at : Pin → Option ℕ
net_at p = p.net

pads_nets : (parts : Parts) (stacks : List Padstack) (place component : ℕ) (p : Place) (pin number : ℕ)
    (is : List ImagePin) → pad_nets (pads_at parts stacks place p pin number is)
    ≡ map net_at (pins_at parts stacks place component p pin is)
unfolding pad_item pin_of
pads_nets parts stacks place component p pin number [] = refl
pads_nets parts stacks place component p pin number (i ∷ is) =
    ap (λ ns. net_of_pin parts.network.nets (pin_ref place pin) ∷ ns)
    (pads_nets parts stacks place component p (plus pin 1) (plus number 1) is)

pads_count : (parts : Parts) (stacks : List Padstack) (place : ℕ) (p : Place) (pin number n m : ℕ) (is : List ImagePin)
    → n ≡ number → m ≡ number + length is → m ≤ 2 ^ 32 - 1 → Counts n (pads_at parts stacks place p pin number is) m
unfolding pad_item
pads_count parts stacks place p pin number n m [] e f few = omega arith
pads_count parts stacks place p pin number n m (i ∷ is) e f few =
    (sym e, pads_count parts stacks place p (plus pin 1) (plus number 1) (n + 1) m is (omega arith) (omega arith) few)

if_nets : (b : Bool) (items : List Item) (pins : List Pin) → pad_nets items ≡ map net_at pins
    → pad_nets (cond b items []) ≡ map net_at (cond b pins [])
if_nets true items pins h = h
if_nets false items pins h = refl

place_nets : (parts : Parts) (stacks : List Padstack) (place component number : ℕ) (p : Place)
    → pad_nets (place_items parts stacks place number p) ≡ map net_at (place_pins parts stacks place component p)
unfolding place_items place_pins
place_nets parts stacks place component number p =
    let is = image_pins parts.library p in
    let bans : List Item = map (placed_ban parts p) (image_bans parts.library p) in
    let pads = pads_at parts stacks place p 0 number is in
    if_nets (is_placed p) (bans ++ pads) (pins_at parts stacks place component p 0 is)
    (nets_append bans pads ∙ ap (λ ns. ns ++ pad_nets pads) (placed_bans_none parts p (image_bans parts.library p)).nets
    ∙ pads_nets parts stacks place component p 0 number is)

if_counts : (b : Bool) (number k : ℕ) (items : List Item) → (b ≡ true → Counts number items (plus number k))
    → Counts number (cond b items []) (cond b (plus number k) number)
if_counts true number k items h = h refl
if_counts false number k items h = refl

place_count : (parts : Parts) (stacks : List Padstack) (place number rest : ℕ) (p : Place)
    → number + (pin_count parts.library p + rest) ≤ 2 ^ 32 - 1
    → Counts number (place_items parts stacks place number p) (next_number parts number p)
unfolding place_items
place_count parts stacks place number rest p few =
    let is = image_pins parts.library p in
    let bans : List Item = map (placed_ban parts p) (image_bans parts.library p) in
    let pads = pads_at parts stacks place p 0 number is in
    if_counts (is_placed p) number (length is) (bans ++ pads)
    (λ b. let here : number + length is ≤ 2 ^ 32 - 1 =
    count_here (is_placed p) number (length is) rest (2 ^ 32 - 1) few b in
    counts_append number number (plus number (length is)) bans pads
    ((placed_bans_none parts p (image_bans parts.library p)).counts number)
    (pads_count parts stacks place p 0 number number (plus number (length is)) is refl (omega arith) (omega arith)))

items_nets : (parts : Parts) (stacks : List Padstack) (place component number : ℕ) (ps : List Place)
    → pad_nets (items_from parts stacks place number ps) ≡ map net_at (pins_from parts stacks place component ps)
items_nets parts stacks place component number [] = refl
items_nets parts stacks place component number (p ∷ ps) =
    let more = items_from parts stacks (plus place 1) (next_number parts number p) ps in
    let pins = pins_from parts stacks (plus place 1) (next_component component p) ps in
    nets_append (place_items parts stacks place number p) more
    ∙ ap (λ ns. ns ++ pad_nets more) (place_nets parts stacks place component number p)
    ∙ ap (λ ns. map net_at (place_pins parts stacks place component p) ++ ns)
    (items_nets parts stacks (plus place 1) (next_component component p) (next_number parts number p) ps)
    ∙ sym (map-append net_at (place_pins parts stacks place component p) pins)

count_behind : (b : Bool) (number k rest m : ℕ) → m ≡ number + (cond b k 0 + rest) → m ≤ 2 ^ 32 - 1
    → m ≡ cond b (plus number k) number + rest
count_behind true number k rest m e few = omega arith
count_behind false number k rest m e few = omega arith

items_count : (parts : Parts) (stacks : List Padstack) (place number m : ℕ) (ps : List Place)
    → m ≡ number + pins_in parts.library ps → m ≤ 2 ^ 32 - 1 → Counts number (items_from parts stacks place number ps) m
items_count parts stacks place number m [] e few = omega arith
items_count parts stacks place number m (p ∷ ps) e few =
    let next = next_number parts number p in
    counts_append number next m (place_items parts stacks place number p)
    (items_from parts stacks (plus place 1) next ps)
    (place_count parts stacks place number (pins_in parts.library ps) p (omega arith))
    (items_count parts stacks (plus place 1) next m ps
    (count_behind (is_placed p) number (length (image_pins parts.library p)) (pins_in parts.library ps) m e few)
    few)

-- ---- all fixed items
-- their pads are those of the pins, in order
record ArePads (parts : Parts) (stacks : List Padstack) : Type 0 where
  nets : pad_nets (counted_list parts stacks) ≡ map net_at (counted_pins parts stacks)
  counts : Counts 0 (counted_list parts stacks) (length (counted_pins parts stacks))

nets_around : (xs ys zs ws : List Item) → pad_nets xs ≡ [] → pad_nets ys ≡ [] → pad_nets ws ≡ []
    → pad_nets (xs ++ (ys ++ (zs ++ ws))) ≡ pad_nets zs
nets_around xs ys zs ws e f g =
    nets_append xs (ys ++ (zs ++ ws)) ∙ ap (λ ns. ns ++ pad_nets (ys ++ (zs ++ ws))) e
    ∙ nets_append ys (zs ++ ws) ∙ ap (λ ns. ns ++ pad_nets (zs ++ ws)) f
    ∙ nets_append zs ws ∙ ap (λ ns. pad_nets zs ++ ns) g ∙ append-nil (pad_nets zs)

are_pads : (parts : Parts) (stacks : List Padstack) → length (counted_pins parts stacks) ≤ 2 ^ 32 - 1
    → IsWiringSound parts.structure parts.library parts.network parts.wiring → ArePads parts stacks
unfolding fixed_wiring counted_pins
are_pads parts stacks few wires =
    let n = layer_count parts in
    let total = length (counted_pins parts stacks) in
    let kept = filter is_fixed parts.wiring.wires in
    let edges : List Item = map (edge_item n) parts.structure.bounds in
    let bans : List Item = map (ban_item n) parts.structure.bans in
    let placed = items_from parts stacks 0 0 parts.placing.places in
    let wired : List Item = map (wiring_item stacks) kept in
    let sound = IsWireSound parts.structure parts.library parts.network in
    let e = edges_none n parts.structure.bounds in
    let b = bans_none n parts.structure.bans in
    let w = wiring_none parts.structure parts.library parts.network stacks kept
    (All-filter is_fixed sound parts.wiring.wires wires.wires) in
    record {
      nets = nets_around edges bans placed wired e.nets b.nets w.nets
          ∙ items_nets parts stacks 0 0 0 parts.placing.places;
      counts = counts_append 0 0 total edges (bans ++ (placed ++ wired)) (e.counts 0)
          (counts_append 0 0 total bans (placed ++ wired) (b.counts 0)
          (counts_append 0 total total placed wired
          (items_count parts stacks 0 0 total parts.placing.places (omega (arith, pins_in_all parts stacks)) few)
          (w.counts total)));
    }

-- ---- a pad by its number
pad_metal : (a b : Item) (i : ℕ) → a ≡ b → b.metal ≡ Pad i → a.metal ≡ Pad i
pad_metal a b i e f = ap (λ (c : Item). c.metal) e ∙ f

next_more : (n : ℕ) (m : Metal) → n ≤ next_pad n m
next_more n (Wire layer width chain) = omega arith
next_more n (Via stack at) = omega arith
next_more n (Pad pin) = omega arith
next_more n (Ban wires vias) = omega arith

pad_after : (n m : ℕ) (xs : List Item) (j : ℕ) (a : Item) (i : ℕ) → Counts n xs m → slice_get xs j ≡ Some a
    → a.metal ≡ Pad i → n ≤ i
pad_after n m [] j a i h e f = absurd (cc)
pad_after n m (b ∷ xs) zero a i h e f = let is : i ≡ n = subst (IsNext n) (pad_metal b a i (same_Some b a e) f) h.0 in
    omega arith
pad_after n m (b ∷ xs) (suc j) a i h e f = let l = pad_after (next_pad n b.metal) m xs j a i h.1 e f in
    omega (arith, next_more n b.metal)

-- the first of these items is a pad, and another has its number
twice : (n m : ℕ) (b : Item) (xs : List Item) (k : ℕ) (a c : Item) (i : ℕ) → Counts n (b ∷ xs) m → b ≡ a
    → slice_get xs k ≡ Some c → a.metal ≡ Pad i → c.metal ≡ Pad i → ⊥
twice n m b xs k a c i h e f g o =
    let pad : b.metal ≡ Pad i = pad_metal b a i e g in
    let is : i ≡ n = subst (IsNext n) pad h.0 in
    let behind : Counts (n + 1) xs m = subst (λ t. Counts (next_pad n t) xs m) pad h.1 in
    let l : n + 1 ≤ i = pad_after (n + 1) m xs k c i behind f o in
    omega arith

same_place : (n m : ℕ) (xs : List Item) (j k : ℕ) (a b : Item) (i : ℕ) → Counts n xs m → slice_get xs j ≡ Some a
    → slice_get xs k ≡ Some b → a.metal ≡ Pad i → b.metal ≡ Pad i → j ≡ k
same_place n m [] j k a b i h e f g o = absurd (cc)
same_place n m (c ∷ xs) zero zero a b i h e f g o = refl
same_place n m (c ∷ xs) zero (suc k) a b i h e f g o = absurd (twice n m c xs k a b i h (same_Some c a e) f g o)
same_place n m (c ∷ xs) (suc j) zero a b i h e f g o = absurd (twice n m c xs j b a i h (same_Some c b f) e o g)
same_place n m (c ∷ xs) (suc j) (suc k) a b i h e f g o =
    ap suc (same_place (next_pad n c.metal) m xs j k a b i h.1 e f g o)

-- of pads that are numbered from n on, the i-th
record IsPadAt (xs : List Item) (n i : ℕ) (net : Option ℕ) : Type 0 where
  k : ℕ
  pad : Item
  there : slice_get xs k ≡ Some pad
  is : pad.metal ≡ Pad (n + i)
  net_is : pad.net ≡ net

abbrev Finds : List Item → ℕ → Option ℕ → Type 0
Finds xs n net = (j : ℕ) → slice_get (pad_nets xs) j ≡ Some net → IsPadAt xs n j net

behind_it : (a : Item) (xs : List Item) (n i : ℕ) (net : Option ℕ) → IsPadAt xs n i net → IsPadAt (a ∷ xs) n i net
behind_it a xs n i net w = record { k = suc w.k; pad = w.pad; there = w.there; is = w.is; net_is = w.net_is }

pad_by : (m : Metal) (n : ℕ) (a : Item) (xs : List Item) (i : ℕ) (net : Option ℕ) → a.metal ≡ m → IsNext n m
    → Finds xs (next_pad n m) net → slice_get (net_before m a.net (pad_nets xs)) i ≡ Some net → IsPadAt (a ∷ xs) n i net
pad_by (Wire layer width chain) n a xs i net f h finds e = behind_it a xs n i net (finds i e)
pad_by (Via stack at) n a xs i net f h finds e = behind_it a xs n i net (finds i e)
pad_by (Ban wires vias) n a xs i net f h finds e = behind_it a xs n i net (finds i e)
pad_by (Pad pin) n a xs zero net f h finds e = let o : pin ≡ n + 0 = omega arith in
    record { k = 0; pad = a; there = refl; is = f ∙ ap Pad o; net_is = same_Some a.net net e }
pad_by (Pad pin) n a xs (suc i) net f h finds e =
    let w = finds i e in
    let o : n + 1 + i ≡ n + suc i = omega arith in
    record { k = suc w.k; pad = w.pad; there = w.there; is = w.is ∙ ap Pad o; net_is = w.net_is }

pad_there : (n m : ℕ) (xs : List Item) (i : ℕ) (net : Option ℕ) → Counts n xs m → slice_get (pad_nets xs) i ≡ Some net
    → IsPadAt xs n i net
pad_there n m [] i net h e = absurd (cc)
pad_there n m (a ∷ xs) i net h e =
    pad_by a.metal n a xs i net refl h.0 (λ j f. pad_there (next_pad n a.metal) m xs j net h.1 f) e

-- ---- the whole
contains_it : (xs : List Item) (k : ℕ) (x : Item) → slice_get xs k ≡ Some x → Contains xs x
contains_it xs k x e = (k, slice_get_within xs k x e, get_or_from_slice_get xs k x x e)

-- one of the numbered items is the pad of pin i
one_pad : (d : Design) (items : List Item) (total i : ℕ) (p : Pin) → d.fixed ≡ numbered_from 0 items
    → Counts 0 items total → slice_get (pad_nets items) i ≡ Some p.net → HasOnePad d i p
one_pad d items total i p fixed counts e =
    let w = pad_there 0 total items i p.net counts e in
    let n : 0 + i ≡ i = omega arith in
    let is : w.pad.metal ≡ Pad i = w.is ∙ ap Pad n in
    record {
      pad = with_id (0 + w.k) w.pad;
      there = subst (λ xs. Contains xs (with_id (0 + w.k) w.pad)) (sym fixed)
          (contains_it (numbered_from 0 items) w.k (with_id (0 + w.k) w.pad) (item_there 0 items w.k w.pad w.there));
      is_pad = is;
      net_is = w.net_is;
      only = λ b c f.
          let g : Contains (numbered_from 0 items) b = subst (λ xs. Contains xs b) fixed c in
          let at : slice_get (numbered_from 0 items) g.0 ≡ Some b = slice_get-get_or (numbered_from 0 items) g.0 b g.1
          ∙ ap (λ (x : Item). Some x) g.2 in
          let v = item_at 0 items g.0 b at in
          let same : g.0 ≡ w.k = same_place 0 total items g.0 w.k v.from w.pad i counts v.there w.there
          (pad_metal (with_id (0 + g.0) v.from) b i v.is f) is in
          sym (ap (λ (x : Item). x.id) v.is) ∙ ap (λ k. 0 + k) same;
    }

pins_are : (parts : Parts) (stacks : List Padstack) → (counted_from parts stacks).pins ≡ counted_pins parts stacks
unfolding design_with
pins_are parts stacks = refl

-- just one fixed item is the pad of pin i, and it has the pin's net
pub pads_sound : (parts : Parts) (stacks : List Padstack) → IsPlacingSound parts.structure parts.library parts.placing
    → IsWiringSound parts.structure parts.library parts.network parts.wiring → (i : ℕ) (p : Pin)
    → slice_get (counted_from parts stacks).pins i ≡ Some p → HasOnePad (counted_from parts stacks) i p
pads_sound parts stacks placing wires i p e =
    let pads = are_pads parts stacks (omega (arith, pins_count parts stacks, placing.few_pins)) wires in
    let at : slice_get (counted_pins parts stacks) i ≡ Some p = ap (λ ps. slice_get ps i) (sym (pins_are parts stacks))
    ∙ e in
    let net : slice_get (pad_nets (counted_list parts stacks)) i ≡ Some p.net = ap (λ ns. slice_get ns i) pads.nets
    ∙ slice_get-map net_at (counted_pins parts stacks) i ∙ ap (option_map net_at) at in
    one_pad (counted_from parts stacks) (counted_list parts stacks) (length (counted_pins parts stacks)) i p
    (counted_list_is parts stacks) pads.counts net
