-- The components of sound sections are sound, and so are their pins.
use Rattle.std.proofs.Common.{◌≡◌, ◌≢◌, ◌<◌, ◌≤◌, ◌+◌, ◌++◌, ◌^◌, ap, subst, ℕ, suc, cond, Bool, true, false, List, []}
use Rattle.std.proofs.Common.{◌∷◌, Option, Some, None, length, map, fold, refl, arith}
use Rattle.std.specs.Prelude.{All, AllPairs, IfSome, filter, slice_get, sum_by, unwrap_or}
use Rattle.std.specs.Option.{option_map, option_map_or}
use Rattle.std.proofs.lemmas.List.{length-append, length-map}
use Rattle.std.proofs.lemmas.List.Elements.{All-append, All-cons, All-filter, All-map, All-nil, All-weaker}
use Rattle.std.proofs.lemmas.List.Kept.{AllPairs-filter}
use Rattle.geo_kernel.specs.declared.point.Point.{Point}
use Rattle.geo_kernel.specs.Plane.{IsWithin}
use Rattle.pcb_model.specs.declared.design.Component.{Component}
use Rattle.pcb_model.specs.declared.design.Padstack.{Padstack}
use Rattle.pcb_model.specs.declared.design.Pin.{Pin}
use Rattle.pcb_model.specs.Sound.{IsComponentSound, IsPrintable, origin}
use Rattle.pcb_model.proofs.Within.{All-at}
use Rattle.dsn_shapes.specs.declared.parts.Image.{Image}
use Rattle.dsn_shapes.specs.declared.parts.ImagePin.{ImagePin}
use Rattle.dsn_shapes.specs.declared.parts.Library.{Library}
use Rattle.dsn_shapes.specs.declared.parts.Place.{Place}
use Rattle.dsn_shapes.specs.declared.parts.PinRef.{PinRef}
use Rattle.dsn_shapes.specs.declared.parts.ReadNet.{ReadNet}
use Rattle.dsn_shapes.proofs.Fits.{pairs_to_map, place_below}
use Rattle.dsn_placement.specs.Copper.{pin_centre, stand_of}
use Rattle.dsn_placement.specs.Places.{counted_by, pins_of as pins_placed}
use Rattle.dsn_placement.specs.Sound.{IsPlaceSound, placed_pins}
use Rattle.dsn_placement.proofs.Fits.{centre_within}
use Rattle.dsn_network.specs.Nets.{first_net, has_pin}
use Rattle.dsn_network.specs.Owners.{pins_of}
use Rattle.dsn_shapes.specs.Names.{place_index}
use Rattle.dsn_design.specs.declared.parts.Parts.{Parts}
use Rattle.dsn_design.specs.Counts.{counted_components, counted_pins, next_component, pins_at, pins_from, place_pins}
use Rattle.dsn_design.specs.Counts.{plus}
use Rattle.dsn_design.specs.Pins.{centre_of, component_of, image_pins, is_placed, net_of_pin, pin_of, pin_ref}
use Rattle.dsn_design.specs.Pins.{placed_as, placed_pin}

-- ---- points that are given or else the origin
or_origin : (o : Option Point) → ((q : Point) → o ≡ Some q → IsWithin (2 ^ 29) q)
    → IsWithin (2 ^ 29) (unwrap_or o origin)
or_origin None h = (omega arith, omega arith)
or_origin (Some q) h = h q refl

at_given : (o : Option Point) → IfSome o (IsWithin (2 ^ 29)) → (q : Point) → o ≡ Some q → IsWithin (2 ^ 29) q
at_given o h q e = let P : Option Point → Type 0 = λ a. IfSome a (IsWithin (2 ^ 29)) in subst P e h

-- ---- components
component_sound : (flip_last : Bool) (lib : Library) (p : Place) → IsPlaceSound flip_last lib p
    → IsComponentSound (component_of lib p)
component_sound flip_last lib p h = record { within = or_origin p.at (at_given p.at h.at); angle = h.angle }

pub components_sound : (flip_last : Bool) (lib : Library) (places : List Place)
    → All (IsPlaceSound flip_last lib) places → All IsComponentSound (counted_components lib places)
unfolding counted_components
components_sound flip_last lib places h =
    All-map IsComponentSound (component_of lib) (filter is_placed places)
    (All-weaker (IsPlaceSound flip_last lib) (λ p. IsComponentSound (component_of lib p))
    (component_sound flip_last lib) (filter is_placed places)
    (All-filter is_placed (IsPlaceSound flip_last lib) places h))

pub components_differ : (lib : Library) (places : List Place) → AllPairs (λ (a b : Place). a.name ≢ b.name) places
    → AllPairs (λ (a b : Component). a.name ≢ b.name) (counted_components lib places)
unfolding counted_components
components_differ lib places h =
    pairs_to_map (λ (a b : Component). a.name ≢ b.name) (component_of lib) (filter is_placed places)
    (AllPairs-filter (λ (a b : Place). a.name ≢ b.name) is_placed places h)

name_at : (o : Option Image) → IfSome o (λ (i : Image). IsPrintable i.name)
    → IsPrintable (option_map_or (λ (i : Image). i.name) o [])
name_at None h = All-nil (λ b. b ≢ 34)
name_at (Some i) h = h

abbrev IsNamed : Component → Type 0
IsNamed c = IsPrintable c.name × IsPrintable c.image

pub components_printable : (flip_last : Bool) (lib : Library) (places : List Place)
    → All (λ (i : Image). IsPrintable i.name) lib.images → All (IsPlaceSound flip_last lib) places
    → All (λ (c : Component). IsPrintable c.name × IsPrintable c.image) (counted_components lib places)
unfolding counted_components
components_printable flip_last lib places images h =
    All-map IsNamed (component_of lib) (filter is_placed places)
    (All-weaker (IsPlaceSound flip_last lib) (λ p. IsNamed (component_of lib p))
    (λ p k. (
      k.name,
      name_at (slice_get lib.images p.image)
          (All-at (λ (i : Image). IsPrintable i.name) lib.images p.image images),
    )) (filter is_placed places)
    (All-filter is_placed (IsPlaceSound flip_last lib) places h))

kept_few : {X : Type 0} (b : Bool) (x : X) (xs ys : List X) → length ys ≤ length xs
    → length (cond b (x ∷ ys) ys) ≤ length (x ∷ xs)
kept_few true x xs ys h = omega arith
kept_few false x xs ys h = omega arith

pub filter_few : {X : Type 0} (test : X → Bool) (xs : List X) → length (filter test xs) ≤ length xs
filter_few test [] = omega arith
filter_few test (x ∷ xs) = kept_few (test x) x xs (filter test xs) (filter_few test xs)

pub components_few : (lib : Library) (places : List Place) → length (counted_components lib places) ≤ length places
unfolding counted_components
components_few lib places =
    omega (arith, length-map (filter is_placed places) (component_of lib), filter_few is_placed places)

-- ---- how many pins there are
pins_at_count : (parts : Parts) (stacks : List Padstack) (place component : ℕ) (p : Place) (pin : ℕ)
    (is : List ImagePin) → length (pins_at parts stacks place component p pin is) ≡ length is
pins_at_count parts stacks place component p pin [] = refl
pins_at_count parts stacks place component p pin (i ∷ is) =
    ap suc (pins_at_count parts stacks place component p (plus pin 1) is)

place_counted : (b : Bool) (o : Option Image) (pins : List Pin)
    → length pins ≡ length (option_map_or (λ (i : Image). i.pins) o [])
    → length (cond b pins []) ≡ counted_by b (pins_placed o)
place_counted true None pins h = h
place_counted true (Some i) pins h = h
place_counted false o pins h = refl

place_pins_count : (parts : Parts) (stacks : List Padstack) (place component : ℕ) (p : Place)
    → length (place_pins parts stacks place component p) ≡ placed_pins parts.library p
unfolding place_pins
place_pins_count parts stacks place component p =
    place_counted (is_placed p) (slice_get parts.library.images p.image)
    (pins_at parts stacks place component p 0 (image_pins parts.library p))
    (pins_at_count parts stacks place component p 0 (image_pins parts.library p))

pins_from_count : (parts : Parts) (stacks : List Padstack) (n place component : ℕ) (ps : List Place)
    → n + length (pins_from parts stacks place component ps) ≡ fold (λ a p. a + placed_pins parts.library p) n ps
pins_from_count parts stacks n place component [] = omega arith
pins_from_count parts stacks n place component (p ∷ ps) =
    let here = place_pins_count parts stacks place component p in
    let more = pins_from_count parts stacks (n + placed_pins parts.library p) (plus place 1)
    (next_component component p) ps in
    omega (
      arith,
      here,
      more,
      length-append (place_pins parts stacks place component p)
          (pins_from parts stacks (plus place 1) (next_component component p) ps),
    )

-- as many as the placement counts
pub pins_count : (parts : Parts) (stacks : List Padstack) → length (counted_pins parts stacks)
    ≡ sum_by (placed_pins parts.library) parts.placing.places
unfolding counted_pins
pins_count parts stacks = omega (arith, pins_from_count parts stacks 0 0 0 parts.placing.places)

-- ---- pins
-- of a design with this many components and nets
pub record IsPinOf (components nets : ℕ) (p : Pin) : Type 0 where
  pub within : IsWithin (2 ^ 29) p.centre
  pub component_in_range : p.component < components
  pub net_in_range : IfSome p.net (λ n. n < nets)

centre_near : (flip_last : Bool) (p : Place) (i : ImagePin) → IsWithin (2 ^ 29) (centre_of flip_last p i)
unfolding centre_of
centre_near flip_last p i = or_origin (pin_centre (stand_of flip_last p) i) (centre_within (stand_of flip_last p) i)

index_below : (o : Option ℕ) (n : ℕ) → ((k : ℕ) → o ≡ Some k → k < n) → IfSome (option_map place_index o) (λ m. m < n)
index_below None n h = tt
index_below (Some k) n h = let f : k < n = h k refl in omega arith

pub net_below : (nets : List ReadNet) (r : PinRef) → IfSome (net_of_pin nets r) (λ n. n < length nets)
unfolding net_of_pin first_net
net_below nets r =
    index_below (first_net r (pins_of nets)) (length nets)
    (λ k e. omega (arith, place_below (has_pin r) (pins_of nets) 0 k e, length-map nets (λ (n : ReadNet). n.pins)))

pin_is_of : (parts : Parts) (stacks : List Padstack) (components place component : ℕ) (p : Place) (pin : ℕ)
    (i : ImagePin) → component < components
    → IsPinOf components (length parts.network.nets)
    (pin_of parts stacks (placed_pin (placed_as (component, (place, p))) (pin, i)))
unfolding pin_of
pin_is_of parts stacks components place component p pin i h =
    record {
      within = centre_near parts.structure.flip_last p i;
      component_in_range = h;
      net_in_range = net_below parts.network.nets (pin_ref place pin);
    }

pins_at_of : (parts : Parts) (stacks : List Padstack) (components place component : ℕ) (p : Place) (pin : ℕ)
    (is : List ImagePin) → component < components
    → All (IsPinOf components (length parts.network.nets)) (pins_at parts stacks place component p pin is)
pins_at_of parts stacks components place component p pin [] h = All-nil (IsPinOf components (length parts.network.nets))
pins_at_of parts stacks components place component p pin (i ∷ is) h =
    All-cons (IsPinOf components (length parts.network.nets))
    (pin_of parts stacks (placed_pin (placed_as (component, (place, p))) (pin, i)))
    (pins_at parts stacks place component p (plus pin 1) is)
    (pin_is_of parts stacks components place component p pin i h)
    (pins_at_of parts stacks components place component p (plus pin 1) is h)

-- of a component that is placed or not, with those behind it
pins_with : (b : Bool) (P : Pin → Type 0) (components component : ℕ) (p : Place) (rest : List Place)
    (here more : List Pin) → component + length (cond b (p ∷ rest) rest) ≤ components
    → (component < components → All P here)
    → ((next : ℕ) → next ≡ cond b (plus component 1) component → next + length rest ≤ components → All P more)
    → All P (cond b here [] ++ more)
pins_with true P components component p rest here more h first behind =
    All-append P here more (first (omega arith)) (behind (plus component 1) refl (omega arith))
pins_with false P components component p rest here more h first behind = behind component refl h

pins_from_of : (parts : Parts) (stacks : List Padstack) (components place component : ℕ) (ps : List Place)
    → component + length (filter is_placed ps) ≤ components
    → All (IsPinOf components (length parts.network.nets)) (pins_from parts stacks place component ps)
unfolding place_pins
pins_from_of parts stacks components place component [] h = All-nil (IsPinOf components (length parts.network.nets))
pins_from_of parts stacks components place component (p ∷ ps) h =
    pins_with (is_placed p) (IsPinOf components (length parts.network.nets)) components component p
    (filter is_placed ps)
    (pins_at parts stacks place component p 0 (image_pins parts.library p))
    (pins_from parts stacks (plus place 1) (next_component component p) ps) h
    (λ k. pins_at_of parts stacks components place component p 0 (image_pins parts.library p) k)
    (λ next e k. pins_from_of parts stacks components (plus place 1) (next_component component p) ps
    (subst (λ c. c + length (filter is_placed ps) ≤ components) e k))

pub pins_are_of : (parts : Parts) (stacks : List Padstack)
    → All (IsPinOf (length (counted_components parts.library parts.placing.places)) (length parts.network.nets))
    (counted_pins parts stacks)
unfolding counted_pins counted_components
pins_are_of parts stacks =
    pins_from_of parts stacks (length (map (component_of parts.library) (filter is_placed parts.placing.places))) 0 0
    parts.placing.places
    (omega (arith, length-map (filter is_placed parts.placing.places) (component_of parts.library)))
