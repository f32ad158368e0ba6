-- References of pins, such as `R1-2`: their splits at hyphens, and the pin that a split names.
use Rattle.std.specs.Prelude.{◌==◌, ℕ, List, [], ◌∷◌, ◌++◌, Option, Some, None, map, slice_get, if◌then◌else◌}
use Rattle.std.specs.Option.{option_to_list}
use Rattle.dsn_shapes.specs.declared.parts.Image.{Image}
use Rattle.dsn_shapes.specs.declared.parts.ImagePin.{ImagePin}
use Rattle.dsn_shapes.specs.declared.parts.Library.{Library}
use Rattle.dsn_shapes.specs.declared.parts.Place.{Place}
use Rattle.dsn_shapes.specs.declared.parts.Placing.{Placing}
use Rattle.dsn_shapes.specs.declared.parts.PinRef.{PinRef}
use Rattle.dsn_shapes.specs.declared.parts.Split.{Split}
use Rattle.dsn_shapes.specs.declared.parts.Split.TheVariants.{Unknown, One, Many}
use Rattle.dsn_shapes.specs.Names.{first_place, place_index}

-- ---- the pin that a split names
-- the names of components, and of pins
abbrev pub place_names : List Place → List (List ℕ)
place_names places = map (λ (p : Place). p.name) places

abbrev pub pin_names : List ImagePin → List (List ℕ)
pin_names pins = map (λ (p : ImagePin). p.name) pins

abbrev pub pin_ref : ℕ → ℕ → PinRef
pin_ref k j = record { place = place_index k; pin = place_index j }

-- pin j of component k
abbrev pub pin_among : ℕ → Option ℕ → Option PinRef
pin_among k None = None
pin_among k (Some j) = Some (pin_ref k j)

-- the pin of this name of component k, which has this image
abbrev pub pin_of_image : ℕ → List ℕ → Option Image → Option PinRef
pin_of_image k name None = None
pin_of_image k name (Some image) = pin_among k (first_place name (pin_names image.pins))

-- the pin of this name of component k, which is this one
abbrev pub pin_of_place : Library → ℕ → List ℕ → Option Place → Option PinRef
pin_of_place lib k name None = None
pin_of_place lib k name (Some place) = pin_of_image k name (slice_get lib.images place.image)

abbrev pub pin_at : Library → List Place → List ℕ → Option ℕ → Option PinRef
pin_at lib places name None = None
pin_at lib places name (Some k) = pin_of_place lib k name (slice_get places k)

-- the pin `name` of the component `component`
unfoldable pub pin_named : Library → Placing → List ℕ → List ℕ → Option PinRef
pin_named lib placing component name =
    pin_at lib placing.places name (first_place component (place_names placing.places))

-- ---- splits
-- the pins that are named by the splits of a text at its hyphens, where `front` stands before it
abbrev pub fits_from : (List ℕ → List ℕ → Option PinRef) → List ℕ → List ℕ → List PinRef
fits_from named front [] = []
fits_from named front (b ∷ text) =
    (if b == 45 then option_to_list (named front text) else []) ++ fits_from named (front ++ b ∷ []) text

-- no split fits, one, or several
abbrev pub split_by : List PinRef → Split
split_by [] = Unknown
split_by (p ∷ []) = One p
split_by (p ∷ (q ∷ ps)) = Many

-- the same with one more split that fits
abbrev pub with_fit : Split → PinRef → Split
with_fit Unknown p = One p
with_fit (One q) p = Many
with_fit Many p = Many

-- the splits that fit, where a split names a pin by `named`
unfoldable pub split_with : (List ℕ → List ℕ → Option PinRef) → List ℕ → Split
split_with named text = split_by (fits_from named [] text)

-- what the splits of a reference name
abbrev pub split_of : Library → Placing → List ℕ → Split
split_of lib placing text = split_with (pin_named lib placing) text
