-- Looking a pin up by its component and its name, step by step.
use Rattle.std.proofs.Common.{◌≡◌, ◌∙◌, ◌<◌, ◌≤◌, ap, sym, ℕ, List, Option, Some, None, refl, arith, false, get_or}
use Rattle.std.proofs.Common.{length, nat_lt}
use Rattle.std.proofs.lemmas.Bool.Decides.{nat_tests}
use Rattle.std.specs.Prelude.{map, slice_get}
use Rattle.std.specs.Option.{option_map}
use Rattle.std.proofs.lemmas.Option.{slice_get-map, slice_get-get_or, slice_get_past}
use Rattle.dsn_shapes.specs.declared.parts.Image.{Image}
use Rattle.dsn_shapes.specs.declared.parts.Library.{Library}
use Rattle.dsn_shapes.specs.declared.parts.Place.{Place}
use Rattle.dsn_shapes.specs.declared.parts.Placing.{Placing}
use Rattle.dsn_shapes.specs.Names.{first_place}
use Rattle.dsn_network.specs.Splits.{pin_among, pin_at, pin_named, pin_names, pin_of_image, pin_of_place, place_names}

-- the names of an image's pins
abbrev pub names_in : Image → List (List ℕ)
names_in image = pin_names image.pins

past : (i n : ℕ) → false ≡ nat_lt i n → n ≤ i
past i n e = grind (arith, nat_tests)

-- what the index of an image's names says of the image
image_none : (image : Option Image) → option_map names_in image ≡ None → image ≡ None
image_none None e = refl
image_none (Some i) e = absurd (cc)

of_image : (k : ℕ) (name : List ℕ) (image : Option Image) (names : List (List ℕ))
    → option_map names_in image ≡ Some names → pin_of_image k name image ≡ pin_among k (first_place name names)
of_image k name None names e = absurd (cc)
of_image k name (Some i) names e = ap (λ (ns : List (List ℕ)). pin_among k (first_place name ns)) (inner e)
  where
    inner : {A : Type 0} {a b : A} → Some a ≡ Some b → a ≡ b
    inner e = cc

module _ (lib : Library) (placing : Placing) (component name : List ℕ) (names : List (List ℕ)) (k : Option ℕ)
    (by_place : names ≡ place_names placing.places) (found : k ≡ first_place component names) where
  named : pin_named lib placing component name ≡ pin_at lib placing.places name k
  unfolding pin_named
  named = ap (pin_at lib placing.places name) (sym (found ∙ ap (first_place component) by_place))

  -- no component has the name
  pub no_component : k ≡ None → None ≡ pin_named lib placing component name
  no_component e = sym (named ∙ ap (pin_at lib placing.places name) e)

  module _ (i : ℕ) (at : k ≡ Some i) where
    named_at : (place : Option Place) → slice_get placing.places i ≡ place
        → pin_named lib placing component name ≡ pin_of_place lib i name place
    named_at place e = named ∙ ap (pin_at lib placing.places name) at ∙ ap (pin_of_place lib i name) e

    pub no_place : slice_get placing.places i ≡ None → None ≡ pin_named lib placing component name
    no_place e = sym (named_at None e)

    module _ (place : Place) (is : Some place ≡ slice_get placing.places i) (images : List (List (List ℕ)))
        (by_image : images ≡ map names_in lib.images) where
      got : slice_get images place.image ≡ option_map names_in (slice_get lib.images place.image)
      got = ap (λ l. slice_get l place.image) by_image ∙ slice_get-map names_in lib.images place.image

      -- the component's image isn't there
      pub no_image : false ≡ nat_lt place.image (length images) → None ≡ pin_named lib placing component name
      no_image e =
          sym (named_at (Some place) (sym is) ∙ ap (pin_of_image i name) (image_none (slice_get lib.images place.image)
          (sym got ∙ slice_get_past images place.image (past place.image (length images) e))))

      -- the pin of its image that has the name, if one has
      pub pin_there : (pins : List (List ℕ)) (j : Option ℕ) → place.image < length images
          → pins ≡ get_or images place.image pins → j ≡ first_place name pins
          → pin_among i j ≡ pin_named lib placing component name
      pin_there pins j h e f =
          ap (pin_among i) f
          ∙ sym (named_at (Some place) (sym is) ∙ of_image i name (slice_get lib.images place.image) pins
          (sym got ∙ slice_get-get_or images place.image pins h ∙ ap Some (sym e)))
