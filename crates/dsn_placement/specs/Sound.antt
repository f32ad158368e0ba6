-- Sound placings: components whose names differ and can be printed, and which stand whole on the board.
use Rattle.std.specs.Prelude.{◌≡◌, ◌≢◌, ◌<◌, ◌≤◌, ◌^◌, ℕ, Bool, true, All, AllPairs, IfSome, is_some, length, slice_get}
use Rattle.std.specs.Prelude.{sum_by}
use Rattle.std.specs.Option.{IsSomeAnd}
use Rattle.geo_kernel.specs.declared.point.Point.{Point}
use Rattle.geo_kernel.specs.Plane.{IsWithin}
use Rattle.pcb_model.specs.Sound.{IsPrintable}
use Rattle.dsn_shapes.specs.declared.parts.Image.{Image}
use Rattle.dsn_shapes.specs.declared.parts.Library.{Library}
use Rattle.dsn_shapes.specs.declared.parts.Place.{Place}
use Rattle.dsn_shapes.specs.declared.parts.Placing.{Placing}
use Rattle.dsn_shapes.specs.declared.parts.Structure.{Structure}
use Rattle.dsn_placement.specs.Copper.{is_image_placed, stand_of}
use Rattle.dsn_placement.specs.Places.{counted_by, pins_of}
use Rattle.pcb_model.specs.declared.limits.TheConstants.{MOST_PINS}

-- each image's place in the library is an index of 32 bits
pub record HasFewImages (lib : Library) : Type 0 where
  pub images : length lib.images ≤ 2 ^ 32

-- all of the component's image has its place on the board
abbrev pub StandsWhole : Bool → Library → Place → Type 0
StandsWhole flip_last lib p =
    IsSomeAnd (slice_get lib.images p.image) (λ (i : Image). is_image_placed (stand_of flip_last p) lib.stacks i ≡ true)

-- its image is one of the library; its place is within 2 ^ 29, and its angle has no whole turns
pub record IsPlaceSound (flip_last : Bool) (lib : Library) (p : Place) : Type 0 where
  pub name : IsPrintable p.name
  pub image : p.image < length lib.images
  pub at : IfSome p.at (IsWithin (2 ^ 29))
  pub angle : p.angle.microdegrees < 360000000
  pub whole : IfSome p.at (λ (at : Point). StandsWhole flip_last lib p)

-- how many pins of the component are placed
abbrev pub placed_pins : Library → Place → ℕ
placed_pins lib p = counted_by (is_some p.at) (pins_of (slice_get lib.images p.image))

-- the names of components differ, and their placed pins are together at most as many as a design may have
pub record IsPlacingSound (st : Structure) (lib : Library) (placing : Placing) : Type 0 where
  pub places : All (IsPlaceSound st.flip_last lib) placing.places
  pub names : AllPairs (λ (a b : Place). a.name ≢ b.name) placing.places
  pub few_pins : sum_by (placed_pins lib) placing.places ≤ MOST_PINS
