-- Components, such as `(place R1 125000 -105000 front 0 (PN 10k))`: name, place, side and angle.
use Rattle.std.specs.Prelude.{◌+◌, ℕ, ℤ, Bool, true, false, List, [], ◌∷◌, ◌++◌, Option, Some, None, codes, is_some}
use Rattle.std.specs.Prelude.{length, map, slice_get, if◌then◌else◌}
use Rattle.std.specs.List.{flat_map}
use Rattle.std.specs.Option.{option_map_or}
use Rattle.dsn_tree.specs.declared.tree.Tree.{Tree}
use Rattle.geo_kernel.specs.declared.point.Point.{Point}
use Rattle.dsn_units.specs.declared.angle.Angle.{Angle}
use Rattle.dsn_shapes.specs.declared.refusal.Refusal.{Refusal}
use Rattle.dsn_shapes.specs.declared.parts.Image.{Image}
use Rattle.dsn_shapes.specs.declared.parts.Library.{Library}
use Rattle.dsn_shapes.specs.declared.parts.Stack.{Stack}
use Rattle.dsn_shapes.specs.declared.parts.Place.{Place}
use Rattle.dsn_shapes.specs.Refusals.{refused}
use Rattle.dsn_shapes.specs.Lists.{at_of, capped, lists, name_of, nth_word, place_of, quoted_name, says}
use Rattle.dsn_shapes.specs.Names.{first_place, place_index}
use Rattle.dsn_shapes.specs.Numbers.{coord_refusal, word_coord}
use Rattle.dsn_shapes.specs.Angles.{no_turn, word_angle, word_angle_refusal}
use Rattle.dsn_placement.specs.declared.seat.Stand.{Stand}
use Rattle.dsn_placement.specs.declared.place.Laid.{Laid}
use Rattle.dsn_placement.specs.Copper.{is_image_placed}
use Rattle.dsn_shapes.specs.declared.table.TheConstants.{BAD_FORM, NO_IMAGE, NO_NUMBER, OUT_OF_RANGE}

-- ---- the words of a component
-- one that has words behind its name has coordinates; without them it isn't placed
abbrev pub has_coordinates : Tree → Bool
has_coordinates t = is_some (nth_word t 2)

-- word i as a coordinate in nm
abbrev pub coord_word : ℕ → Tree → ℕ → Option ℤ
coord_word nm t i = option_map_or (word_coord nm) (nth_word t i) None

abbrev pub point_by : Option ℤ → Option ℤ → Option Point
point_by None y = None
point_by (Some x) None = None
point_by (Some x) (Some y) = Some (record { x = x; y = y })

-- the words 2 and 3
abbrev pub point_in : ℕ → Tree → Option Point
point_in nm t = point_by (coord_word nm t 2) (coord_word nm t 3)

abbrev pub point_refusals : ℕ → Tree → List Refusal
point_refusals nm t = coord_refusal nm t 2 ++ coord_refusal nm t 3

-- word 4: whether it is on the back
abbrev pub side_in : Tree → Option Bool
side_in t = if says t 4 (codes "front") then Some false else (if says t 4 (codes "back") then Some true else None)

abbrev pub side_refusal : Tree → List Refusal
side_refusal t = if is_some (side_in t) then [] else refused BAD_FORM (at_of t) ∷ []

-- word 5
abbrev pub angle_in : Tree → Option Angle
angle_in t = option_map_or word_angle (nth_word t 5) None

abbrev pub angle_refusal : Tree → List Refusal
angle_refusal t = option_map_or word_angle_refusal (nth_word t 5) (refused NO_NUMBER (at_of t) ∷ [])

abbrev pub turn_by : Bool → Point → Option Bool → Option Angle → Option Stand
turn_by flip_last at None angle = None
turn_by flip_last at (Some back) None = None
turn_by flip_last at (Some back) (Some angle) =
    Some (record { at = at; back = back; flip_last = flip_last; angle = angle })

abbrev pub stand_by : Bool → Option Point → Option Bool → Option Angle → Option Stand
stand_by flip_last None back angle = None
stand_by flip_last (Some at) back angle = turn_by flip_last at back angle

-- where a component stands, where none of its words is refused
unfoldable pub words_stand : ℕ → Bool → Tree → Option Stand
words_stand nm flip_last t = stand_by flip_last (point_in nm t) (side_in t) (angle_in t)

unfoldable pub words_refusals : ℕ → Tree → List Refusal
words_refusals nm t = point_refusals nm t ++ (side_refusal t ++ angle_refusal t)

unfoldable pub stand_in : ℕ → Bool → Tree → Option Stand
stand_in nm flip_last t = if has_coordinates t then words_stand nm flip_last t else None

unfoldable pub stand_refusals : ℕ → Tree → List Refusal
stand_refusals nm t = if has_coordinates t then words_refusals nm t else []

-- ---- images, by their names
abbrev pub image_names : Library → List (List ℕ)
image_names lib = map (λ (i : Image). i.name) lib.images

-- the image that a component list names
abbrev pub image_place : Library → Tree → Option ℕ
image_place lib c = first_place (name_of c 1) (image_names lib)

abbrev pub image_at : Library → Option ℕ → Option Image
image_at lib None = None
image_at lib (Some n) = slice_get lib.images n

-- its index
abbrev pub index_of : Option ℕ → ℕ
index_of None = 0
index_of (Some n) = place_index n

abbrev pub unknown_at : ℕ → Option ℕ → List Refusal
unknown_at at None = refused NO_IMAGE at ∷ []
unknown_at at (Some n) = []

-- how many pins, and how many items, a placed component has: an item for each keepout and each pin
abbrev pub pins_of : Option Image → ℕ
pins_of None = 0
pins_of (Some i) = length i.pins

abbrev pub items_of : Option Image → ℕ
items_of None = 0
items_of (Some i) = capped (length i.bans + length i.pins)

-- ---- a component of an image
-- it reaches past the end of the plane
abbrev pub far_refusal : ℕ → List Stack → Option Image → Option Stand → List Refusal
far_refusal at stacks None stand = []
far_refusal at stacks (Some image) None = []
far_refusal at stacks (Some image) (Some stand) = if is_image_placed stand stacks image then []
    else refused OUT_OF_RANGE at ∷ []

unfoldable pub place_refusals : ℕ → Bool → Library → Option ℕ → Tree → List Refusal
place_refusals nm flip_last lib image t =
    quoted_name t 1
    ++ (stand_refusals nm t ++ far_refusal (at_of t) lib.stacks (image_at lib image) (stand_in nm flip_last t))

abbrev pub place_by : List ℕ → ℕ → Option Stand → Place
place_by name image None = record { name = name; image = image; at = None; back = false; angle = no_turn }
place_by name image (Some s) = record { name = name; image = image; at = Some s.at; back = s.back; angle = s.angle }

abbrev pub counted_by : Bool → ℕ → ℕ
counted_by counts n = if counts then n else 0

-- the component, and what it adds to the pins and the items that are placed
unfoldable pub laid_of : ℕ → Bool → Library → Option ℕ → Tree → Laid
laid_of nm flip_last lib image t = record {
  place = place_by (name_of t 1) (index_of image) (stand_in nm flip_last t);
  at = at_of t;
  pins = counted_by (has_coordinates t) (pins_of (image_at lib image));
  items = counted_by (has_coordinates t) (items_of (image_at lib image));
}

-- ---- the components of a list such as `(component R (place R1 0 0 front 0))`
abbrev pub places_in : List Tree → List Tree
places_in cs = lists (codes "place" ∷ []) cs

unfoldable pub component_refusals : ℕ → Bool → Library → Tree → List Refusal
component_refusals nm flip_last lib c = unknown_at (place_of c 1) (image_place lib c)
    ++ flat_map (place_refusals nm flip_last lib (image_place lib c)) (places_in (c ∷ []))

unfoldable pub component_laid : ℕ → Bool → Library → Tree → List Laid
component_laid nm flip_last lib c = map (laid_of nm flip_last lib (image_place lib c)) (places_in (c ∷ []))
