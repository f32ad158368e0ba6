-- What a component puts on the board: placed points, spines and shapes, the copper of its pins and its keepouts.
use Rattle.std.specs.Prelude.{◌+◌, ◌*◌, ◌/◌, ◌%◌, ◌^◌, ◌<◌, ◌&&◌, ℕ, zero, suc, Bool, List, [], ◌∷◌, Option, Some, None}
use Rattle.std.specs.Prelude.{IfSome, is_some, slice_get, unwrap_or, if◌then◌else◌}
use Rattle.std.specs.List.{list_all}
use Rattle.std.specs.Option.{option_map, option_map_or}
use Rattle.geo_kernel.specs.declared.point.Point.{Point}
use Rattle.geo_kernel.specs.declared.spine.Spine.{Spine}
use Rattle.geo_kernel.specs.declared.spine.Spine.TheVariants.{Chain, Area}
use Rattle.geo_kernel.specs.Moved.{moved}
use Rattle.geo_kernel.specs.Plane.{IsWithin}
use Rattle.dsn_units.specs.Turn.{turned}
use Rattle.pcb_model.specs.Sound.{origin}
use Rattle.dsn_shapes.specs.declared.parts.LayerShape.{LayerShape}
use Rattle.dsn_shapes.specs.declared.parts.BanShape.{BanShape}
use Rattle.dsn_shapes.specs.declared.parts.Stack.{Stack}
use Rattle.dsn_shapes.specs.declared.parts.ImagePin.{ImagePin}
use Rattle.dsn_shapes.specs.declared.parts.Image.{Image}
use Rattle.dsn_shapes.specs.declared.parts.Place.{Place}
use Rattle.dsn_placement.specs.declared.seat.Stand.{Stand}
use Rattle.dsn_placement.specs.declared.seat.Mount.{Mount}
use Rattle.dsn_placement.specs.declared.seat.Seat.{Seat}
use Rattle.dsn_placement.specs.Placed.{placed_point}

-- ---- points
-- a point of a padstack in the pin's image: turned by the pin's angle, plus the pin's place
abbrev pub mounted : Mount → Point → Point
mounted m p = moved m.at (turned m.angle p)

-- a point of a pin's padstack, or a point of the image itself, in the image
abbrev pub in_image : Option Mount → Point → Point
in_image None p = p
in_image (Some m) p = mounted m p

-- the placed point, where no coordinate passes 2 ^ 29
unfoldable pub seat_point : Seat → Point → Option Point
seat_point s p = placed_point (in_image s.pin p) s.stand.back s.stand.flip_last s.stand.angle s.stand.at

-- ---- spines
abbrev pub with_first : {X : Type 0} → Option X → Option (List X) → Option (List X)
with_first None xs = None
with_first (Some x) None = None
with_first (Some x) (Some xs) = Some (x ∷ xs)

-- what f gives for each of these, where it gives something for all of them
abbrev pub all_or_none : {X Y : Type 0} → (X → Option Y) → List X → Option (List Y)
all_or_none f [] = Some []
all_or_none f (x ∷ xs) = with_first (f x) (all_or_none f xs)

-- a spine with each vertex placed
unfoldable pub placed_spine : Seat → Spine → Option Spine
placed_spine seat (Chain ps) = option_map Chain (all_or_none (seat_point seat) ps)
placed_spine seat (Area loops) = option_map Area (all_or_none (all_or_none (seat_point seat)) loops)

-- ---- layers
-- a set of n layers upside down: layer i becomes layer n-1-i
abbrev pub turned_over : ℕ → ℕ → ℕ
turned_over zero layers = 0
turned_over (suc n) layers = (layers % 2) * 2 ^ n + turned_over n (layers / 2)

-- on the back the layers of a shape are turned over
abbrev pub layers_at : ℕ → Bool → ℕ → ℕ
layers_at n back layers = if back then turned_over n layers else layers

-- ---- shapes
abbrev pub on_layers : ℕ → ℕ → Spine → LayerShape
on_layers layers width spine = record { layers = layers; spine = spine; width = width }

-- a shape where it is placed on a board of n layers
unfoldable pub placed_shape : ℕ → Seat → LayerShape → Option LayerShape
placed_shape n seat s =
    option_map (on_layers (layers_at n seat.stand.back s.layers) s.width) (placed_spine seat s.spine)

-- ---- pins and keepouts
-- where a pin's padstack stands, and where what is of the image itself stands
abbrev pub pin_seat : Stand → ImagePin → Seat
pin_seat stand pin = record { pin = Some (record { at = pin.at; angle = pin.angle }); stand = stand }

abbrev pub bare_seat : Stand → Seat
bare_seat stand = record { pin = None; stand = stand }

-- the pin's own place
unfoldable pub pin_centre : Stand → ImagePin → Option Point
pin_centre stand pin = seat_point (bare_seat stand) pin.at

abbrev pub stack_shapes : List Stack → ImagePin → List LayerShape
stack_shapes stacks pin = option_map_or (λ (s : Stack). s.shapes) (slice_get stacks pin.stack) []

-- the copper of a pin: the shapes of its padstack
unfoldable pub pin_copper : ℕ → Stand → List Stack → ImagePin → Option (List LayerShape)
pin_copper n stand stacks pin = all_or_none (placed_shape n (pin_seat stand pin)) (stack_shapes stacks pin)

-- the shape of a keepout of the image
unfoldable pub ban_copper : ℕ → Stand → BanShape → Option LayerShape
ban_copper n stand ban = placed_shape n (bare_seat stand) ban.shape

-- each vertex of a spine has a placed point
abbrev pub is_spine_placed : Seat → Spine → Bool
is_spine_placed seat spine = is_some (placed_spine seat spine)

-- the pin's own place and each vertex of its padstack have a placed point
unfoldable pub is_pin_placed : Stand → List Stack → ImagePin → Bool
is_pin_placed stand stacks pin =
    is_some (pin_centre stand pin) && list_all (λ (s : LayerShape). is_spine_placed (pin_seat stand pin) s.spine)
    (stack_shapes stacks pin)

-- all of an image has its place on the board
unfoldable pub is_image_placed : Stand → List Stack → Image → Bool
is_image_placed stand stacks image = list_all (is_pin_placed stand stacks) image.pins
    && list_all (λ (ban : BanShape). is_spine_placed (bare_seat stand) ban.shape.spine) image.bans

-- ---- components that are read
-- where a component stands that is placed
abbrev pub stand_of : Bool → Place → Stand
stand_of flip_last p = record { at = unwrap_or p.at origin; back = p.back; flip_last = flip_last; angle = p.angle }

-- ---- bounds
-- the place has coordinates of at most 2 ^ 29 in absolute value, and the angle no whole turns
pub record IsMountWithin (m : Mount) : Type 0 where
  pub at : IsWithin (2 ^ 29) m.at
  pub angle : m.angle.microdegrees < 360000000

pub record IsStandWithin (s : Stand) : Type 0 where
  pub at : IsWithin (2 ^ 29) s.at
  pub angle : s.angle.microdegrees < 360000000

pub record IsSeatWithin (s : Seat) : Type 0 where
  pub pin : IfSome s.pin IsMountWithin
  pub stand : IsStandWithin s.stand
