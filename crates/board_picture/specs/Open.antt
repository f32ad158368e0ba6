-- The open connections of a board: from each island of a net to the net's next one.
use Rattle.std.specs.Prelude.{◌≡◌, ℕ, List, [], ◌∷◌, Some, length, flat_map, slice_get}
use Rattle.std.specs.Option.{option_map_or}
use Rattle.geo_kernel.specs.declared.point.Point.{Point}
use Rattle.pcb_model.specs.declared.item.Item.{Item}
use Rattle.pcb_model.specs.declared.design.Pin.{Pin}
use Rattle.pcb_model.specs.declared.design.Design.{Design}
use Rattle.pcb_model.specs.Sound.{origin}
use Rattle.pcb_islands.specs.declared.net.Island.{Island}
use Rattle.pcb_islands.specs.Islands.{AreIslands}
use Rattle.board_picture.specs.declared.open.OpenLine.{OpenLine}

abbrev pub centre_of : Design → ℕ → Point
centre_of d pin = option_map_or (λ (p : Pin). p.centre) (slice_get d.pins pin) origin

-- the centre of the island's first pin
abbrev pub island_place : Design → Island → Point
island_place d s = option_map_or (centre_of d) (slice_get s.pins 0) origin

abbrev pub line_between : Design → Island → Island → OpenLine
line_between d s t = record { net = s.net; from = island_place d s; to = island_place d t }

-- an island, and those that come behind it
abbrev pub lines_from : Design → Island → List Island → List OpenLine
lines_from d s [] = []
lines_from d s (t ∷ rest) = line_between d s t ∷ lines_from d t rest

abbrev pub lines_of : Design → List Island → List OpenLine
lines_of d [] = []
lines_of d (s ∷ rest) = lines_from d s rest

-- the lines of the first n nets
pub record AreOpenUpTo (d : Design) (items : List Item) (n : ℕ) (lines : List OpenLine) : Type 0 where
  pub found : List (List Island)
  pub found_all : length found ≡ n
  pub islands : (net : ℕ) (own : List Island) → slice_get found net ≡ Some own → AreIslands d items net own
  pub lines_are : lines ≡ flat_map (lines_of d) found

-- those of all nets, in the design's order
abbrev pub AreOpenLines : Design → List Item → List OpenLine → Type 0
AreOpenLines d items lines = AreOpenUpTo d items (length d.nets) lines
