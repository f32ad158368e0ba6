-- How many items stand before the wiring.
use Rattle.std.specs.Prelude.{◌+◌, ℕ, List, length, slice_get, sum_by}
use Rattle.std.specs.Option.{option_map_or}
use Rattle.dsn_shapes.specs.declared.parts.Image.{Image}
use Rattle.dsn_shapes.specs.declared.parts.Library.{Library}
use Rattle.dsn_shapes.specs.declared.parts.Place.{Place}
use Rattle.dsn_shapes.specs.declared.parts.Placing.{Placing}
use Rattle.dsn_shapes.specs.declared.parts.Structure.{Structure}

-- the pins and keepouts of an image
abbrev pub image_items : Image → ℕ
image_items i = length i.pins + length i.bans

-- those of a component that is placed
abbrev pub place_items : List Image → Place → ℕ
place_items images p = option_map_or (λ at. option_map_or image_items (slice_get images p.image) 0) p.at 0

unfoldable pub items_before : Structure → Library → Placing → ℕ
items_before st lib placing = length st.bounds + (length st.bans + sum_by (place_items lib.images) placing.places)
