-- How much of what is counted a design may have, and what is refused past that.
use Rattle.std.specs.Prelude.{◌-◌, ℕ, List, [], ◌∷◌, slice_get}
use Rattle.std.specs.Option.{option_map_or}
use Rattle.dsn_tree.specs.declared.tree.Tree.{Tree}
use Rattle.dsn_shapes.specs.declared.refusal.Refusal.{Refusal}
use Rattle.dsn_shapes.specs.declared.refusal.What.{What}
use Rattle.dsn_shapes.specs.declared.refusal.What.TheVariants.{Nothing, Layers, Nets, Pins, Items, Vertices}
use Rattle.dsn_shapes.specs.declared.table.TheConstants.{PAST_LIMIT}
use Rattle.dsn_shapes.specs.Lists.{at_of}
use Rattle.pcb_model.specs.declared.limits.TheConstants.{MOST_LAYERS, MOST_NETS, MOST_PINS, MOST_ITEMS, MOST_VERTICES}

-- how many of these a design may have; a refusal that is of no limit has 0
abbrev pub most_of : What → ℕ
most_of Nothing = 0
most_of Layers = MOST_LAYERS
most_of Nets = MOST_NETS
most_of Pins = MOST_PINS
most_of Items = MOST_ITEMS
most_of Vertices = MOST_VERTICES

-- the refusal, at its place, of what is one too many
abbrev pub past_limit : What → ℕ → Refusal
past_limit what at = record { number = PAST_LIMIT; at = at; what = what; limit = most_of what }

-- the first of these lists that is one too many, where `before` of what they are stand before them
abbrev pub too_many : What → ℕ → List Tree → List Refusal
too_many what before ts = option_map_or (λ t. past_limit what (at_of t) ∷ []) (slice_get ts (most_of what - before)) []
