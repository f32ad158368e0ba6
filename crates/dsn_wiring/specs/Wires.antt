-- Wires: the copper of a wire is its first path.
use Rattle.std.specs.Prelude.{◌==◌, ◌||◌, nat_lt, ℕ, Bool, List, [], ◌∷◌, ◌++◌, codes, drop, length, slice_get}
use Rattle.std.specs.Prelude.{unwrap_or, if◌then◌else◌}
use Rattle.std.specs.List.{flat_map}
use Rattle.std.specs.Option.{option_map_or}
use Rattle.dsn_tree.specs.declared.tree.Tree.{Tree}
use Rattle.geo_kernel.specs.declared.point.Point.{Point}
use Rattle.geo_kernel.specs.declared.spine.Spine.{Spine}
use Rattle.geo_kernel.specs.declared.spine.Spine.TheVariants.{Chain, Area}
use Rattle.pcb_model.specs.declared.item.Metal.{Metal}
use Rattle.pcb_model.specs.declared.item.Metal.TheVariants.{Wire}
use Rattle.dsn_shapes.specs.declared.refusal.Refusal.{Refusal}
use Rattle.dsn_shapes.specs.declared.parts.Layer.{Layer}
use Rattle.dsn_shapes.specs.declared.parts.LayerShape.{LayerShape}
use Rattle.dsn_shapes.specs.Refusals.{refused}
use Rattle.dsn_shapes.specs.Known.{form_heads}
use Rattle.dsn_shapes.specs.Lists.{at_of, lists, place_of}
use Rattle.dsn_shapes.specs.Shapes.{shape_of, shape_refusals}
use Rattle.dsn_wiring.specs.Layers.{layers_below}
use Rattle.dsn_shapes.specs.declared.table.TheConstants.{BAD_FORM, LEFT_OUT}
use Rattle.pcb_model.specs.declared.limits.TheConstants.{MOST_LAYERS}

-- ---- lists of copper in a wire
abbrev pub paths_in : Tree → List Tree
paths_in t = lists (codes "path" ∷ []) (t ∷ [])

abbrev pub others_in : Tree → List Tree
others_in t = lists (codes "rect" ∷ codes "circle" ∷ codes "polygon" ∷ []) (t ∷ [])

abbrev pub refused_form : Tree → List Refusal
refused_form t = refused LEFT_OUT (place_of t 0) ∷ []

-- all but the first path are refused
unfoldable pub further_forms : Tree → List Refusal
further_forms t = flat_map refused_form (drop 1 (paths_in t)) ++ flat_map refused_form (others_in t)

-- a wire without any form; the forms that are left out are refused as such
unfoldable pub no_form : Tree → List Refusal
no_form t = if length (lists form_heads (t ∷ [])) == 0 then refused BAD_FORM (at_of t) ∷ [] else []

-- ---- the path of a wire
abbrev pub chain_of : Spine → List Point
chain_of (Chain ps) = ps
chain_of (Area loops) = []

-- more than one layer, or fewer than two vertices
abbrev pub is_unfit : LayerShape → Bool
is_unfit s = nat_lt 1 (length (layers_below MOST_LAYERS s.layers)) || nat_lt (length (chain_of s.spine)) 2

unfoldable pub path_refusals : ℕ → List Layer → Tree → List Refusal
path_refusals nm layers t =
    shape_refusals nm layers t ++ (if is_unfit (shape_of nm layers t) then refused BAD_FORM (at_of t) ∷ [] else [])

abbrev pub wire_by : LayerShape → Metal
wire_by s = Wire (unwrap_or (slice_get (layers_below MOST_LAYERS s.layers) 0) 0) s.width (chain_of s.spine)

unfoldable pub path_metal : ℕ → List Layer → Tree → Metal
path_metal nm layers t = wire_by (shape_of nm layers t)

-- ---- the wire
abbrev pub no_wire : Metal
no_wire = Wire 0 0 []

unfoldable pub wire_metal : ℕ → List Layer → Tree → Metal
wire_metal nm layers t = option_map_or (path_metal nm layers) (slice_get (paths_in t) 0) no_wire

unfoldable pub wire_refusals : ℕ → List Layer → Tree → List Refusal
wire_refusals nm layers t =
    no_form t ++ (further_forms t ++ option_map_or (path_refusals nm layers) (slice_get (paths_in t) 0) [])
