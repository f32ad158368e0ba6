-- The wires and vias of a session.
use Rattle.std.specs.Prelude.{◌==◌, ◌&&◌, ◌%◌, nat_le, min, ℕ, Bool, false, not, List, [], ◌∷◌, ◌++◌, Option, Some}
use Rattle.std.specs.Prelude.{None, codes, drop, is_some, length, map, slice_get, unwrap_or, if◌then◌else◌}
use Rattle.std.specs.List.{flat_map, list_any}
use Rattle.std.specs.Option.{option_map_or}
use Rattle.geo_kernel.specs.declared.point.Point.{Point}
use Rattle.pcb_model.specs.declared.item.Metal.{Metal}
use Rattle.pcb_model.specs.declared.item.Metal.TheVariants.{Wire, Via}
use Rattle.pcb_model.specs.declared.item.Piece.{Piece}
use Rattle.pcb_model.specs.declared.design.Padstack.{Padstack}
use Rattle.pcb_model.specs.declared.design.Design.{Design}
use Rattle.pcb_model.specs.Sound.{origin}
use Rattle.dsn_tree.specs.declared.tree.Tree.{Tree}
use Rattle.dsn_tree.specs.Heads.{is_headed}
use Rattle.dsn_shapes.specs.declared.refusal.Refusal.{Refusal}
use Rattle.dsn_shapes.specs.Refusals.{refused}
use Rattle.dsn_shapes.specs.Forms.{points_of}
use Rattle.dsn_shapes.specs.Lists.{at_of, name_of, place_of, words_of}
use Rattle.dsn_shapes.specs.Names.{first_place, place_index}
use Rattle.dsn_wiring.specs.Vias.{point_by, spine_past}
use Rattle.dsn_wiring.specs.Wires.{no_wire, paths_in}
use Rattle.ses_reader.specs.declared.measure.Measure.{Measure}
use Rattle.ses_reader.specs.Names.{layer_names, padstack_names}
use Rattle.ses_reader.specs.Measures.{coord_at, coord_refusal, extent_at, extent_refusal, refused_unless, word_coord}
use Rattle.ses_reader.specs.Measures.{word_refusal}
use Rattle.ses_reader.specs.declared.table.TheConstants.{NO_LAYER, NO_MEASURE, NO_PADSTACK, NO_PATH}

-- ---- a path such as `(path L w x y x y)`
-- the place of its layer, which is a name and never a group of layers
abbrev pub layer_place : Design → Tree → Option ℕ
layer_place d t = first_place (name_of t 1) (layer_names d)

-- a place in a list as an index of 8 bits, which ends at 255
abbrev pub layer_index : ℕ → ℕ
layer_index k = min k 255

-- the words behind its width
abbrev pub numbers_in : Tree → List Tree
numbers_in t = drop 3 (words_of t)

-- so many words are two points or more
abbrev pub has_points : ℕ → Bool
has_points count = nat_le 7 count && count % 2 == 1

-- its points; a number that is refused counts as 0
abbrev pub chain_in : Measure → Tree → List Point
chain_in m t = points_of (map (word_coord m) (numbers_in t))

-- its copper, where its words are two points or more
unfoldable pub path_metal : Design → Measure → Tree → Metal
path_metal d m t =
    if has_points (length (words_of t)) then Wire (layer_index (unwrap_or (layer_place d t) 0))
    (unwrap_or (extent_at m t 2) 0) (chain_in m t)
    else no_wire

-- its width and its coordinates
abbrev pub number_refusals : Measure → Tree → List Refusal
number_refusals m t = extent_refusal m t 2 ++ flat_map (word_refusal m) (numbers_in t)

-- its layer, and its numbers or their count
unfoldable pub path_refusals : Design → Measure → Tree → List Refusal
path_refusals d m t = refused_unless (is_some (layer_place d t)) NO_LAYER (place_of t 1)
    ++ (if has_points (length (words_of t)) then number_refusals m t else refused NO_PATH (at_of t) ∷ [])

-- ---- a wire, which has one path
-- the one tree of a list of one
abbrev pub only : List Tree → Option Tree
only ts = if length ts == 1 then slice_get ts 0 else None

-- its copper is that of its path
unfoldable pub wire_metal : Design → Measure → Tree → Metal
wire_metal d m t = option_map_or (path_metal d m) (only (paths_in t)) no_wire

-- those of its path, or that it hasn't just one
unfoldable pub wire_refusals : Design → Measure → Tree → List Refusal
wire_refusals d m t = option_map_or (path_refusals d m) (only (paths_in t)) (refused NO_PATH (at_of t) ∷ [])

-- ---- a via such as `(via P x y)`
-- the place of its padstack
abbrev pub padstack_place : Design → Tree → Option ℕ
padstack_place d t = first_place (name_of t 1) (padstack_names d)

-- its point, where it has both numbers
unfoldable pub via_point : Measure → Tree → Option Point
via_point m t = point_by (coord_at m t 2) (coord_at m t 3)

-- a vertex of the padstack, at that point, is past 2 ^ 29
abbrev pub is_stack_past : Point → Padstack → Bool
is_stack_past at s = list_any (λ (c : Piece). spine_past at c.spine) s.pieces

-- the padstack at a place
abbrev pub padstack_at : Design → Option ℕ → Option Padstack
padstack_at d None = None
padstack_at d (Some k) = slice_get d.padstacks k

-- both are there, and the padstack is past
unfoldable pub is_via_past : Option Padstack → Option Point → Bool
is_via_past s at = option_map_or (λ p. option_map_or (is_stack_past p) s false) at false

-- its copper is that of its padstack at its point
unfoldable pub via_metal : Design → Measure → Tree → Metal
via_metal d m t = Via (place_index (unwrap_or (padstack_place d t) 0)) (unwrap_or (via_point m t) origin)

-- its padstack, its two numbers and its vertices
unfoldable pub via_refusals : Design → Measure → Tree → List Refusal
via_refusals d m t = refused_unless (is_some (padstack_place d t)) NO_PADSTACK (place_of t 1)
    ++ (coord_refusal m t 2 ++ (coord_refusal m t 3
    ++ refused_unless (not (is_via_past (padstack_at d (padstack_place d t)) (via_point m t))) NO_MEASURE (at_of t)))

-- ---- a wire or a via
-- its copper
unfoldable pub metal_of : Design → Measure → Tree → Metal
metal_of d m t = if is_headed (codes "via") t then via_metal d m t else wire_metal d m t

-- its refusals
unfoldable pub metal_refusals : Design → Measure → Tree → List Refusal
metal_refusals d m t = if is_headed (codes "via") t then via_refusals d m t else wire_refusals d m t
