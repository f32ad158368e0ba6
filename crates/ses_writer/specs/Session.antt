-- The session of a design and of the items of its board, line by line.
-- Source: SPECCTRA reference, session file descriptor.
use Rattle.std.specs.Prelude.{ℕ, ◌==◌, pos, Bool, false, not, ◌&&◌, if◌then◌else◌, List, [], ◌∷◌, ◌++◌, length}
use Rattle.std.specs.Prelude.{flat_map, filter, codes, decimal, Option, Some, None, is_some, slice_get, bytes_eq}
use Rattle.std.specs.List.{list_any, enumerate_from}
use Rattle.std.specs.Option.{option_map_or}
use Rattle.geo_kernel.specs.declared.spine.Spine.{Spine}
use Rattle.geo_kernel.specs.declared.spine.Spine.TheVariants.{Chain, Area}
use Rattle.geo_kernel.specs.declared.unit.Unit.{Unit as LengthUnit}
use Rattle.geo_kernel.specs.declared.unit.Unit.TheVariants.{Inch, Mil, Cm, Mm, Um}
use Rattle.pcb_model.specs.declared.item.Piece.{Piece}
use Rattle.pcb_model.specs.declared.item.Item.{Item}
use Rattle.pcb_model.specs.declared.item.Metal.{Metal}
use Rattle.pcb_model.specs.declared.item.Metal.TheVariants.{Wire, Via, Pad, Ban}
use Rattle.pcb_model.specs.declared.design.BoardLayer.{BoardLayer}
use Rattle.pcb_model.specs.declared.design.Component.{Component}
use Rattle.pcb_model.specs.declared.design.Net.{Net}
use Rattle.pcb_model.specs.declared.design.Padstack.{Padstack}
use Rattle.pcb_model.specs.declared.design.Design.{Design}
use Rattle.pcb_model.specs.declared.design.SesScale.{SesScale}
use Rattle.pcb_model.specs.Scale.{scale_of}
use Rattle.ses_writer.specs.Words.{spelled, length_word, degrees, point_words, chain_words, area_words}

-- ---- the head and the placement
abbrev pub unit_word : LengthUnit → List ℕ
unit_word Inch = codes "inch"
unit_word Mil = codes "mil"
unit_word Cm = codes "cm"
unit_word Mm = codes "mm"
unit_word Um = codes "um"

unfoldable pub resolution_line : SesScale → List ℕ
resolution_line s = codes "    (resolution " ++ unit_word s.unit ++ codes " " ++ decimal s.per ++ codes ")\n"

abbrev pub side_words : Bool → List ℕ
side_words back = if back then codes " back " else codes " front "

unfoldable pub place_line : ℕ → Component → List ℕ
place_line nm c = codes "      (place " ++ spelled c.name ++ point_words nm c.at ++ side_words c.back
    ++ degrees c.microdegrees ++ codes ")\n"

unfoldable pub component_line : Component → List ℕ
component_line c = codes "    (component " ++ spelled c.image ++ codes "\n"

-- between two places: a new component line where the image changes
abbrev pub image_change : Component → Component → List ℕ
image_change b c = if bytes_eq b.image c.image then [] else codes "    )\n" ++ component_line c

abbrev pub places_after : ℕ → Component → List Component → List ℕ
places_after nm b [] = codes "    )\n"
places_after nm b (c ∷ cs) = image_change b c ++ place_line nm c ++ places_after nm c cs

unfoldable pub component_lines : ℕ → List Component → List ℕ
component_lines nm [] = []
component_lines nm (c ∷ cs) = component_line c ++ place_line nm c ++ places_after nm c cs

-- ---- the library
abbrev pub layer_word : Design → ℕ → List ℕ
layer_word d layer = spelled (option_map_or (λ (l : BoardLayer). l.name) (slice_get d.layers layer) [])

abbrev pub padstack_word : Design → ℕ → List ℕ
padstack_word d padstack = spelled (option_map_or (λ (s : Padstack). s.name) (slice_get d.padstacks padstack) [])

-- a chain of one point is a circle, a longer one a path
abbrev pub shape_word : Spine → List ℕ
shape_word (Chain (p ∷ [])) = codes "circle "
shape_word (Chain ps) = codes "path "
shape_word (Area loops) = codes "polygon "

abbrev pub spine_words : ℕ → Spine → List ℕ
spine_words nm (Chain ps) = chain_words nm ps
spine_words nm (Area loops) = area_words nm loops

unfoldable pub shape_line : Design → ℕ → Piece → List ℕ
shape_line d nm c = codes "        (shape (" ++ shape_word c.spine ++ layer_word d c.layer
    ++ length_word nm (pos c.width) ++ spine_words nm c.spine ++ codes "))\n"

unfoldable pub padstack_lines : Design → ℕ → Padstack → List ℕ
padstack_lines d nm s = codes "      (padstack " ++ spelled s.name ++ codes "\n" ++ flat_map (shape_line d nm) s.pieces
    ++ codes "        (attach off)\n      )\n"

abbrev pub is_via_of : ℕ → Metal → Bool
is_via_of padstack (Via q at) = q == padstack
is_via_of padstack (Wire layer width chain) = false
is_via_of padstack (Pad pin) = false
is_via_of padstack (Ban wires vias) = false

-- the padstack with this number is printed where an item names it
abbrev pub has_via_of : ℕ → List Item → Bool
has_via_of padstack items = list_any (λ (a : Item). is_via_of padstack a.metal) items

abbrev pub library_entry : Design → ℕ → List Item → (ℕ × Padstack) → List ℕ
library_entry d nm items (i, s) = if has_via_of i items then padstack_lines d nm s else []

-- in the library's order
unfoldable pub library_lines : Design → ℕ → List Item → List ℕ
library_lines d nm items = flat_map (library_entry d nm items) (enumerate_from 0 d.padstacks)

-- ---- the network
unfoldable pub metal_line : Design → ℕ → Metal → List ℕ
metal_line d nm (Wire layer width chain) = codes "        (wire (path " ++ layer_word d layer
    ++ length_word nm (pos width) ++ chain_words nm chain ++ codes "))\n"
metal_line d nm (Via padstack at) =
    codes "        (via " ++ padstack_word d padstack ++ point_words nm at ++ codes ")\n"
metal_line d nm (Pad pin) = []
metal_line d nm (Ban wires vias) = []

abbrev pub is_of_net : ℕ → Item → Bool
is_of_net net a = option_map_or (λ n. n == net) a.net false

-- the lines of a net's items, in the order of the items
abbrev pub copper_lines : Design → ℕ → List Item → ℕ → List ℕ
copper_lines d nm items net = flat_map (λ (a : Item). metal_line d nm a.metal) (filter (is_of_net net) items)

-- a net without lines isn't printed
unfoldable pub net_lines : List ℕ → List ℕ → List ℕ
net_lines name lines =
    if length lines == 0 then [] else codes "      (net " ++ spelled name ++ codes "\n" ++ lines ++ codes "      )\n"

abbrev pub network_entry : Design → ℕ → List Item → (ℕ × Net) → List ℕ
network_entry d nm items (i, n) = net_lines n.name (copper_lines d nm items i)

-- in the design's order
unfoldable pub network_lines : Design → ℕ → List Item → List ℕ
network_lines d nm items = flat_map (network_entry d nm items) (enumerate_from 0 d.nets)

-- ---- the whole
unfoldable pub host_line : List ℕ → Option (List ℕ) → List ℕ
host_line word None = []
host_line word (Some host) = codes "      (" ++ word ++ codes " " ++ spelled host ++ codes ")\n"

-- items with a net; the fixed ones not where they are left out
abbrev pub is_printed : Bool → Item → Bool
is_printed omit_fixed a = is_some a.net && not (omit_fixed && a.fixed)

unfoldable pub placement_part : Design → SesScale → List ℕ
placement_part d s =
    codes "(session " ++ spelled d.name ++ codes "\n  (base_design " ++ spelled d.name ++ codes ")\n  (placement\n"
    ++ resolution_line s ++ component_lines s.nm d.components ++ codes "  )\n  (was_is\n  )\n"

unfoldable pub parser_lines : Design → List ℕ
parser_lines d = codes "    (parser\n" ++ host_line (codes "host_cad") d.host_cad
    ++ host_line (codes "host_version") d.host_version ++ codes "    )\n"

unfoldable pub routes_part : Design → SesScale → List Item → List ℕ
routes_part d s items = codes "  (routes\n" ++ resolution_line s ++ parser_lines d
    ++ codes "    (library_out\n" ++ library_lines d s.nm items ++ codes "    )\n    (network_out\n"
    ++ network_lines d s.nm items ++ codes "    )\n  )\n"

unfoldable pub session_of : Design → List Item → Bool → List ℕ
session_of d items omit_fixed =
    placement_part d (scale_of d) ++ routes_part d (scale_of d) (filter (is_printed omit_fixed) items) ++ codes ")\n"
