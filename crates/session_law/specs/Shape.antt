-- The tree of a written session, without the places of its words and groups.
-- Source: SPECCTRA reference, session file descriptor.
use Rattle.std.specs.Prelude.{ℕ, ◌==◌, ℤ, pos, Bool, List, [], ◌∷◌, ◌++◌, length, flat_map, filter, codes, decimal}
use Rattle.std.specs.Prelude.{Option, Some, None, slice_get, bytes_eq, if◌then◌else◌}
use Rattle.std.specs.List.{enumerate_from}
use Rattle.std.specs.Option.{option_map_or}
use Rattle.std.specs.Fmt.{signed_decimal}
use Rattle.geo_kernel.specs.declared.point.Point.{Point}
use Rattle.geo_kernel.specs.declared.spine.Spine.{Spine}
use Rattle.geo_kernel.specs.declared.spine.Spine.TheVariants.{Chain, Area}
use Rattle.pcb_model.specs.declared.item.Piece.{Piece}
use Rattle.pcb_model.specs.declared.item.Item.{Item}
use Rattle.pcb_model.specs.declared.item.Metal.{Metal}
use Rattle.pcb_model.specs.declared.item.Metal.TheVariants.{Wire, Via, Pad, Ban}
use Rattle.pcb_model.specs.declared.design.BoardLayer.{BoardLayer}
use Rattle.pcb_model.specs.declared.design.Component.{Component}
use Rattle.pcb_model.specs.declared.design.Net.{Net}
use Rattle.pcb_model.specs.declared.design.Padstack.{Padstack}
use Rattle.pcb_model.specs.declared.design.Design.{Design}
use Rattle.pcb_model.specs.declared.design.SesScale.{SesScale}
use Rattle.pcb_model.specs.Scale.{scale_of}
use Rattle.dsn_tree.specs.declared.tree.Tree.{Tree}
use Rattle.dsn_tree.specs.declared.tree.Tree.TheVariants.{Word, Group}
use Rattle.dsn_tree.specs.declared.tree.Tree.TheOpen.{Tree-F}
use Rattle.dsn_tree.specs.declared.tree.Tree.TheOpen as layer
use Rattle.dsn_tree.specs.declared.tree.Tree.TheFolds.{fold-Tree}
use Rattle.ses_writer.specs.Words.{nearest, degrees, directed}
use Rattle.ses_writer.specs.Session.{unit_word, has_via_of, is_of_net, is_printed}

-- ---- trees without places

-- One tree, with the inner trees without places in their places.
abbrev pub unplaced_step : Tree-F Tree → Tree
unplaced_step (layer.Word at text) = Word 0 text
unplaced_step (layer.Group at items) = Group 0 items

-- a tree with 0 in the place of each offset
abbrev pub unplaced : Tree → Tree
unplaced = fold-Tree Tree unplaced_step

-- a word
abbrev pub word_tree : List ℕ → Tree
word_tree text = Word 0 text

-- a group that begins with a word
abbrev pub group_tree : List ℕ → List Tree → Tree
group_tree head items = Group 0 (word_tree head ∷ items)

-- ---- numbers, points and names

-- a length in units of so many nm
abbrev pub number_tree : ℕ → ℤ → Tree
number_tree nm x = word_tree (signed_decimal (nearest nm x))

-- the coordinates of a point
abbrev pub point_trees : ℕ → Point → List Tree
point_trees nm p = number_tree nm p.x ∷ number_tree nm p.y ∷ []

-- a layer's name, and an empty one where there is no such layer
abbrev pub layer_tree : Design → ℕ → Tree
layer_tree d layer = word_tree (option_map_or (λ (l : BoardLayer). l.name) (slice_get d.layers layer) [])

-- likewise of a padstack
abbrev pub padstack_tree : Design → ℕ → Tree
padstack_tree d padstack = word_tree (option_map_or (λ (s : Padstack). s.name) (slice_get d.padstacks padstack) [])

-- ---- the head and the placement

-- the unit of length, and how many printed units make one
unfoldable pub resolution_tree : SesScale → Tree
resolution_tree s = group_tree (codes "resolution") (word_tree (unit_word s.unit) ∷ word_tree (decimal s.per) ∷ [])

-- the name of the design
unfoldable pub base_tree : Design → Tree
base_tree d = group_tree (codes "base_design") (word_tree d.name ∷ [])

-- the side of a component
abbrev pub side_tree : Bool → Tree
side_tree back = word_tree (if back then codes "back" else codes "front")

-- a placed component: its name, its point, its side and its angle
unfoldable pub place_tree : ℕ → Component → Tree
place_tree nm c = group_tree (codes "place")
    (word_tree c.name ∷ point_trees nm c.at ++ side_tree c.back ∷ word_tree (degrees c.microdegrees) ∷ [])

-- the places behind b that have its image, up to the first that hasn't
abbrev pub places_on : ℕ → Component → List Component → List Tree
places_on nm b [] = []
places_on nm b (c ∷ cs) = if bytes_eq b.image c.image then place_tree nm c ∷ places_on nm c cs else []

-- the image of c with its place, and with those that follow
abbrev pub component_tree : ℕ → Component → List Component → Tree
component_tree nm c cs = group_tree (codes "component") (word_tree c.image ∷ place_tree nm c ∷ places_on nm c cs)

-- the images behind that of b, one for each change
abbrev pub components_on : ℕ → Component → List Component → List Tree
components_on nm b [] = []
components_on nm b (c ∷ cs) =
    (if bytes_eq b.image c.image then [] else component_tree nm c cs ∷ []) ++ components_on nm c cs

-- the placed components, image by image in their order
abbrev pub component_trees : ℕ → List Component → List Tree
component_trees nm [] = []
component_trees nm (c ∷ cs) = component_tree nm c cs ∷ components_on nm c cs

-- the placement, in the unit of the session
unfoldable pub placement_tree : Design → SesScale → Tree
placement_tree d s = group_tree (codes "placement") (resolution_tree s ∷ component_trees s.nm d.components)

-- ---- the library

-- a chain of one point is a circle, a longer one a path
abbrev pub shape_head : Spine → List ℕ
shape_head (Chain (p ∷ [])) = codes "circle"
shape_head (Chain ps) = codes "path"
shape_head (Area loops) = codes "polygon"

-- the vertices: of a chain in the printed direction, of an area loop by loop
abbrev pub spine_trees : ℕ → Spine → List Tree
spine_trees nm (Chain ps) = flat_map (point_trees nm) (directed ps)
spine_trees nm (Area loops) = flat_map (flat_map (point_trees nm)) loops

-- a piece of a padstack: its form, its layer, its width and its vertices
unfoldable pub shape_trees : Design → ℕ → Piece → List Tree
shape_trees d nm c = group_tree (codes "shape")
    (group_tree (shape_head c.spine)
    (layer_tree d c.layer ∷ number_tree nm (pos c.width) ∷ spine_trees nm c.spine) ∷ []) ∷ []

-- a padstack of the library
unfoldable pub stack_tree : Design → ℕ → Padstack → Tree
stack_tree d nm s = group_tree (codes "padstack")
    (word_tree s.name ∷ flat_map (shape_trees d nm) s.pieces
    ++ group_tree (codes "attach") (word_tree (codes "off") ∷ []) ∷ [])

-- it is printed where an item names it
abbrev pub stack_trees : Design → ℕ → List Item → (ℕ × Padstack) → List Tree
stack_trees d nm items (i, s) = if has_via_of i items then stack_tree d nm s ∷ [] else []

-- the padstacks that the items name
unfoldable pub library_tree : Design → ℕ → List Item → Tree
library_tree d nm items = group_tree (codes "library_out")
    (flat_map (stack_trees d nm items) (enumerate_from 0 d.padstacks))

-- ---- the network

-- a wire: its layer, its width and its chain in the printed direction
unfoldable pub wire_tree : Design → ℕ → ℕ → ℕ → List Point → Tree
wire_tree d nm layer width chain = group_tree (codes "wire")
    (group_tree (codes "path")
    (layer_tree d layer ∷ number_tree nm (pos width) ∷ flat_map (point_trees nm) (directed chain)) ∷ [])

-- a via: its padstack and its point
unfoldable pub via_tree : Design → ℕ → ℕ → Point → Tree
via_tree d nm padstack at = group_tree (codes "via") (padstack_tree d padstack ∷ point_trees nm at)

-- a wire or a via; pads and keepouts aren't printed
abbrev pub metal_trees : Design → ℕ → Metal → List Tree
metal_trees d nm (Wire layer width chain) = wire_tree d nm layer width chain ∷ []
metal_trees d nm (Via padstack at) = via_tree d nm padstack at ∷ []
metal_trees d nm (Pad pin) = []
metal_trees d nm (Ban wires vias) = []

-- the copper of a net's items, in the order of the items
abbrev pub copper_trees : Design → ℕ → List Item → ℕ → List Tree
copper_trees d nm items net = flat_map (λ (a : Item). metal_trees d nm a.metal) (filter (is_of_net net) items)

-- a net with this copper; one without isn't printed
abbrev pub net_with : List ℕ → List Tree → List Tree
net_with name copper = if length copper == 0 then [] else group_tree (codes "net") (word_tree name ∷ copper) ∷ []

-- the net with this number
abbrev pub net_trees : Design → ℕ → List Item → (ℕ × Net) → List Tree
net_trees d nm items (i, n) = net_with n.name (copper_trees d nm items i)

-- the nets that have copper
unfoldable pub network_tree : Design → ℕ → List Item → Tree
network_tree d nm items = group_tree (codes "network_out") (flat_map (net_trees d nm items) (enumerate_from 0 d.nets))

-- ---- the whole

-- a list of one word, where there is one
abbrev pub host_trees : List ℕ → Option (List ℕ) → List Tree
host_trees word None = []
host_trees word (Some host) = group_tree word (word_tree host ∷ []) ∷ []

-- what wrote the design
unfoldable pub parser_tree : Design → Tree
parser_tree d = group_tree (codes "parser")
    (host_trees (codes "host_cad") d.host_cad ++ host_trees (codes "host_version") d.host_version)

-- the routes: resolution, parser, library and network
unfoldable pub routes_tree : Design → SesScale → List Item → Tree
routes_tree d s items = group_tree (codes "routes")
    (resolution_tree s ∷ parser_tree d ∷ library_tree d s.nm items ∷ network_tree d s.nm items ∷ [])

-- a session: its design, the placement, no swaps, and the routes of the printed items
unfoldable pub session_tree : Design → List Item → Bool → Tree
session_tree d items omit_fixed = group_tree (codes "session")
    (word_tree d.name ∷ base_tree d ∷ placement_tree d (scale_of d) ∷ group_tree (codes "was_is") []
    ∷ routes_tree d (scale_of d) (filter (is_printed omit_fixed) items) ∷ [])
