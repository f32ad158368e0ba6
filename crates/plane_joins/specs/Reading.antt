-- The planes that a design's tree has.
use Rattle.std.specs.Prelude.{◌≡◌, ℕ, ◌+◌, ◌%◌, ◌/◌, ◌==◌, ◌||◌, not, Bool, if◌then◌else◌, List, [], ◌∷◌, codes}
use Rattle.std.specs.Prelude.{Option, Some, None, Result, map, is_some, option_and_then}
use Rattle.std.specs.List.{find, flat_map}
use Rattle.std.specs.Option.{option_map, option_map_or, option_to_list}
use Rattle.geo_kernel.specs.declared.point.Point.{Point}
use Rattle.geo_kernel.specs.declared.spine.Spine.{Spine}
use Rattle.geo_kernel.specs.declared.spine.Spine.TheVariants.{Chain, Area}
use Rattle.dsn_tree.specs.declared.tree.Tree.{Tree}
use Rattle.dsn_tree.specs.Heads.{child, is_headed, items_of}
use Rattle.dsn_shapes.specs.declared.parts.Layer.{Layer}
use Rattle.dsn_shapes.specs.declared.parts.LayerShape.{LayerShape}
use Rattle.dsn_shapes.specs.declared.refusal.Refusal.{Refusal}
use Rattle.dsn_shapes.specs.declared.refusal.ReadFault.{ReadFault}
use Rattle.dsn_shapes.specs.Refusals.{Reads, least}
use Rattle.dsn_structure.specs.Header.{head_of, head_refusals}
use Rattle.dsn_tree.specs.Trees.{HasTree}
use Rattle.dsn_shapes.specs.Lists.{is_word, lists, name_of}
use Rattle.dsn_shapes.specs.Names.{first_place, place_index}
use Rattle.dsn_shapes.specs.Shapes.{shape_of, shape_refusals}
use Rattle.dsn_structure.specs.Layout.{structures}
use Rattle.pcb_model.specs.declared.design.BoardLayer.{BoardLayer}
use Rattle.pcb_model.specs.declared.design.Net.{Net}
use Rattle.pcb_model.specs.declared.design.Design.{Design}
use Rattle.plane_joins.specs.declared.area.PlaneArea.{PlaneArea}

-- the `plane` lists of the structure sections
abbrev pub plane_lists : Tree → List Tree
plane_lists pcb = lists (codes "plane" ∷ []) (structures pcb)

-- the names of the nets, and the net with a name
abbrev pub names_in : Design → List (List ℕ)
names_in d = map (λ (n : Net). n.name) d.nets

abbrev pub net_named : List (List ℕ) → List ℕ → Option ℕ
net_named nets name = option_map place_index (first_place name nets)

-- the shape of a plane is its first list
abbrev pub shape_in : Tree → Option Tree
shape_in t = find (λ i. not (is_word i)) (items_of t)

abbrev pub is_area : Tree → Bool
is_area s = is_headed (codes "rect") s || is_headed (codes "polygon") s

-- the one layer of a mask, where that is a power layer; the layers are counted from i
abbrev pub power_from : ℕ → List BoardLayer → ℕ → Option ℕ
power_from i [] mask = None
power_from i (l ∷ ls) mask =
    if mask == 1 then (if l.power then Some i else None) else
    (if mask % 2 == 1 then None else power_from (i + 1) ls (mask / 2))

-- the one loop of an area
abbrev pub only_loop : List (List Point) → Option (List Point)
only_loop [] = None
only_loop (rim ∷ []) = Some rim
only_loop (rim ∷ more ∷ rest) = None

abbrev pub loop_in : Spine → Option (List Point)
loop_in (Area loops) = only_loop loops
loop_in (Chain ps) = None

-- the plane of a net with a shape on just one layer, which is a power layer
abbrev pub area_on : Design → ℕ → LayerShape → Option PlaneArea
area_on d net s =
    option_and_then (λ layer.
    option_map (λ rim. record { net = net; layer = layer; rim = rim; width = s.width }) (loop_in s.spine))
    (power_from 0 d.layers s.layers)

-- the shape of a plane that isn't passed over for a window or the head of its shape
abbrev pub area_shape_in : Tree → Option Tree
area_shape_in t = if is_some (child t (codes "window")) then None else
    (option_and_then (λ s. if is_area s then Some s else None) (shape_in t))

-- the refusals of a plane: those of its shape, where it isn't passed over for its net, a window or that head
unfoldable pub plane_refusals : ℕ → List Layer → List (List ℕ) → Tree → List Refusal
plane_refusals nm layers nets t = option_map_or (λ s. option_map_or (λ (net : ℕ). shape_refusals nm layers s)
    (net_named nets (name_of t 1)) []) (area_shape_in t) []

unfoldable pub plane_of : ℕ → List Layer → List (List ℕ) → Design → Tree → Option PlaneArea
plane_of nm layers nets d t = option_and_then (λ s. option_and_then (λ net. area_on d net (shape_of nm layers s))
    (net_named nets (name_of t 1))) (area_shape_in t)

abbrev pub areas_of : ℕ → List Layer → List (List ℕ) → Design → Tree → List PlaneArea
areas_of nm layers nets d t = option_to_list (plane_of nm layers nets d t)

abbrev pub layer_of : BoardLayer → Layer
layer_of l = record { name = l.name; power = l.power }

abbrev pub layers_in : Design → List Layer
layers_in d = map layer_of d.layers

-- all planes of a tree
unfoldable pub planes_refusals : ℕ → Design → Tree → List Refusal
planes_refusals nm d pcb = flat_map (plane_refusals nm (layers_in d) (names_in d)) (plane_lists pcb)

unfoldable pub planes_of : ℕ → Design → Tree → List PlaneArea
planes_of nm d pcb = flat_map (areas_of nm (layers_in d) (names_in d) d) (plane_lists pcb)

-- what reading the planes of a tree answers, in the scale that its head gives
abbrev pub ReadsPlanes : Design → Tree → Result (List PlaneArea) ReadFault → Type 0
ReadsPlanes d pcb r =
    Reads (planes_refusals (head_of pcb).scale.nm d pcb) (λ v. v ≡ planes_of (head_of pcb).scale.nm d pcb) r

-- the text has a tree whose head has no refusal
pub record HasHead (text : List ℕ) : Type 0 where
  pub tree : Tree
  pub is : HasTree text tree
  pub unrefused : least (head_refusals tree) ≡ None
