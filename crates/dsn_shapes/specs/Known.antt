-- The table of lists: which lists are read in a list, and which are known there and have no effect.
-- Any other list in it is left out (`is_left_out`) or passed over with a note (`is_note`).
-- Four rows serve a list and lists in it: Component its places, Class its circuits, Rule its clearances, and
-- Wiring its wires and vias; what stands in one of the two alone is passed over in silence in the other.
use Rattle.std.specs.Prelude.{ℕ, List, [], ◌∷◌, ◌++◌, codes}
use Rattle.dsn_shapes.specs.declared.known.ListKind.{ListKind}
use Rattle.dsn_shapes.specs.declared.known.ListKind.TheVariants as list

-- the forms of a shape, with those that are left out
abbrev pub form_heads : List (List ℕ)
form_heads = codes "circle" ∷ codes "rect" ∷ codes "polygon" ∷ codes "path"
    ∷ codes "qarc" ∷ codes "polyline_path" ∷ []

-- the lists that are keepouts
abbrev pub keepout_heads : List (List ℕ)
keepout_heads = codes "keepout" ∷ codes "via_keepout" ∷ codes "wire_keepout" ∷ []

-- read: a kind of list, and the heads of the lists that are read in it
abbrev pub read_in : ListKind → List (List ℕ)
read_in list.Pcb = codes "parser" ∷ codes "resolution" ∷ codes "unit" ∷ codes "structure" ∷ codes "placement"
    ∷ codes "library" ∷ codes "network" ∷ codes "wiring" ∷ []
read_in list.Parser = codes "string_quote" ∷ codes "host_cad" ∷ codes "host_version" ∷ []
read_in list.Structure = codes "layer" ∷ codes "boundary" ∷ keepout_heads
    ++ codes "via" ∷ codes "rule" ∷ codes "control" ∷ codes "place_control" ∷ []
read_in list.Layer = codes "type" ∷ []
read_in list.Control = codes "via_at_smd" ∷ []
read_in list.Library = codes "image" ∷ codes "padstack" ∷ []
read_in list.Image = codes "pin" ∷ keepout_heads
read_in list.Pin = codes "rotate" ∷ []
read_in list.Padstack = codes "shape" ∷ []
read_in list.Placement = codes "component" ∷ codes "place_control" ∷ []
read_in list.Component = codes "place" ∷ []
read_in list.Network = codes "net" ∷ codes "class" ∷ codes "class_class" ∷ []
read_in list.Net = codes "pins" ∷ codes "rule" ∷ []
read_in list.Class = codes "circuit" ∷ codes "rule" ∷ codes "use_via" ∷ []
read_in list.Pair = codes "classes" ∷ codes "rule" ∷ []
read_in list.Rule = codes "width" ∷ codes "clearance" ∷ codes "type" ∷ []
read_in list.Wiring = codes "wire" ∷ codes "via" ∷ codes "path" ∷ codes "net" ∷ codes "type" ∷ []

-- known without effect: a kind of list, and the heads of the lists that are known in it and have no effect
abbrev pub idle_in : ListKind → List (List ℕ)
idle_in list.Parser = codes "space_in_quoted_tokens" ∷ []
idle_in list.Layer = codes "property" ∷ []
idle_in list.Image = codes "outline" ∷ []
idle_in list.Padstack = codes "attach" ∷ []
idle_in list.Component = codes "PN" ∷ []
idle_in any = []
