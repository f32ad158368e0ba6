-- The items of a session, net by net, and what it is refused for.
-- Source: SPECCTRA reference, session file descriptor.
use Rattle.std.specs.Prelude.{ℕ, List, [], ◌∷◌, ◌++◌, Option, codes, is_some, map, unwrap_or}
use Rattle.std.specs.List.{flat_map}
use Rattle.std.specs.Option.{option_map_or}
use Rattle.pcb_model.specs.declared.design.Design.{Design}
use Rattle.dsn_tree.specs.declared.tree.Tree.{Tree}
use Rattle.dsn_tree.specs.Heads.{child, is_headed}
use Rattle.dsn_shapes.specs.declared.refusal.Refusal.{Refusal}
use Rattle.dsn_shapes.specs.Refusals.{refused}
use Rattle.dsn_shapes.specs.Lists.{at_of, lists, name_of, place_of}
use Rattle.dsn_shapes.specs.Names.{first_place, place_index}
use Rattle.ses_reader.specs.declared.measure.Measure.{Measure}
use Rattle.ses_reader.specs.declared.item.SesItem.{SesItem}
use Rattle.ses_reader.specs.Names.{net_names}
use Rattle.ses_reader.specs.Measures.{measure_in, refused_unless, resolution_refusals}
use Rattle.ses_reader.specs.Copper.{metal_of, metal_refusals}
use Rattle.ses_reader.specs.declared.table.TheConstants.{NO_NET, NO_SESSION}

-- ---- a net such as `(net A (wire ..) (via ..))`
-- the place of the net in the design
abbrev pub net_place : Design → Tree → Option ℕ
net_place d t = first_place (name_of t 1) (net_names d)

-- its wires and vias
abbrev pub copper_in : Tree → List Tree
copper_in t = lists (codes "wire" ∷ codes "via" ∷ []) (t ∷ [])

-- one of them as an item of this net
abbrev pub item_of : Design → Measure → ℕ → Tree → SesItem
item_of d m net t = record { at = at_of t; net = net; metal = metal_of d m t }

-- all of them as items of the net
unfoldable pub net_items : Design → Measure → Tree → List SesItem
net_items d m t = map (item_of d m (place_index (unwrap_or (net_place d t) 0))) (copper_in t)

-- the net's name, and the copper
unfoldable pub net_refusals : Design → Measure → Tree → List Refusal
net_refusals d m t = refused_unless (is_some (net_place d t)) NO_NET (place_of t 1)
    ++ flat_map (metal_refusals d m) (copper_in t)

-- ---- the nets of a `network_out`, in the text's order
-- the lists of nets
abbrev pub nets_in : Tree → List Tree
nets_in t = lists (codes "net" ∷ []) (t ∷ [])

-- the items of all nets
abbrev pub network_items : Design → Measure → Tree → List SesItem
network_items d m t = flat_map (net_items d m) (nets_in t)

-- the refusals of all nets
abbrev pub network_refusals : Design → Measure → Tree → List Refusal
network_refusals d m t = flat_map (net_refusals d m) (nets_in t)

-- ---- the `routes`: of several lists of one head the first counts
-- the items of the first `network_out`
unfoldable pub routes_items : Design → Tree → List SesItem
routes_items d t = option_map_or (network_items d (measure_in t)) (child t (codes "network_out")) []

-- those of the resolution and the nets; both lists are wanted
unfoldable pub routes_refusals : Design → Tree → List Refusal
routes_refusals d t = resolution_refusals t
    ++ option_map_or (network_refusals d (measure_in t)) (child t (codes "network_out"))
    (refused NO_SESSION (at_of t) ∷ [])

-- ---- the whole
-- the items of a session
unfoldable pub session_items : Design → Tree → List SesItem
session_items d t = option_map_or (routes_items d) (child t (codes "routes")) []

-- all its refusals
unfoldable pub session_refusals : Design → Tree → List Refusal
session_refusals d t = refused_unless (is_headed (codes "session") t) NO_SESSION (at_of t)
    ++ option_map_or (routes_refusals d) (child t (codes "routes")) (refused NO_SESSION (at_of t) ∷ [])
