-- The wiring: the wires and vias of all its sections together, in the text's order.
use Rattle.std.specs.Prelude.{◌+◌, ℕ, List, [], ◌∷◌, ◌++◌, codes, map, if◌then◌else◌}
use Rattle.std.specs.List.{flat_map}
use Rattle.dsn_tree.specs.declared.tree.Tree.{Tree}
use Rattle.dsn_tree.specs.Heads.{is_headed}
use Rattle.pcb_model.specs.declared.item.Metal.{Metal}
use Rattle.dsn_shapes.specs.declared.known.ListKind.TheVariants as list
use Rattle.dsn_shapes.specs.declared.refusal.Refusal.{Refusal}
use Rattle.dsn_shapes.specs.declared.refusal.What.TheVariants.{Items}
use Rattle.dsn_shapes.specs.declared.parts.Layer.{Layer}
use Rattle.dsn_shapes.specs.declared.parts.Stack.{Stack}
use Rattle.dsn_shapes.specs.declared.parts.Structure.{Structure}
use Rattle.dsn_shapes.specs.declared.parts.Library.{Library}
use Rattle.dsn_shapes.specs.declared.parts.Placing.{Placing}
use Rattle.dsn_shapes.specs.declared.parts.Network.{Network}
use Rattle.dsn_shapes.specs.declared.parts.ReadWire.{ReadWire}
use Rattle.dsn_shapes.specs.declared.parts.Wiring.{Wiring}
use Rattle.dsn_shapes.specs.Limits.{too_many}
use Rattle.dsn_shapes.specs.Lists.{at_of, lists, capped, notes_in, left_out_in}
use Rattle.dsn_wiring.specs.Nets.{net_names, net_of, net_refusals, is_fixed}
use Rattle.dsn_wiring.specs.Wires.{wire_metal, wire_refusals}
use Rattle.dsn_shapes.specs.Names.{stack_names}
use Rattle.dsn_wiring.specs.Vias.{via_metal, via_refusals}
use Rattle.dsn_wiring.specs.Counts.{items_before}

abbrev pub wirings : Tree → List Tree
wirings pcb = lists (codes "wiring" ∷ []) (pcb ∷ [])

abbrev pub wire_lists : Tree → List Tree
wire_lists pcb = lists (codes "wire" ∷ codes "via" ∷ []) (wirings pcb)

-- ---- one wire or via, where the padstacks and the nets have these names
unfoldable pub metal_of : ℕ → List Layer → List (List ℕ) → Tree → Metal
metal_of nm layers names t = if is_headed (codes "via") t then via_metal nm names t else wire_metal nm layers t

unfoldable pub metal_refusals : ℕ → List Layer → List Stack → List (List ℕ) → Tree → List Refusal
metal_refusals nm layers stacks names t =
    if is_headed (codes "via") t then via_refusals nm stacks names t else wire_refusals nm layers t

unfoldable pub wire_of : ℕ → List Layer → List (List ℕ) → List (List ℕ) → Tree → ReadWire
wire_of nm layers names nets t =
    record { at = at_of t; net = net_of nets t; fixed = is_fixed (net_of nets t) t; metal = metal_of nm layers names t }

unfoldable pub refusals_of : ℕ → List Layer → List Stack → List (List ℕ) → List (List ℕ) → Tree → List Refusal
refusals_of nm layers stacks names nets t = net_refusals nets t ++ metal_refusals nm layers stacks names t

-- ---- lists that are left out or passed over, beside those of the table `read_in` and `idle_in`
unfoldable pub lists_left_out : List Tree → List Tree → List Refusal
lists_left_out sections ts = left_out_in sections ++ left_out_in ts

unfoldable pub lists_passed : List Tree → List Tree → ℕ
lists_passed sections ts = notes_in list.Wiring sections + notes_in list.Wiring ts

-- ---- the whole
-- all refusals of the wiring
abbrev pub wiring_refusals : ℕ → Structure → Library → Placing → Network → Tree → List Refusal
wiring_refusals nm st lib placing net pcb = lists_left_out (wirings pcb) (wire_lists pcb)
    ++ (too_many Items (items_before st lib placing) (wire_lists pcb)
    ++ flat_map (refusals_of nm st.layers lib.stacks (stack_names lib.stacks) (net_names net.nets)) (wire_lists pcb))

-- its value
abbrev pub wiring_of : ℕ → Structure → Library → Placing → Network → Tree → Wiring
wiring_of nm st lib placing net pcb = record {
  wires = map (wire_of nm st.layers (stack_names lib.stacks) (net_names net.nets)) (wire_lists pcb);
  notes = capped (lists_passed (wirings pcb) (wire_lists pcb));
}
