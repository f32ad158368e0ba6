-- Each refusal of a wiring is one of the table.
use Rattle.std.proofs.Common.{ℕ, List, [], ◌∷◌, Option, length, refl}
use Rattle.std.specs.Prelude.{◌==◌, codes, drop, is_some, slice_get}
use Rattle.geo_kernel.specs.declared.point.Point.{Point}
use Rattle.dsn_tree.specs.declared.tree.Tree.{Tree}
use Rattle.dsn_tree.specs.Heads.{child, is_headed}
use Rattle.dsn_shapes.specs.declared.refusal.What.TheVariants.{Items}
use Rattle.dsn_shapes.specs.declared.parts.Layer.{Layer}
use Rattle.dsn_shapes.specs.declared.parts.Stack.{Stack}
use Rattle.dsn_shapes.specs.declared.parts.Structure.{Structure}
use Rattle.dsn_shapes.specs.declared.parts.Library.{Library}
use Rattle.dsn_shapes.specs.declared.parts.Placing.{Placing}
use Rattle.dsn_shapes.specs.declared.parts.Network.{Network}
use Rattle.dsn_shapes.specs.Known.{form_heads}
use Rattle.dsn_shapes.specs.Lists.{at_of, lists, place_of}
use Rattle.dsn_shapes.specs.Names.{stack_names}
use Rattle.dsn_shapes.specs.Shapes.{shape_of}
use Rattle.dsn_shapes.proofs.Tabled.{AreTabled, all_left_out_tabled, both, coord_tabled, each, either, many_tabled}
use Rattle.dsn_shapes.proofs.Tabled.{none, of_some, one, shape_tabled, where_fails, where_holds}
use Rattle.dsn_wiring.specs.Counts.{items_before}
use Rattle.dsn_wiring.specs.Nets.{net_names, net_refusals, place_in, unknown_net}
use Rattle.dsn_wiring.specs.Vias.{is_via_past, past_refusal, stack_at, stack_place, unknown_stack, via_place}
use Rattle.dsn_wiring.specs.Vias.{via_place_refusals, via_refusals}
use Rattle.dsn_wiring.specs.Wires.{further_forms, is_unfit, no_form, others_in, path_refusals, paths_in, refused_form}
use Rattle.dsn_wiring.specs.Wires.{wire_refusals}
use Rattle.dsn_wiring.specs.Whole.{lists_left_out, metal_refusals, refusals_of, wire_lists, wiring_refusals, wirings}

-- ---- nets
net_tabled : (nets : List (List ℕ)) (t : Tree) → AreTabled (net_refusals nets t)
unfolding net_refusals
net_tabled nets t =
    of_some (unknown_net nets) (child t (codes "net")) []
    (λ u. where_fails (is_some (place_in nets u)) 20 (place_of u 1) refl) none

-- ---- vias
stack_tabled : (names : List (List ℕ)) (t : Tree) → AreTabled (unknown_stack names t)
unfolding unknown_stack
stack_tabled names t = where_fails (is_some (stack_place names t)) 14 (place_of t 1) refl

via_place_tabled : (nm : ℕ) (t : Tree) → AreTabled (via_place_refusals nm t)
unfolding via_place_refusals
via_place_tabled nm t = both _ _ (coord_tabled nm t 2) (coord_tabled nm t 3)

past_tabled : (stacks : List Stack) (place : Option ℕ) (at : Option Point) (t : Tree)
    → AreTabled (past_refusal stacks place at t)
unfolding past_refusal
past_tabled stacks place at t = where_holds (is_via_past (stack_at stacks place) at) 10 (at_of t) refl

via_tabled : (nm : ℕ) (stacks : List Stack) (names : List (List ℕ)) (t : Tree)
    → AreTabled (via_refusals nm stacks names t)
unfolding via_refusals
via_tabled nm stacks names t =
    both _ _ (stack_tabled names t)
    (both _ _ (via_place_tabled nm t) (past_tabled stacks (stack_place names t) (via_place nm t) t))

-- ---- wires
further_tabled : (t : Tree) → AreTabled (further_forms t)
unfolding further_forms
further_tabled t =
    both _ _ (each refused_form (λ u. one 21 (place_of u 0) refl) (drop 1 (paths_in t)))
    (each refused_form (λ u. one 21 (place_of u 0) refl) (others_in t))

no_form_tabled : (t : Tree) → AreTabled (no_form t)
unfolding no_form
no_form_tabled t = where_holds (length (lists form_heads (t ∷ [])) == 0) 22 (at_of t) refl

path_tabled : (nm : ℕ) (layers : List Layer) (t : Tree) → AreTabled (path_refusals nm layers t)
unfolding path_refusals
path_tabled nm layers t =
    both _ _ (shape_tabled nm layers t) (where_holds (is_unfit (shape_of nm layers t)) 22 (at_of t) refl)

wire_tabled : (nm : ℕ) (layers : List Layer) (t : Tree) → AreTabled (wire_refusals nm layers t)
unfolding wire_refusals
wire_tabled nm layers t =
    both _ _ (no_form_tabled t)
    (both _ _ (further_tabled t)
    (of_some (path_refusals nm layers) (slice_get (paths_in t) 0) [] (path_tabled nm layers) none))

-- ---- the whole
metal_tabled : (nm : ℕ) (layers : List Layer) (stacks : List Stack) (names : List (List ℕ)) (t : Tree)
    → AreTabled (metal_refusals nm layers stacks names t)
unfolding metal_refusals
metal_tabled nm layers stacks names t =
    either (is_headed (codes "via") t) _ _ (via_tabled nm stacks names t) (wire_tabled nm layers t)

each_tabled : (nm : ℕ) (layers : List Layer) (stacks : List Stack) (names nets : List (List ℕ)) (t : Tree)
    → AreTabled (refusals_of nm layers stacks names nets t)
unfolding refusals_of
each_tabled nm layers stacks names nets t = both _ _ (net_tabled nets t) (metal_tabled nm layers stacks names t)

sections_tabled : (sections ts : List Tree) → AreTabled (lists_left_out sections ts)
unfolding lists_left_out
sections_tabled sections ts = both _ _ (all_left_out_tabled sections) (all_left_out_tabled ts)

pub wiring_tabled : (nm : ℕ) (st : Structure) (lib : Library) (placing : Placing) (net : Network) (pcb : Tree)
    → AreTabled (wiring_refusals nm st lib placing net pcb)
wiring_tabled nm st lib placing net pcb =
    let one_each = refusals_of nm st.layers lib.stacks (stack_names lib.stacks) (net_names net.nets) in
    both _ _ (sections_tabled (wirings pcb) (wire_lists pcb))
    (both _ _ (many_tabled Items (λ e. cc) (items_before st lib placing) (wire_lists pcb))
    (each one_each (each_tabled nm st.layers lib.stacks (stack_names lib.stacks) (net_names net.nets))
    (wire_lists pcb)))
