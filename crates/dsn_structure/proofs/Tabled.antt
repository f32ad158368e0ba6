-- Each refusal of a head and of a structure is one of the table.
use Rattle.std.proofs.Common.{◌++◌, ◌&&◌, ◌||◌, ℕ, List, [], ◌∷◌, Option, Some, None, length, refl}
use Rattle.std.specs.Prelude.{◌==◌, codes, is_some, slice_get}
use Rattle.dsn_tree.specs.declared.tree.Tree.{Tree}
use Rattle.dsn_tree.specs.Heads.{is_headed, word}
use Rattle.dsn_shapes.specs.declared.refusal.What.TheVariants.{Layers, Items}
use Rattle.dsn_shapes.specs.declared.parts.Layer.{Layer}
use Rattle.dsn_shapes.specs.Lists.{at_of, name_of, place_of, quoted_name, text_of}
use Rattle.dsn_shapes.specs.Names.{first_place, names_at}
use Rattle.dsn_shapes.specs.Shapes.{ban_refusals, bound_refusals}
use Rattle.dsn_shapes.proofs.Tabled.{AreTabled, all_left_out_tabled, ban_tabled, both, bound_tabled, each, many_tabled}
use Rattle.dsn_shapes.proofs.Tabled.{names_tabled, none, of_some, one, quoted_tabled, rules_tabled, where_fails}
use Rattle.dsn_shapes.proofs.Tabled.{where_holds}
use Rattle.dsn_structure.specs.Header.{count_of, count_refusal, first_of, head_refusals, header_left_out, host_refusal}
use Rattle.dsn_structure.specs.Header.{hosts, not_pcb, parsers, resolution_refusals, resolutions, scale_refusals}
use Rattle.dsn_structure.specs.Header.{unit_of, unit_refusal, units}
use Rattle.dsn_structure.specs.Layout.{area_refusals, boundaries, controls, frame_layers, frame_refusals, is_unknown}
use Rattle.dsn_structure.specs.Layout.{keepouts, layer_lists, layer_refusals, lists_left_out, missing, no_boundary}
use Rattle.dsn_structure.specs.Layout.{padstacks, refusals_of, rule_lists, structure_refusals, structures}
use Rattle.dsn_structure.specs.Layout.{via_lists, via_refusal, via_refusals, via_words}

-- ---- the head
unit_tabled : (t : Tree) → AreTabled (unit_refusal t)
unit_tabled t = where_fails (is_some (unit_of (name_of t 1))) 11 (place_of t 1) refl

resolution_tabled : (pcb : Tree) (o : Option Tree) → AreTabled (resolution_refusals pcb o)
resolution_tabled pcb None = one 8 (at_of pcb) refl
resolution_tabled pcb (Some t) =
    both (unit_refusal t) (count_refusal t) (unit_tabled t) (where_fails (is_some (count_of t)) 9 (place_of t 2) refl)

scale_tabled : (pcb : Tree) (ts us : List Tree) → AreTabled (scale_refusals pcb ts us)
unfolding scale_refusals
scale_tabled pcb ts us =
    both _ _ (resolution_tabled pcb (first_of ts)) (of_some unit_refusal (first_of us) [] unit_tabled none)

host_tabled : (ts : List Tree) → AreTabled (host_refusal ts)
unfolding host_refusal
host_tabled ts = of_some (λ t. quoted_name t 1) (first_of ts) [] (λ t. quoted_tabled t 1) none

pub head_tabled : (pcb : Tree) → AreTabled (head_refusals pcb)
head_tabled pcb =
    both (not_pcb pcb) _ (where_fails (is_headed (codes "pcb") pcb && is_some (word pcb 1)) 7 (at_of pcb) refl)
    (both (quoted_name pcb 1) _ (quoted_tabled pcb 1)
    (both (scale_refusals pcb (resolutions pcb) (units pcb)) _ (scale_tabled pcb (resolutions pcb) (units pcb))
    (both (host_refusal (hosts (codes "host_cad") pcb)) _ (host_tabled (hosts (codes "host_cad") pcb))
    (both (host_refusal (hosts (codes "host_version") pcb)) (header_left_out pcb)
    (host_tabled (hosts (codes "host_version") pcb))
    (both _ _ (all_left_out_tabled (pcb ∷ [])) (all_left_out_tabled (parsers pcb)))))))

-- ---- the structure
layers_tabled : (ts : List Tree) → AreTabled (layer_refusals ts)
unfolding layer_refusals
layers_tabled ts =
    both _ _ (each (λ t. quoted_name t 1) (λ t. quoted_tabled t 1) ts)
    (both _ _ (names_tabled 1 ts) (many_tabled Layers (λ e. cc) 0 ts))

boundary_tabled : (bounds : List Tree) (o : Option Tree) → AreTabled (no_boundary bounds o)
boundary_tabled bounds None = none
boundary_tabled bounds (Some t) = where_holds (length bounds == 0) 24 (at_of t) refl

missing_tabled : (pcb : Tree) (structs ls bounds : List Tree) → AreTabled (missing pcb structs ls bounds)
missing_tabled pcb structs ls bounds =
    both _ _ (where_holds (length structs == 0 || length ls == 0) 8 (at_of pcb) refl)
    (boundary_tabled bounds (slice_get structs 0))

sections_tabled : (structs ls ctrls : List Tree) → AreTabled (lists_left_out structs ls ctrls)
unfolding lists_left_out
sections_tabled structs ls ctrls =
    both _ _ (all_left_out_tabled structs) (both _ _ (all_left_out_tabled ls) (all_left_out_tabled ctrls))

frame_tabled : (pcb : Tree) (structs bounds : List Tree) → AreTabled (frame_refusals pcb structs bounds)
unfolding frame_refusals
frame_tabled pcb structs bounds =
    both (missing pcb structs (layer_lists structs) bounds) _ (missing_tabled pcb structs (layer_lists structs) bounds)
    (both _ _ (sections_tabled structs (layer_lists structs) (controls structs)) (layers_tabled (layer_lists structs)))

areas_tabled : (nm : ℕ) (layers : List Layer) (bounds bans : List Tree)
    → AreTabled (area_refusals nm layers bounds bans)
unfolding area_refusals
areas_tabled nm layers bounds bans =
    both _ _ (each (bound_refusals nm layers) (bound_tabled nm layers) bounds)
    (both _ _ (each (ban_refusals nm layers) (ban_tabled nm layers) bans)
    (many_tabled Items (λ e. cc) 0 (bounds ++ bans)))

vias_tabled : (known : List (List ℕ)) (ts : List Tree) → AreTabled (via_refusals known ts)
unfolding via_refusals
vias_tabled known ts =
    each (via_refusal known) (λ w. where_holds (is_unknown (first_place (text_of w) known)) 14 (at_of w) refl)
    (via_words ts)

parts_tabled : (nm : ℕ) (pcb : Tree) (structs bounds bans rules : List Tree)
    → AreTabled (refusals_of nm pcb structs bounds bans rules)
unfolding refusals_of
parts_tabled nm pcb structs bounds bans rules =
    both _ _ (frame_tabled pcb structs bounds)
    (both _ _ (areas_tabled nm (frame_layers structs) bounds bans)
    (both _ _ (vias_tabled (names_at 1 (padstacks pcb)) (via_lists structs)) (rules_tabled nm rules)))

pub structure_tabled : (nm : ℕ) (pcb : Tree) → AreTabled (structure_refusals nm pcb)
unfolding structure_refusals
structure_tabled nm pcb =
    parts_tabled nm pcb (structures pcb) (boundaries (structures pcb)) (keepouts (structures pcb))
    (rule_lists (structures pcb))
