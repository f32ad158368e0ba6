-- The structure: layers, boundaries, keepouts, via padstacks and rules.
use Rattle.std.specs.Prelude.{◌==◌, ◌||◌, ◌+◌, ℕ, Bool, true, false, List, [], ◌∷◌, ◌++◌, Option, Some, None, codes}
use Rattle.std.specs.Prelude.{length, map, filter, drop, slice_get, sum_by, if◌then◌else◌}
use Rattle.std.specs.List.{flat_map, list_any}
use Rattle.std.specs.Option.{option_map_or}
use Rattle.dsn_tree.specs.declared.tree.Tree.{Tree}
use Rattle.dsn_tree.specs.Heads.{child, items_of}
use Rattle.dsn_shapes.specs.declared.known.ListKind.TheVariants as list
use Rattle.dsn_shapes.specs.declared.refusal.Refusal.{Refusal}
use Rattle.dsn_shapes.specs.declared.refusal.What.TheVariants.{Layers, Items}
use Rattle.dsn_shapes.specs.declared.parts.Layer.{Layer}
use Rattle.dsn_shapes.specs.declared.parts.Structure.{Structure}
use Rattle.dsn_shapes.specs.Refusals.{refused}
use Rattle.dsn_shapes.specs.Limits.{too_many}
use Rattle.dsn_shapes.specs.Known.{keepout_heads}
use Rattle.dsn_shapes.specs.Lists.{at_of, text_of, is_word, lists, name_of, says, quoted_name, capped, notes_in}
use Rattle.dsn_shapes.specs.Lists.{left_out_in}
use Rattle.dsn_shapes.specs.Names.{names_at, first_place, same_names}
use Rattle.dsn_shapes.specs.Shapes.{ban_of, ban_refusals, ban_notes, bound_of, bound_refusals}
use Rattle.dsn_shapes.specs.Rules.{rule_set, rule_refusals, rule_notes}
use Rattle.dsn_shapes.specs.declared.table.TheConstants.{NO_BOUNDARY, NO_PADSTACK, NO_SECTION}

-- ---- lists
abbrev pub structures : Tree → List Tree
structures pcb = lists (codes "structure" ∷ []) (pcb ∷ [])

abbrev pub layer_lists : List Tree → List Tree
layer_lists structs = lists (codes "layer" ∷ []) structs

abbrev pub boundaries : List Tree → List Tree
boundaries structs = lists (codes "boundary" ∷ []) structs

abbrev pub keepouts : List Tree → List Tree
keepouts structs = lists keepout_heads structs

abbrev pub via_lists : List Tree → List Tree
via_lists structs = lists (codes "via" ∷ []) structs

abbrev pub rule_lists : List Tree → List Tree
rule_lists structs = lists (codes "rule" ∷ []) structs

abbrev pub controls : List Tree → List Tree
controls structs = lists (codes "control" ∷ []) structs

-- the padstacks of the library
abbrev pub padstacks : Tree → List Tree
padstacks pcb = lists (codes "padstack" ∷ []) (lists (codes "library" ∷ []) (pcb ∷ []))

-- ---- layers
-- a layer of type `power` is a power layer
abbrev pub is_power : Tree → Bool
is_power t = option_map_or (λ type. says type 1 (codes "power")) (child t (codes "type")) false

abbrev pub layer_of : Tree → Layer
layer_of t = record { name = name_of t 1; power = is_power t }

unfoldable pub layers_in : List Tree → List Layer
layers_in ts = map layer_of ts

unfoldable pub layer_refusals : List Tree → List Refusal
layer_refusals ts = flat_map (λ t. quoted_name t 1) ts ++ (same_names 1 ts ++ too_many Layers 0 ts)

-- ---- parts that are missing
-- no structure or no layer; no boundary, at the first structure
abbrev pub no_boundary : List Tree → Option Tree → List Refusal
no_boundary bounds None = []
no_boundary bounds (Some t) = if length bounds == 0 then refused NO_BOUNDARY (at_of t) ∷ [] else []

abbrev pub missing : Tree → List Tree → List Tree → List Tree → List Refusal
missing pcb structs ls bounds =
    (if length structs == 0 || length ls == 0 then refused NO_SECTION (at_of pcb) ∷ [] else [])
    ++ no_boundary bounds (slice_get structs 0)

-- ---- boundaries and keepouts
unfoldable pub area_refusals : ℕ → List Layer → List Tree → List Tree → List Refusal
area_refusals nm layers bounds bans = flat_map (bound_refusals nm layers) bounds
    ++ (flat_map (ban_refusals nm layers) bans ++ too_many Items 0 (bounds ++ bans))

-- ---- via padstacks, each of which the library has
-- the words behind the head of a list
abbrev pub names_in : Tree → List Tree
names_in t = filter is_word (drop 1 (items_of t))

abbrev pub via_words : List Tree → List Tree
via_words ts = flat_map names_in ts

abbrev pub is_unknown : Option ℕ → Bool
is_unknown None = true
is_unknown (Some n) = false

abbrev pub via_refusal : List (List ℕ) → Tree → List Refusal
via_refusal known w = if is_unknown (first_place (text_of w) known) then refused NO_PADSTACK (at_of w) ∷ [] else []

unfoldable pub via_refusals : List (List ℕ) → List Tree → List Refusal
via_refusals known ts = flat_map (via_refusal known) (via_words ts)

unfoldable pub via_names : List Tree → List (List ℕ)
via_names ts = map text_of (via_words ts)

-- ---- switches
-- one of these lists says this keyword
unfoldable pub any_says : List ℕ → List Tree → Bool
any_says keyword ts = list_any (λ t. says t 1 keyword) ts

-- `(control (via_at_smd on))`
unfoldable pub via_at_smd : List Tree → Bool
via_at_smd ctrls = any_says (codes "on") (lists (codes "via_at_smd" ∷ []) ctrls)

-- `(place_control (flip_style rotate_first))` in the structure or the placement
unfoldable pub flip_last : Tree → Bool
flip_last pcb =
    any_says (codes "rotate_first")
    (lists (codes "flip_style" ∷ [])
    (lists (codes "place_control" ∷ []) (lists (codes "structure" ∷ codes "placement" ∷ []) (pcb ∷ []))))

-- ---- lists that are left out or passed over, beside those of the table `read_in` and `idle_in`; a plane is passed
-- over
unfoldable pub lists_left_out : List Tree → List Tree → List Tree → List Refusal
lists_left_out structs ls ctrls = left_out_in structs ++ (left_out_in ls ++ left_out_in ctrls)

unfoldable pub lists_passed : List Tree → List Tree → List Tree → ℕ
lists_passed structs ls ctrls = notes_in list.Structure structs
    + (notes_in list.Layer ls + notes_in list.Control ctrls)

-- ---- the whole
-- the layers, what stands beside the parts, and the parts that are missing
unfoldable pub frame_layers : List Tree → List Layer
frame_layers structs = layers_in (layer_lists structs)

unfoldable pub frame_refusals : Tree → List Tree → List Tree → List Refusal
frame_refusals pcb structs bounds = missing pcb structs (layer_lists structs) bounds
    ++ (lists_left_out structs (layer_lists structs) (controls structs) ++ layer_refusals (layer_lists structs))

abbrev pub frame_notes : List Tree → ℕ
frame_notes structs = lists_passed structs (layer_lists structs) (controls structs)

-- all refusals of a structure of these sections, with these boundaries, keepouts and rules
unfoldable pub refusals_of : ℕ → Tree → List Tree → List Tree → List Tree → List Tree → List Refusal
refusals_of nm pcb structs bounds bans rules = frame_refusals pcb structs bounds
    ++ (area_refusals nm (frame_layers structs) bounds bans
    ++ (via_refusals (names_at 1 (padstacks pcb)) (via_lists structs)
    ++ rule_refusals nm rules))

-- its value; a padstack that no via can use is a note too, which is counted where the library is known
unfoldable pub value_of : ℕ → Tree → List Tree → List Tree → List Tree → List Tree → Structure
value_of nm pcb structs bounds bans rules = record {
  layers = frame_layers structs;
  bounds = map (bound_of nm (frame_layers structs)) bounds;
  bans = map (ban_of nm (frame_layers structs)) bans;
  vias = via_names (via_lists structs);
  rules = rule_set nm rules;
  via_at_smd = via_at_smd (controls structs);
  flip_last = flip_last pcb;
  notes = capped (frame_notes structs + (sum_by ban_notes bans + rule_notes rules));
}

-- the same of a design, whose sections of that head count together
unfoldable pub structure_refusals : ℕ → Tree → List Refusal
structure_refusals nm pcb =
    refusals_of nm pcb (structures pcb) (boundaries (structures pcb)) (keepouts (structures pcb))
    (rule_lists (structures pcb))

unfoldable pub structure_of : ℕ → Tree → Structure
structure_of nm pcb =
    value_of nm pcb (structures pcb) (boundaries (structures pcb)) (keepouts (structures pcb))
    (rule_lists (structures pcb))
