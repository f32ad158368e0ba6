-- The placement: the components of all its sections together, and how many pins and items they place.
use Rattle.std.specs.Prelude.{◌+◌, nat_lt, ℕ, List, [], ◌∷◌, ◌++◌, codes, length, map, if◌then◌else◌}
use Rattle.std.specs.List.{flat_map}
use Rattle.dsn_tree.specs.declared.tree.Tree.{Tree}
use Rattle.dsn_shapes.specs.declared.known.ListKind.TheVariants as list
use Rattle.dsn_shapes.specs.declared.refusal.Refusal.{Refusal}
use Rattle.dsn_shapes.specs.declared.refusal.What.{What}
use Rattle.dsn_shapes.specs.declared.refusal.What.TheVariants.{Nothing, Layers, Nets, Pins, Items, Vertices}
use Rattle.dsn_shapes.specs.declared.parts.Library.{Library}
use Rattle.dsn_shapes.specs.declared.parts.Structure.{Structure}
use Rattle.dsn_shapes.specs.declared.parts.Placing.{Placing}
use Rattle.dsn_shapes.specs.Limits.{most_of, past_limit}
use Rattle.dsn_shapes.specs.Lists.{capped, left_out_in, lists, notes_in}
use Rattle.dsn_shapes.specs.Names.{same_names}
use Rattle.dsn_placement.specs.declared.place.Laid.{Laid}
use Rattle.dsn_placement.specs.Places.{component_laid, component_refusals, places_in}

-- ---- lists
abbrev pub placements : Tree → List Tree
placements pcb = lists (codes "placement" ∷ []) (pcb ∷ [])

abbrev pub components : Tree → List Tree
components pcb = lists (codes "component" ∷ []) (placements pcb)

-- ---- lists that are left out or passed over, beside those of the table `read_in` and `idle_in`
unfoldable pub lists_left_out : List Tree → List Tree → List Tree → List Refusal
lists_left_out sections comps places = left_out_in sections ++ (left_out_in comps ++ left_out_in places)

unfoldable pub lists_passed : List Tree → List Tree → List Tree → ℕ
lists_passed sections comps places = notes_in list.Placement sections
    + (notes_in list.Component comps + notes_in list.Component places)

-- ---- limits
-- what a component adds to what is counted
abbrev pub adds : What → Laid → ℕ
adds Nothing l = 0
adds Layers l = 0
adds Nets l = 0
adds Pins l = l.pins
adds Items l = l.items
adds Vertices l = 0

-- the component with which the count first passes the limit, where n were counted before these
abbrev pub first_past : What → ℕ → List Laid → List Refusal
first_past what n [] = []
first_past what n (l ∷ ls) = if nat_lt (most_of what) (n + adds what l)
    then past_limit what l.at ∷ [] else first_past what (n + adds what l) ls

-- the items of the structure: its boundaries and its keepouts
abbrev pub items_before : Structure → ℕ
items_before st = capped (length st.bounds + length st.bans)

-- where a component passes both limits, the pins count
unfoldable pub limit_refusals : ℕ → List Laid → List Refusal
limit_refusals before ls = first_past Pins 0 ls ++ first_past Items before ls

-- ---- the whole
unfoldable pub all_laid : ℕ → Structure → Library → Tree → List Laid
all_laid nm st lib pcb = flat_map (component_laid nm st.flip_last lib) (components pcb)

-- all refusals of the placement
abbrev pub placement_refusals : ℕ → Structure → Library → Tree → List Refusal
placement_refusals nm st lib pcb = lists_left_out (placements pcb) (components pcb) (places_in (components pcb))
    ++ (same_names 1 (places_in (components pcb))
    ++ (flat_map (component_refusals nm st.flip_last lib) (components pcb)
    ++ limit_refusals (items_before st) (all_laid nm st lib pcb)))

-- its value
abbrev pub placing_of : ℕ → Structure → Library → Tree → Placing
placing_of nm st lib pcb = record {
  places = map (λ (l : Laid). l.place) (all_laid nm st lib pcb);
  notes = capped (lists_passed (placements pcb) (components pcb) (places_in (components pcb)));
}
