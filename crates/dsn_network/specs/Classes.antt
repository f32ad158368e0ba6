-- Classes of nets: the nets that they name, the padstacks of their vias, and their rules.
use Rattle.std.specs.Prelude.{◌==◌, ◌+◌, ◌&&◌, ℕ, Bool, List, [], ◌∷◌, ◌++◌, Option, Some, None, codes, length, map}
use Rattle.std.specs.Prelude.{not, is_some, count_by, if◌then◌else◌}
use Rattle.std.specs.List.{flat_map, list_any}
use Rattle.std.specs.Option.{option_map, option_or}
use Rattle.std.specs.Str.{bytes_eq}
use Rattle.dsn_tree.specs.declared.tree.Tree.{Tree}
use Rattle.dsn_shapes.specs.declared.refusal.Refusal.{Refusal}
use Rattle.dsn_shapes.specs.declared.parts.ReadClass.{ReadClass}
use Rattle.dsn_shapes.specs.Refusals.{refused}
use Rattle.dsn_shapes.specs.Lists.{at_of, text_of, lists}
use Rattle.dsn_shapes.specs.Names.{first_place, place_index}
use Rattle.dsn_shapes.specs.Rules.{rule_set, rule_refusals}
use Rattle.dsn_network.specs.Words.{words_from, words_in, rules_in}
use Rattle.dsn_shapes.specs.declared.table.TheConstants.{NO_PADSTACK}

-- ---- the nets of a class, as in `(class POWER GND VCC (rule (width 400)))`
-- a class list names a net by a word behind its own name
abbrev pub names_net : List ℕ → Tree → Bool
names_net name t = list_any (λ w. bytes_eq (text_of w) name) (words_from 2 t)

-- the last of these class lists that names a net, where the first of them is number k
abbrev pub last_naming : List ℕ → ℕ → List Tree → Option ℕ
last_naming name k [] = None
last_naming name k (t ∷ ts) = option_or (last_naming name (k + 1) ts) (if names_net name t then Some k else None)

-- the class of a net: the last class list that names it
unfoldable pub class_of : List ℕ → List Tree → Option ℕ
class_of name classes = option_map place_index (last_naming name 0 classes)

-- a word that isn't empty and names no net, where the nets have these names
abbrev pub is_stray : List (List ℕ) → Tree → Bool
is_stray nets w = not (length (text_of w) == 0) && not (is_some (first_place (text_of w) nets))

unfoldable pub stray_names : List (List ℕ) → List Tree → ℕ
stray_names nets classes = count_by (is_stray nets) (words_in 2 classes)

-- ---- vias of a class, as in `(circuit (use_via V1 V2))`
abbrev pub circuits_in : List Tree → List Tree
circuits_in ts = lists (codes "circuit" ∷ []) ts

abbrev pub via_lists : List Tree → List Tree
via_lists ts = lists (codes "use_via" ∷ []) (circuits_in ts)

abbrev pub stack_at : Option ℕ → ℕ
stack_at None = 0
stack_at (Some n) = place_index n

abbrev pub via_stack : List (List ℕ) → Tree → ℕ
via_stack stacks w = stack_at (first_place (text_of w) stacks)

-- a via's padstack that the library lacks
abbrev pub unknown_via : List (List ℕ) → Tree → List Refusal
unknown_via stacks w = if is_some (first_place (text_of w) stacks) then [] else refused NO_PADSTACK (at_of w) ∷ []

unfoldable pub via_refusals : List (List ℕ) → List Tree → List Refusal
via_refusals stacks ts = flat_map (unknown_via stacks) (words_in 1 ts)

-- a class without `use_via` leaves the vias to the structure
unfoldable pub vias_of : List (List ℕ) → List Tree → Option (List ℕ)
vias_of stacks ts = if length ts == 0 then None else Some (map (via_stack stacks) (words_in 1 ts))

-- ---- the whole
-- a class, where the padstacks have these names
unfoldable pub read_class_of : ℕ → List (List ℕ) → Tree → ReadClass
read_class_of nm stacks t =
    record { vias = vias_of stacks (via_lists (t ∷ [])); rules = rule_set nm (rules_in (t ∷ [])) }

unfoldable pub class_refusals : ℕ → List (List ℕ) → Tree → List Refusal
class_refusals nm stacks t = via_refusals stacks (via_lists (t ∷ [])) ++ rule_refusals nm (rules_in (t ∷ []))
