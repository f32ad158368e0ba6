-- The net of a wire or via, and whether it is fixed.
use Rattle.std.specs.Prelude.{◌||◌, ℕ, Bool, false, not, List, [], ◌∷◌, Option, None, codes, is_some, map}
use Rattle.std.specs.Prelude.{if◌then◌else◌}
use Rattle.std.specs.Option.{option_map, option_map_or}
use Rattle.dsn_tree.specs.declared.tree.Tree.{Tree}
use Rattle.dsn_tree.specs.Heads.{child}
use Rattle.dsn_shapes.specs.declared.refusal.Refusal.{Refusal}
use Rattle.dsn_shapes.specs.declared.parts.ReadNet.{ReadNet}
use Rattle.dsn_shapes.specs.Refusals.{refused}
use Rattle.dsn_shapes.specs.Lists.{nth_word, place_of, says, text_of}
use Rattle.dsn_shapes.specs.Names.{first_place, place_index}
use Rattle.dsn_shapes.specs.declared.table.TheConstants.{NO_NET}

abbrev pub net_names : List ReadNet → List (List ℕ)
net_names nets = map (λ (n : ReadNet). n.name) nets

-- the place of the net that a list such as `(net A)` names; one without a word names none, also where a net has the
-- empty name
abbrev pub place_in : List (List ℕ) → Tree → Option ℕ
place_in nets t = option_map_or (λ w. first_place (text_of w) nets) (nth_word t 1) None

abbrev pub unknown_net : List (List ℕ) → Tree → List Refusal
unknown_net nets t = if is_some (place_in nets t) then [] else refused NO_NET (place_of t 1) ∷ []

-- the net of a wire or via, by its first list `net`
unfoldable pub net_of : List (List ℕ) → Tree → Option ℕ
net_of nets t = option_map place_index (option_map_or (place_in nets) (child t (codes "net")) None)

unfoldable pub net_refusals : List (List ℕ) → Tree → List Refusal
net_refusals nets t = option_map_or (unknown_net nets) (child t (codes "net")) []

-- the types that fix
abbrev pub is_fix : Tree → Bool
is_fix t = says t 1 (codes "fix") || says t 1 (codes "protect")

-- a wire or via without a net is fixed, and so is one whose first list `type` says so
unfoldable pub is_fixed : Option ℕ → Tree → Bool
is_fixed net t = not (is_some net) || option_map_or is_fix (child t (codes "type")) false
