-- The network: the nets, the classes and the class pairs of all its sections together.
use Rattle.std.specs.Prelude.{◌+◌, ℕ, List, [], ◌∷◌, ◌++◌, codes, map, sum_by}
use Rattle.std.specs.List.{flat_map}
use Rattle.dsn_tree.specs.declared.tree.Tree.{Tree}
use Rattle.dsn_shapes.specs.declared.known.ListKind.TheVariants as list
use Rattle.dsn_shapes.specs.declared.refusal.Refusal.{Refusal}
use Rattle.dsn_shapes.specs.declared.parts.Library.{Library}
use Rattle.dsn_shapes.specs.declared.parts.Network.{Network}
use Rattle.dsn_shapes.specs.declared.parts.Placing.{Placing}
use Rattle.dsn_shapes.specs.Lists.{lists, capped, notes_in, left_out_in}
use Rattle.dsn_shapes.specs.Names.{names_at, stack_names}
use Rattle.dsn_shapes.specs.Rules.{rule_notes}
use Rattle.dsn_network.specs.Words.{rules_in}
use Rattle.dsn_network.specs.Classes.{circuits_in, class_refusals, read_class_of, stray_names}
use Rattle.dsn_network.specs.Nets.{net_of, nets_refusals}
use Rattle.dsn_network.specs.Pairs.{pairs_of, pair_refusals}

abbrev pub networks : Tree → List Tree
networks pcb = lists (codes "network" ∷ []) (pcb ∷ [])

abbrev pub net_lists : Tree → List Tree
net_lists pcb = lists (codes "net" ∷ []) (networks pcb)

abbrev pub class_lists : Tree → List Tree
class_lists pcb = lists (codes "class" ∷ []) (networks pcb)

abbrev pub pair_lists : Tree → List Tree
pair_lists pcb = lists (codes "class_class" ∷ []) (networks pcb)

-- ---- lists that are left out or passed over, beside those of the table `read_in` and `idle_in`
-- directly in the classes and their circuits
unfoldable pub classes_left_out : List Tree → List Refusal
classes_left_out classes = left_out_in classes ++ left_out_in (circuits_in classes)

unfoldable pub classes_passed : List Tree → ℕ
classes_passed classes = notes_in list.Class classes + notes_in list.Class (circuits_in classes)

-- in the rules of these lists
abbrev pub rules_passed : List Tree → ℕ
rules_passed ts = sum_by (λ t. rule_notes (rules_in (t ∷ []))) ts

-- all refusals beside the parts, of a network with these sections, nets, classes and class pairs
unfoldable pub network_left_out : List Tree → List Tree → List Tree → List Tree → List Refusal
network_left_out sections nets classes pairs =
    left_out_in sections ++ (left_out_in nets ++ (classes_left_out classes ++ left_out_in pairs))

-- a class's name of no net is passed over too
unfoldable pub network_passed : List Tree → List Tree → List Tree → List Tree → ℕ
network_passed sections nets classes pairs =
    notes_in list.Network sections + notes_in list.Net nets
    + (classes_passed classes + stray_names (names_at 1 nets) classes + notes_in list.Pair pairs)

-- ---- the whole
-- all refusals of a network with these sections, nets, classes and class pairs
unfoldable pub refusals_of : ℕ → Library → Placing → List Tree → List Tree → List Tree → List Tree → List Refusal
refusals_of nm lib placing sections nets classes pairs = network_left_out sections nets classes pairs
    ++ (nets_refusals nm lib placing nets
    ++ (flat_map (class_refusals nm (stack_names lib.stacks)) classes
    ++ flat_map (pair_refusals nm (names_at 1 classes)) pairs))

-- its value
unfoldable pub value_of : ℕ → Library → Placing → List Tree → List Tree → List Tree → List Tree → Network
value_of nm lib placing sections nets classes pairs = record {
  nets = map (net_of nm lib placing classes) nets;
  classes = map (read_class_of nm (stack_names lib.stacks)) classes;
  pairs = flat_map (pairs_of nm (names_at 1 classes)) pairs;
  notes = capped (network_passed sections nets classes pairs
      + (rules_passed nets + rules_passed classes + rules_passed pairs));
}

-- the same of a design
abbrev pub network_refusals : ℕ → Library → Placing → Tree → List Refusal
network_refusals nm lib placing pcb = refusals_of nm lib placing (networks pcb) (net_lists pcb) (class_lists pcb)
    (pair_lists pcb)

abbrev pub network_of : ℕ → Library → Placing → Tree → Network
network_of nm lib placing pcb = value_of nm lib placing (networks pcb) (net_lists pcb) (class_lists pcb)
    (pair_lists pcb)
