-- Each refusal of a network is one of the table.
use Rattle.std.proofs.Common.{◌+◌, ℕ, List, [], ◌∷◌, map, refl}
use Rattle.std.specs.Prelude.{◌==◌, is_some, length}
use Rattle.dsn_tree.specs.declared.tree.Tree.{Tree}
use Rattle.dsn_shapes.specs.declared.refusal.What.TheVariants.{Nets}
use Rattle.dsn_shapes.specs.declared.parts.Library.{Library}
use Rattle.dsn_shapes.specs.declared.parts.Placing.{Placing}
use Rattle.dsn_shapes.specs.declared.parts.PinRef.{PinRef}
use Rattle.dsn_shapes.specs.declared.parts.Split.{Split}
use Rattle.dsn_shapes.specs.declared.parts.Split.TheVariants.{Unknown, One, Many}
use Rattle.dsn_shapes.specs.Lists.{at_of, text_of}
use Rattle.dsn_shapes.specs.Names.{first_place, is_at, names_at, stack_names}
use Rattle.dsn_shapes.proofs.Tabled.{AreTabled, all_left_out_tabled, both, each, many_tabled, names_tabled, none, one}
use Rattle.dsn_shapes.proofs.Tabled.{pair_rules_tabled, quoted_tabled, rules_tabled, where_fails, where_holds}
use Rattle.dsn_network.specs.Words.{rules_in, words_in}
use Rattle.dsn_network.specs.Splits.{split_of}
use Rattle.dsn_network.specs.Classes.{circuits_in, class_refusals, unknown_via, via_lists, via_refusals}
use Rattle.dsn_network.specs.Nets.{first_net, is_placed, net_pins, net_refusals, nets_refusals}
use Rattle.dsn_network.specs.Nets.{pins_taken, ref_refusals, ref_taken, refs_of, split_refusals, split_taken}
use Rattle.dsn_network.specs.Nets.{taken_from}
use Rattle.dsn_network.specs.Pairs.{has_two_names, name_refusals, pair_names, pair_refusals, places_named}
use Rattle.dsn_network.specs.Pairs.{unknown_class}
use Rattle.dsn_network.specs.Whole.{class_lists, classes_left_out, net_lists, network_left_out}
use Rattle.dsn_network.specs.Whole.{network_refusals, networks, pair_lists, refusals_of}

-- ---- references of pins
split_tabled : (placing : Placing) (at : ℕ) (s : Split) → AreTabled (split_refusals placing at s)
split_tabled placing at Unknown = one 16 at refl
split_tabled placing at (One p) = where_fails (is_placed placing p) 19 at refl
split_tabled placing at Many = one 17 at refl

ref_tabled : (lib : Library) (placing : Placing) (w : Tree) → AreTabled (ref_refusals lib placing w)
unfolding ref_refusals
ref_tabled lib placing w = split_tabled placing (at_of w) (split_of lib placing (text_of w))

split_taken_tabled : (nets : List (List PinRef)) (k at : ℕ) (s : Split) → AreTabled (split_taken nets k at s)
split_taken_tabled nets k at Unknown = none
split_taken_tabled nets k at (One p) = where_fails (is_at k (first_net p nets)) 18 at refl
split_taken_tabled nets k at Many = none

ref_taken_tabled : (lib : Library) (placing : Placing) (nets : List (List PinRef)) (k : ℕ) (w : Tree)
    → AreTabled (ref_taken lib placing nets k w)
unfolding ref_taken
ref_taken_tabled lib placing nets k w = split_taken_tabled nets k (at_of w) (split_of lib placing (text_of w))

taken_tabled : (lib : Library) (placing : Placing) (nets : List (List PinRef)) (k : ℕ) (ts : List Tree)
    → AreTabled (taken_from lib placing nets k ts)
taken_tabled lib placing nets k [] = none
taken_tabled lib placing nets k (t ∷ ts) =
    both _ (taken_from lib placing nets (k + 1) ts)
    (each (ref_taken lib placing nets k) (ref_taken_tabled lib placing nets k) (refs_of t))
    (taken_tabled lib placing nets (k + 1) ts)

pins_tabled : (lib : Library) (placing : Placing) (ts : List Tree) → AreTabled (pins_taken lib placing ts)
unfolding pins_taken
pins_tabled lib placing ts = taken_tabled lib placing (map (net_pins lib placing) ts) 0 ts

-- ---- nets
net_tabled : (nm : ℕ) (lib : Library) (placing : Placing) (t : Tree) → AreTabled (net_refusals nm lib placing t)
unfolding net_refusals
net_tabled nm lib placing t =
    both _ _ (quoted_tabled t 1)
    (both _ _ (each (ref_refusals lib placing) (ref_tabled lib placing) (refs_of t))
    (rules_tabled nm (rules_in (t ∷ []))))

nets_tabled : (nm : ℕ) (lib : Library) (placing : Placing) (ts : List Tree)
    → AreTabled (nets_refusals nm lib placing ts)
unfolding nets_refusals
nets_tabled nm lib placing ts =
    both _ _ (names_tabled 1 ts)
    (both _ _ (many_tabled Nets (λ e. cc) 0 ts)
    (both _ _ (each (net_refusals nm lib placing) (net_tabled nm lib placing) ts) (pins_tabled lib placing ts)))

-- ---- classes
vias_tabled : (stacks : List (List ℕ)) (ts : List Tree) → AreTabled (via_refusals stacks ts)
unfolding via_refusals
vias_tabled stacks ts =
    each (unknown_via stacks) (λ w. where_fails (is_some (first_place (text_of w) stacks)) 14 (at_of w) refl)
    (words_in 1 ts)

class_tabled : (nm : ℕ) (stacks : List (List ℕ)) (t : Tree) → AreTabled (class_refusals nm stacks t)
unfolding class_refusals
class_tabled nm stacks t = both _ _ (vias_tabled stacks (via_lists (t ∷ []))) (rules_tabled nm (rules_in (t ∷ [])))

-- ---- class pairs
class_named : (names : List (List ℕ)) (w : Tree) → AreTabled (unknown_class names w)
class_named names w = where_holds (length (places_named (text_of w) names) == 0) 25 (at_of w) refl

pair_tabled : (nm : ℕ) (names : List (List ℕ)) (t : Tree) → AreTabled (pair_refusals nm names t)
unfolding pair_refusals name_refusals
pair_tabled nm names t =
    both (name_refusals names t) _
    (both _ _ (where_fails (has_two_names t) 26 (at_of t) refl)
    (each (unknown_class names) (class_named names) (pair_names t)))
    (pair_rules_tabled nm (rules_in (t ∷ [])))

-- ---- the whole
left_out_tabled : (sections nets classes pairs : List Tree) → AreTabled (network_left_out sections nets classes pairs)
unfolding network_left_out classes_left_out
left_out_tabled sections nets classes pairs =
    both _ _ (all_left_out_tabled sections)
    (both _ _ (all_left_out_tabled nets)
    (both _ _ (both _ _ (all_left_out_tabled classes) (all_left_out_tabled (circuits_in classes)))
    (all_left_out_tabled pairs)))

parts_tabled : (nm : ℕ) (lib : Library) (placing : Placing) (sections nets classes pairs : List Tree)
    → AreTabled (refusals_of nm lib placing sections nets classes pairs)
unfolding refusals_of
parts_tabled nm lib placing sections nets classes pairs =
    both _ _ (left_out_tabled sections nets classes pairs)
    (both _ _ (nets_tabled nm lib placing nets)
    (both _ _ (each (class_refusals nm (stack_names lib.stacks)) (class_tabled nm (stack_names lib.stacks)) classes)
    (each (pair_refusals nm (names_at 1 classes)) (pair_tabled nm (names_at 1 classes)) pairs)))

pub network_tabled : (nm : ℕ) (lib : Library) (placing : Placing) (pcb : Tree)
    → AreTabled (network_refusals nm lib placing pcb)
network_tabled nm lib placing pcb = parts_tabled nm lib placing (networks pcb) (net_lists pcb) (class_lists pcb)
    (pair_lists pcb)
