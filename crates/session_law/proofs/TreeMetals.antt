-- What the printed names, wires, vias and nets of a session spell.
use Rattle.std.proofs.Common.{◌≡◌, ℕ, zero, suc, ◌+◌, ◌==◌, pos, Bool, true, false, List, [], ◌∷◌, ◌++◌, length}
use Rattle.std.proofs.Common.{refl, subst, arith, append_assoc}
use Rattle.std.specs.Prelude.{codes, flat_map, filter, slice_get, if◌then◌else◌, All}
use Rattle.std.specs.Option.{option_map_or}
use Rattle.std.specs.List.{enumerate_from}
use Rattle.std.proofs.lemmas.Bool.Decides.{nat_tests}
use Rattle.std.proofs.lemmas.List.Elements.{All-head, All-tail}
use Rattle.dsn_tree.specs.declared.tree.Tree.{Tree}
use Rattle.geo_kernel.specs.declared.point.Point.{Point}
use Rattle.pcb_model.specs.declared.item.Item.{Item}
use Rattle.pcb_model.specs.declared.item.Metal.{Metal}
use Rattle.pcb_model.specs.declared.item.Metal.TheVariants.{Wire, Via, Pad, Ban}
use Rattle.pcb_model.specs.declared.design.BoardLayer.{BoardLayer}
use Rattle.pcb_model.specs.declared.design.Padstack.{Padstack}
use Rattle.pcb_model.specs.declared.design.Net.{Net}
use Rattle.pcb_model.specs.declared.design.Design.{Design}
use Rattle.pcb_model.specs.Sound.{IsPrintable, HasPrintableNames}
use Rattle.ses_writer.specs.Words.{spelled}
use Rattle.ses_writer.specs.Session.{layer_word, padstack_word, metal_line, is_of_net, copper_lines, net_lines}
use Rattle.ses_writer.specs.Session.{network_entry, network_lines}
use Rattle.session_law.specs.Shape.{group_tree, word_tree, metal_trees, wire_tree, via_tree, copper_trees, net_trees}
use Rattle.session_law.proofs.TreePlain.{IsSpelled, name_word}
use Rattle.session_law.proofs.TreeSaying.{Says, closes, end, blank, gap, word, group, both, last, each, respell}
use Rattle.session_law.proofs.TreeNumbers.{number_says, point_says, chain_says}

-- ---- names
-- no name is printable
none_printable : IsPrintable []
none_printable k d h = absurd (omega (arith, h))

-- the name of an element of a list, or none, is printable where all of them are
printable_at : {X : Type 0} (name : X → List ℕ) (xs : List X) (i : ℕ) → All (λ (x : X). IsPrintable (name x)) xs
    → IsPrintable (option_map_or name (slice_get xs i) [])
printable_at {X} name [] i h = none_printable
printable_at {X} name (x ∷ xs) zero h = All-head (λ (y : X). IsPrintable (name y)) x xs h
printable_at {X} name (x ∷ xs) (suc i) h = printable_at name xs i (All-tail (λ (y : X). IsPrintable (name y)) x xs h)

-- a layer's name
pub layer_spelled : (d : Design) (layer : ℕ) → HasPrintableNames d
    → IsSpelled (option_map_or (λ (l : BoardLayer). l.name) (slice_get d.layers layer) []) (layer_word d layer)
layer_spelled d layer h = name_word _ (printable_at (λ (l : BoardLayer). l.name) d.layers layer h.layers)

-- a padstack's name
padstack_spelled : (d : Design) (padstack : ℕ) → HasPrintableNames d
    → IsSpelled (option_map_or (λ (s : Padstack). s.name) (slice_get d.padstacks padstack) [])
    (padstack_word d padstack)
padstack_spelled d padstack h = name_word _ (printable_at (λ (s : Padstack). s.name) d.padstacks padstack h.padstacks)

-- ---- copper
-- a wire
wire_says : (room : ℕ) (d : Design) (nm layer width : ℕ) (chain : List Point) → HasPrintableNames d
    → Says (suc (suc room)) (wire_tree d nm layer width chain ∷ []) (metal_line d nm (Wire layer width chain)) []
unfolding metal_line wire_tree
wire_says room d nm layer width chain h = respell
    (gap (codes "        ") refl (group (codes "wire") refl
    (blank 32 refl (group (codes "path") refl
    (word (layer_word d layer) (layer_spelled d layer h)
    (both (number_says room nm (pos width)) (last (chain_says room nm chain) closes)))
    closes))
    (blank 10 refl end)))
    (simp (append_assoc) refl)

-- a via
via_says : (room : ℕ) (d : Design) (nm padstack : ℕ) (at : Point) → HasPrintableNames d
    → Says (suc room) (via_tree d nm padstack at ∷ []) (metal_line d nm (Via padstack at)) []
unfolding metal_line via_tree
via_says room d nm padstack at h = respell
    (gap (codes "        ") refl (group (codes "via") refl
    (word (padstack_word d padstack) (padstack_spelled d padstack h) (last (point_says room nm at) closes))
    (blank 10 refl end)))
    (simp (append_assoc) refl)

-- a metal's line
metal_says : (room : ℕ) (d : Design) (nm : ℕ) (m : Metal) → HasPrintableNames d
    → Says (suc (suc room)) (metal_trees d nm m) (metal_line d nm m) []
unfolding metal_line
metal_says room d nm (Wire layer width chain) h = wire_says room d nm layer width chain h
metal_says room d nm (Via padstack at) h = via_says (suc room) d nm padstack at h
metal_says room d nm (Pad pin) h = end
metal_says room d nm (Ban wires vias) h = end

-- the lines of a net's items
copper_says : (room : ℕ) (d : Design) (nm : ℕ) (items : List Item) (net : ℕ) → HasPrintableNames d
    → Says (suc (suc room)) (copper_trees d nm items net) (copper_lines d nm items net) []
copper_says room d nm items net h =
    each (λ (a : Item). metal_trees d nm a.metal) (λ (a : Item). metal_line d nm a.metal)
    (λ (a : Item). metal_says room d nm a.metal h) (filter (is_of_net net) items)

-- ---- nets
-- a metal has a line where it has a tree
metal_none : (d : Design) (nm : ℕ) (m : Metal) (xs : List ℕ) (ts : List Tree) → (length xs == 0) ≡ (length ts == 0)
    → (length (metal_line d nm m ++ xs) == 0) ≡ (length (metal_trees d nm m ++ ts) == 0)
unfolding metal_line
metal_none d nm (Wire layer width chain) xs ts e = grind (arith, nat_tests)
metal_none d nm (Via padstack at) xs ts e = grind (arith, nat_tests)
metal_none d nm (Pad pin) xs ts e = e
metal_none d nm (Ban wires vias) xs ts e = e

-- so have items
items_none : (d : Design) (nm : ℕ) (items : List Item)
    → (length (flat_map (λ (a : Item). metal_line d nm a.metal) items) == 0)
    ≡ (length (flat_map (λ (a : Item). metal_trees d nm a.metal) items) == 0)
items_none d nm [] = refl
items_none d nm (a ∷ items) = metal_none d nm a.metal (flat_map (λ (a : Item). metal_line d nm a.metal) items)
    (flat_map (λ (a : Item). metal_trees d nm a.metal) items) (items_none d nm items)

-- a net with these lines
lines_say : (room : ℕ) (name lines : List ℕ) (copper : List Tree) (none : Bool) → IsPrintable name
    → Says (suc (suc room)) copper lines []
    → Says (suc (suc (suc room))) (if none then [] else group_tree (codes "net") (word_tree name ∷ copper) ∷ [])
    (if none then [] else codes "      (net " ++ spelled name ++ codes "\n" ++ lines ++ codes "      )\n") []
lines_say room name lines copper true h c = end
lines_say room name lines copper false h c = respell
    (gap (codes "      ") refl (group (codes "net") refl
    (word (spelled name) (name_word name h) (blank 10 refl (last c (gap (codes "      ") refl closes))))
    (blank 10 refl end)))
    (simp (append_assoc) refl)

-- a net
net_says : (room : ℕ) (d : Design) (nm : ℕ) (items : List Item) (i : ℕ) (n : Net) → HasPrintableNames d
    → IsPrintable n.name
    → Says (suc (suc (suc room))) (net_trees d nm items (i, n)) (network_entry d nm items (i, n)) []
unfolding net_lines
net_says room d nm items i n h p =
    let lines = copper_lines d nm items i in
    let copper = copper_trees d nm items i in
    subst (λ none. Says (suc (suc (suc room)))
    (if none then [] else group_tree (codes "net") (word_tree n.name ∷ copper) ∷ [])
    (net_lines n.name lines) [])
    (items_none d nm (filter (is_of_net i) items))
    (lines_say room n.name lines copper (length lines == 0) p (copper_says room d nm items i h))

-- the nets from one on
nets_say : (room : ℕ) (d : Design) (nm : ℕ) (items : List Item) (i : ℕ) (nets : List Net) → HasPrintableNames d
    → All (λ (n : Net). IsPrintable n.name) nets
    → Says (suc (suc (suc room))) (flat_map (net_trees d nm items) (enumerate_from i nets))
    (flat_map (network_entry d nm items) (enumerate_from i nets)) []
nets_say room d nm items i [] h p = end
nets_say room d nm items i (n ∷ nets) h p =
    both (net_says room d nm items i n h (All-head (λ (m : Net). IsPrintable m.name) n nets p))
    (nets_say room d nm items (i + 1) nets h (All-tail (λ (m : Net). IsPrintable m.name) n nets p))

-- the network
pub network_says : (room : ℕ) (d : Design) (nm : ℕ) (items : List Item) → HasPrintableNames d
    → Says (suc (suc (suc room))) (flat_map (net_trees d nm items) (enumerate_from 0 d.nets))
    (network_lines d nm items) []
unfolding network_lines
network_says room d nm items h = nets_say room d nm items 0 d.nets h h.nets
