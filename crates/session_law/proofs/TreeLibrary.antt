-- What the printed padstacks and hosts of a session spell.
use Rattle.std.proofs.Common.{◌≡◌, ℕ, suc, ◌+◌, pos, Bool, true, false, List, [], ◌∷◌, ◌++◌, refl, append_assoc}
use Rattle.std.specs.Prelude.{codes, flat_map, if◌then◌else◌, All, Option, Some, None, IfSome}
use Rattle.std.specs.List.{enumerate_from}
use Rattle.std.proofs.lemmas.List.Elements.{All-head, All-tail}
use Rattle.dsn_tree.specs.declared.tree.Tree.{Tree}
use Rattle.geo_kernel.specs.declared.spine.Spine.{Spine}
use Rattle.geo_kernel.specs.declared.spine.Spine.TheVariants.{Chain, Area}
use Rattle.pcb_model.specs.declared.item.Item.{Item}
use Rattle.pcb_model.specs.declared.item.Piece.{Piece}
use Rattle.pcb_model.specs.declared.design.Padstack.{Padstack}
use Rattle.pcb_model.specs.declared.design.Design.{Design}
use Rattle.pcb_model.specs.Sound.{IsPrintable, HasPrintableNames}
use Rattle.ses_writer.specs.Words.{spelled, length_word}
use Rattle.ses_writer.specs.Session.{layer_word, shape_word, spine_words, shape_line, padstack_lines, has_via_of}
use Rattle.ses_writer.specs.Session.{library_entry, library_lines, host_line, parser_lines}
use Rattle.session_law.specs.Shape.{group_tree, layer_tree, number_tree, shape_head, spine_trees, shape_trees}
use Rattle.session_law.specs.Shape.{stack_tree, stack_trees, host_trees, parser_tree}
use Rattle.session_law.proofs.TreePlain.{name_word}
use Rattle.session_law.proofs.TreeSaying.{Says, closes, end, blank, gap, word, group, can_head, constant, both, last}
use Rattle.session_law.proofs.TreeSaying.{each, respell}
use Rattle.session_law.proofs.TreeNumbers.{number_says, chain_says, area_says}
use Rattle.session_law.proofs.TreeMetals.{layer_spelled}

-- ---- shapes
-- a shape of this kind with these points
abbrev kind_tree : Design → ℕ → ℕ → ℕ → List ℕ → List Tree → Tree
kind_tree d nm layer width head points = group_tree (codes "shape")
    (group_tree head (layer_tree d layer ∷ number_tree nm (pos width) ∷ points) ∷ [])

-- its line
kind_says : (room : ℕ) (d : Design) (nm layer width : ℕ) (head words : List ℕ) (points : List Tree)
    → HasPrintableNames d
    → can_head head ≡ true → Says room points words []
    → Says (suc (suc room)) (kind_tree d nm layer width head points ∷ [])
    (codes "        (shape (" ++ (head ++ 32 ∷ (layer_word d layer
    ++ (length_word nm (pos width) ++ (words ++ codes "))\n"))))) []
kind_says room d nm layer width head words points h can p =
    gap (codes "        ") refl (group (codes "shape") refl
    (blank 32 refl (group head can
    (word (layer_word d layer) (layer_spelled d layer h) (both (number_says room nm (pos width)) (last p closes)))
    closes))
    (blank 10 refl end))

-- the same of any spine
spine_says : (room : ℕ) (d : Design) (nm layer width : ℕ) (s : Spine) → HasPrintableNames d
    → Says (suc (suc room)) (kind_tree d nm layer width (shape_head s) (spine_trees nm s) ∷ [])
    (codes "        (shape (" ++ shape_word s ++ layer_word d layer ++ length_word nm (pos width)
    ++ spine_words nm s ++ codes "))\n") []
spine_says room d nm layer width (Chain []) h = respell
    (kind_says room d nm layer width (codes "path") _ _ h refl (chain_says room nm []))
    (simp (append_assoc) refl)
spine_says room d nm layer width (Chain (p ∷ [])) h = respell
    (kind_says room d nm layer width (codes "circle") _ _ h refl (chain_says room nm (p ∷ [])))
    (simp (append_assoc) refl)
spine_says room d nm layer width (Chain (p ∷ q ∷ ps)) h = respell
    (kind_says room d nm layer width (codes "path") _ _ h refl (chain_says room nm (p ∷ q ∷ ps)))
    (simp (append_assoc) refl)
spine_says room d nm layer width (Area loops) h = respell
    (kind_says room d nm layer width (codes "polygon") _ _ h refl (area_says room nm loops))
    (simp (append_assoc) refl)

-- a piece of copper
shape_says : (room : ℕ) (d : Design) (nm : ℕ) (c : Piece) → HasPrintableNames d
    → Says (suc (suc room)) (shape_trees d nm c) (shape_line d nm c) []
unfolding shape_trees shape_line
shape_says room d nm c h = spine_says room d nm c.layer c.width c.spine h

-- ---- padstacks
-- a padstack
stack_says : (room : ℕ) (d : Design) (nm : ℕ) (s : Padstack) → HasPrintableNames d → IsPrintable s.name
    → Says (suc (suc (suc room))) (stack_tree d nm s ∷ []) (padstack_lines d nm s) []
unfolding stack_tree padstack_lines
stack_says room d nm s h p = respell
    (gap (codes "      ") refl (group (codes "padstack") refl
    (word (spelled s.name) (name_word s.name p) (blank 10 refl
    (both (each (shape_trees d nm) (shape_line d nm) (λ (c : Piece). shape_says room d nm c h) s.pieces)
    (gap (codes "        ") refl (group (codes "attach") refl
    (word (codes "off") (constant (codes "off") refl) closes)
    (blank 10 refl (gap (codes "      ") refl closes)))))))
    (blank 10 refl end)))
    (simp (append_assoc) refl)

-- one that is printed or not
stack_if : (room : ℕ) (t : Tree) (lines : List ℕ) (printed : Bool) → Says room (t ∷ []) lines []
    → Says room (if printed then t ∷ [] else []) (if printed then lines else []) []
stack_if room t lines true a = a
stack_if room t lines false a = end

-- the padstacks from one on
stacks_say : (room : ℕ) (d : Design) (nm : ℕ) (items : List Item) (i : ℕ) (stacks : List Padstack)
    → HasPrintableNames d
    → All (λ (s : Padstack). IsPrintable s.name) stacks
    → Says (suc (suc (suc room))) (flat_map (stack_trees d nm items) (enumerate_from i stacks))
    (flat_map (library_entry d nm items) (enumerate_from i stacks)) []
stacks_say room d nm items i [] h p = end
stacks_say room d nm items i (s ∷ stacks) h p =
    both (stack_if (suc (suc (suc room))) (stack_tree d nm s) (padstack_lines d nm s) (has_via_of i items)
    (stack_says room d nm s h (All-head (λ (t : Padstack). IsPrintable t.name) s stacks p)))
    (stacks_say room d nm items (i + 1) stacks h (All-tail (λ (t : Padstack). IsPrintable t.name) s stacks p))

-- the library
pub library_says : (room : ℕ) (d : Design) (nm : ℕ) (items : List Item) → HasPrintableNames d
    → Says (suc (suc (suc room))) (flat_map (stack_trees d nm items) (enumerate_from 0 d.padstacks))
    (library_lines d nm items) []
unfolding library_lines
library_says room d nm items h = stacks_say room d nm items 0 d.padstacks h h.padstacks

-- ---- hosts
-- a host
host_says : (room : ℕ) (head : List ℕ) (host : Option (List ℕ)) → can_head head ≡ true → IfSome host IsPrintable
    → Says (suc room) (host_trees head host) (host_line head host) []
unfolding host_line
host_says room head None can h = end
host_says room head (Some host) can h = respell
    (gap (codes "      ") refl (group head can (word (spelled host) (name_word host h) closes) (blank 10 refl end)))
    (simp (append_assoc) refl)

-- the parser
pub parser_says : (room : ℕ) (d : Design) → HasPrintableNames d → Says (suc (suc room)) (parser_tree d ∷ [])
    (parser_lines d) []
unfolding parser_tree parser_lines
parser_says room d h = respell
    (gap (codes "    ") refl (group (codes "parser") refl
    (blank 10 refl (both (host_says room (codes "host_cad") d.host_cad refl h.host_cad)
    (last (host_says room (codes "host_version") d.host_version refl h.host_version)
    (gap (codes "    ") refl closes))))
    (blank 10 refl end)))
    (simp (append_assoc) refl)
