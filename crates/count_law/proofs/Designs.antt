-- The notes of a design: those of its sections, and the padstacks of via lists that aren't usable, as a plain sum.
-- A via list names at most 2^26 padstacks and there are at most 2^26 lists, so their sum is below 2^53.
use Rattle.std.proofs.Common.{◌≡◌, ◌∙◌, ap, subst, sym, ◌≤◌, ◌+◌, ◌^◌, ℕ, List, [], ◌∷◌, Option, Some, None}
use Rattle.std.proofs.Common.{length, arith}
use Rattle.std.specs.Prelude.{All, IfSome, not, unwrap_or}
use Rattle.std.proofs.lemmas.List.{length-map}
use Rattle.std.proofs.lemmas.List.Elements.{All-weaker}
use Rattle.std.proofs.lemmas.List.Sums.{count_by-le-length, sum_by-le}
use Rattle.dsn_tree.specs.declared.tree.Tree.{Tree}
use Rattle.dsn_tree.specs.Trees.{HasTree}
use Rattle.pcb_model.specs.declared.design.Design.{Design}
use Rattle.pcb_model.specs.declared.design.Padstack.{Padstack}
use Rattle.dsn_shapes.specs.declared.parts.Head.{Head}
use Rattle.dsn_shapes.specs.declared.parts.Library.{Library}
use Rattle.dsn_shapes.specs.declared.parts.Network.{Network}
use Rattle.dsn_shapes.specs.declared.parts.Placing.{Placing}
use Rattle.dsn_shapes.specs.declared.parts.ReadClass.{ReadClass}
use Rattle.dsn_shapes.specs.declared.parts.Stack.{Stack}
use Rattle.dsn_shapes.specs.declared.parts.Structure.{Structure}
use Rattle.dsn_shapes.specs.declared.parts.Wiring.{Wiring}
use Rattle.dsn_shapes.specs.Lists.{capped}
use Rattle.dsn_shapes.specs.Names.{stack_names}
use Rattle.dsn_design.specs.declared.parts.Parts.{Parts}
use Rattle.dsn_design.specs.Made.{IsDesignOf, design_with, notes_of, section_notes, structure_vias}
use Rattle.dsn_design.specs.Nets.{is_usable_at, stack_number, stack_numbers, unusable_in, unusable_of_class, via_notes}
use Rattle.dsn_design.specs.Reading.{ArePartsOf, HasDesign}
use Rattle.dsn_design.specs.Sound.{weight}
use Rattle.dsn_design.proofs.Counted.{text_weight}
use Rattle.dsn_design.proofs.Few.{class_vias_few, classes_few, structure_vias_few}
use Rattle.count_law.specs.Counts.{AreCountsPlain, HasPlainNotes, design_sum, sections_sum}
use Rattle.count_law.proofs.Sections.{sections_weight}
use Rattle.count_law.proofs.Plain.{fixed_plain, head_plain, images_plain, library_plain, network_plain, placement_plain}
use Rattle.count_law.proofs.Plain.{structure_plain, wiring_plain}

-- ---- padstacks of via lists that aren't usable
-- of one list
list_unusable : (stacks : List Padstack) (vias : List ℕ) → unusable_in stacks vias ≤ length vias
unfolding unusable_in
list_unusable stacks vias = count_by-le-length (λ v. not (is_usable_at stacks v)) vias

-- of a list that may be missing
some_unusable : (stacks : List Padstack) (vias : Option (List ℕ)) → IfSome vias (λ vs. length vs ≤ 2 ^ 26)
    → unusable_in stacks (unwrap_or vias []) ≤ 2 ^ 26
some_unusable stacks None h = omega (arith, list_unusable stacks [])
some_unusable stacks (Some vs) h = omega (arith, h, list_unusable stacks vs)

-- as many numbers as names
numbers_count : (stacks : List Stack) (names : List (List ℕ)) → length (stack_numbers stacks names) ≡ length names
unfolding stack_numbers
numbers_count stacks names = length-map names (stack_number (stack_names stacks))

-- of the structure's list and of those of all classes
vias_unusable : (stacks : List Padstack) (vias : List ℕ) (classes : List ReadClass) → length vias ≤ 2 ^ 26
    → length classes ≤ 2 ^ 26 → All (λ (c : ReadClass). IfSome c.vias (λ vs. length vs ≤ 2 ^ 26)) classes
    → via_notes stacks vias classes ≤ 2 ^ 53
unfolding via_notes
vias_unusable stacks vias classes h k each = omega (
  arith,
  list_unusable stacks vias,
  sum_by-le (unusable_of_class stacks) (2 ^ 26) classes
      (All-weaker (λ (c : ReadClass). IfSome c.vias (λ vs. length vs ≤ 2 ^ 26))
      (λ (c : ReadClass). unusable_of_class stacks c ≤ 2 ^ 26)
      (λ (c : ReadClass) few. some_unusable stacks c.vias few) classes each),
)

-- ---- parts that are read from a tree
-- their via lists
parts_unusable : (pcb : Tree) (p : Parts) (stacks : List Padstack) → weight (pcb ∷ []) ≤ 2 ^ 26 → ArePartsOf pcb p
    → via_notes stacks (structure_vias p) p.network.classes ≤ 2 ^ 53
parts_unusable pcb p stacks h are =
    let nm = p.head.scale.nm in
    let vias : length p.structure.vias ≤ 2 ^ 26 =
    subst (λ (st : Structure). length st.vias ≤ 2 ^ 26) (sym are.structure.1)
    (structure_vias_few nm pcb (2 ^ 26) h) in
    vias_unusable stacks (structure_vias p) p.network.classes
    (omega (arith, vias, numbers_count p.library.stacks p.structure.vias))
    (subst (λ (net : Network). length net.classes ≤ 2 ^ 26) (sym are.network.1)
    (classes_few nm p.library p.placing pcb (2 ^ 26) h))
    (subst (λ (net : Network). All (λ (c : ReadClass). IfSome c.vias (λ vs. length vs ≤ 2 ^ 26)) net.classes)
    (sym are.network.1) (class_vias_few nm p.library p.placing pcb (2 ^ 26) h))

-- six counts that are each a sum are together the sum of these
six_counts : (a b c d e f s t u v w x : ℕ) → a ≡ s → b ≡ t → c ≡ u → d ≡ v → e ≡ w → f ≡ x
    → a + (b + (c + (d + (e + f)))) ≡ s + (t + (u + (v + (w + x))))
six_counts a b c d e f s t u v w x ha hb hc hd he hf = omega arith

-- their notes are together the plain sum of the tree's sections
parts_noted : (pcb : Tree) (p : Parts) → weight (pcb ∷ []) ≤ 2 ^ 26 → ArePartsOf pcb p
    → section_notes p ≡ sections_sum pcb
parts_noted pcb p h are =
    let nm = p.head.scale.nm in
    six_counts _ _ _ _ _ _ _ _ _ _ _ _
    (ap (λ (s : Head). s.notes) are.head.1 ∙ head_plain pcb h)
    (ap (λ (s : Structure). s.notes) are.structure.1 ∙ structure_plain nm pcb h)
    (ap (λ (s : Library). s.notes) are.library.1 ∙ library_plain nm p.structure.layers pcb h)
    (ap (λ (s : Placing). s.notes) are.placing.1 ∙ placement_plain nm p.structure p.library pcb h)
    (ap (λ (s : Network). s.notes) are.network.1 ∙ network_plain nm p.library p.placing pcb h)
    (ap (λ (s : Wiring). s.notes) are.wiring.1
    ∙ wiring_plain nm p.structure p.library p.placing p.network pcb h)

-- a sum of two counts that stays below 2^64, where the first is known by another sum
plain_sum : (notes sum vias : ℕ) → notes ≡ sum → sum ≤ 2 ^ 33 → vias ≤ 2 ^ 53 → capped (notes + vias) ≡ sum + vias
plain_sum notes sum vias e h k = omega arith

-- so are the notes of a design that they make, with the vias that aren't usable
design_plain : (pcb : Tree) (p : Parts) (stacks : List Padstack) → weight (pcb ∷ []) ≤ 2 ^ 26 → ArePartsOf pcb p
    → notes_of p stacks ≡ design_sum pcb p stacks
design_plain pcb p stacks h are =
    plain_sum (section_notes p) (sections_sum pcb) (via_notes stacks (structure_vias p) p.network.classes)
    (parts_noted pcb p h are) (omega (arith, sections_weight pcb)) (parts_unusable pcb p stacks h are)

-- ---- the law
-- each count of a tree
pub counts_plain : (pcb : Tree) → weight (pcb ∷ []) ≤ 2 ^ 26 → AreCountsPlain pcb
counts_plain pcb h = record {
  head = head_plain pcb h;
  structure = λ nm. structure_plain nm pcb h;
  library = λ nm layers. library_plain nm layers pcb h;
  placement = λ nm st lib. placement_plain nm st lib pcb h;
  network = λ nm lib placing. network_plain nm lib placing pcb h;
  wiring = λ nm st lib placing net. wiring_plain nm st lib placing net pcb h;
  structure_items = λ nm. fixed_plain nm pcb h;
  image_items = λ nm layers. images_plain nm layers pcb h;
  design = λ p stacks are. design_plain pcb p stacks h are;
}

-- a text of at most 2^26 bytes has a tree of at most 2^26 tokens
text_light : (text : List ℕ) (pcb : Tree) → length text ≤ 2 ^ 26 → HasTree text pcb → weight (pcb ∷ []) ≤ 2 ^ 26
text_light text pcb h tree = omega (arith, text_weight text pcb tree)

-- each count of a text
pub texts_plain : (text : List ℕ) (pcb : Tree) → length text ≤ 2 ^ 26 → HasTree text pcb → AreCountsPlain pcb
texts_plain text pcb h tree = counts_plain pcb (text_light text pcb h tree)

-- the notes of a design, as it is made
made_notes : (p : Parts) (d : Design) → IsDesignOf p d → d.notes ≡ notes_of p d.padstacks
unfolding design_with
made_notes p d is = ap (λ (e : Design). e.notes) is.design

-- the notes of a text's design
pub designs_plain : (text : List ℕ) (d : Design) → length text ≤ 2 ^ 26 → HasDesign text d → HasPlainNotes text d
designs_plain text d h has = record {
  pcb = has.pcb;
  tree = has.tree;
  parts = has.parts;
  are_parts = has.are_parts;
  notes = made_notes has.parts d has.design
      ∙ design_plain has.pcb has.parts d.padstacks (text_light text has.pcb h has.tree) has.are_parts;
}
