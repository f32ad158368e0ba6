use Rattle.std.proofs.Common.{◌≡◌, ◌∙◌, ap, ℕ, ℤ, true, List, [], ◌∷◌, ◌++◌, Option, length, drop, map}
use Rattle.std.specs.Prelude.{if◌then◌else◌}
use Rattle.std.specs.List.{flat_map}
use Rattle.dsn_tree.specs.declared.tree.Tree.{Tree}
use Rattle.dsn_shapes.specs.declared.form.Form.{Form}
use Rattle.dsn_shapes.specs.declared.form.Outline.{Outline}
use Rattle.dsn_shapes.specs.declared.parts.Layer.{Layer}
use Rattle.dsn_shapes.specs.declared.refusal.Refusal.{Refusal}
use Rattle.dsn_shapes.specs.declared.table.TheConstants.{BAD_FORM}
use Rattle.dsn_shapes.specs.Forms.{coord_words, first_coord, has_count, outline_of, outline_refusals, vertices_of}
use Rattle.dsn_shapes.specs.Forms.{width_of, width_refusal}
use Rattle.dsn_shapes.specs.Layers.{layer_refusal, layers_of}
use Rattle.dsn_shapes.specs.Lists.{at_of, name_of, words_of}
use Rattle.dsn_shapes.specs.Numbers.{word_coord, word_coord_refusal}
use Rattle.dsn_shapes.specs.Refusals.{noted, refused}
use Rattle.dsn_shapes.proofs.Looped.{then_noted}
use Rattle.dsn_shapes.proofs.form.read_outline.Goals as goal

-- the words from the first coordinate on
rest_is : (form : Form) (t : Tree) (words : List Tree) (n : ℕ) → words ≡ words_of t → n ≡ first_coord form
    → drop n words ≡ coord_words form t
rest_is form t words n e f = ap (λ i. drop i words) f ∙ ap (drop (first_coord form)) e

-- the refusals of the layers, the width and the coordinates, where the count of words is right
outline_noted : (nm : ℕ) (layers ls : List Layer) (form : Form) (t : Tree) (words : List Tree) (k n : ℕ)
    (first a b d : Option Refusal) → words ≡ words_of t → k ≡ length words → true ≡ has_count form k → ls ≡ layers
    → n ≡ first_coord form → a ≡ noted first (layer_refusal ls t) → b ≡ noted a (width_refusal nm form t)
    → d ≡ noted b (flat_map (word_coord_refusal nm) (drop n words))
    → d ≡ noted first (outline_refusals nm layers form t)
unfolding outline_refusals
outline_noted nm layers ls form t words k n first a b d e l h m f p q r =
    let coords = flat_map (word_coord_refusal nm) (coord_words form t) in
    then_noted first a d (layer_refusal layers t) (width_refusal nm form t ++ coords)
    (p ∙ ap (λ ls. noted first (layer_refusal ls t)) m)
    (then_noted a b d (width_refusal nm form t) coords q
    (r ∙ ap (λ ws. noted b (flat_map (word_coord_refusal nm) ws)) (rest_is form t words n e f)))
    ∙ ap (λ x. noted first (if x then layer_refusal layers t ++ (width_refusal nm form t ++ coords)
    else refused BAD_FORM (at_of t) ∷ [])) (h ∙ ap (has_count form) (l ∙ ap length e))

abbrev made : ℕ → ℕ → List (Option ℤ) → Outline
made layers width coords = record { layers = layers; width = width; coords = coords }

-- the outline of what was read
outline_made : (nm : ℕ) (layers ls : List Layer) (form : Form) (t : Tree) (words : List Tree) (k n set width : ℕ)
    (numbers coords : List (Option ℤ)) → words ≡ words_of t → k ≡ length words → true ≡ has_count form k → ls ≡ layers
    → n ≡ first_coord form → set ≡ layers_of ls (name_of t 1) → width ≡ width_of nm form t
    → numbers ≡ map (word_coord nm) (drop n words) → coords ≡ vertices_of form numbers
    → made set width coords ≡ outline_of nm layers form t
unfolding outline_of
outline_made nm layers ls form t words k n set width numbers coords e l h m f p q r g =
    let set_is = layers_of layers (name_of t 1) in
    let coords_are = vertices_of form (map (word_coord nm) (coord_words form t)) in
    ap (λ i. made i width coords) (p ∙ ap (λ ls. layers_of ls (name_of t 1)) m)
    ∙ ap (λ i. made set_is i coords) q
    ∙ ap (made set_is (width_of nm form t))
    (g ∙ ap (vertices_of form) (r ∙ ap (map (word_coord nm)) (rest_is form t words n e f)))
    ∙ ap (λ x. if x then made set_is (width_of nm form t) coords_are else made 0 0 [])
    (h ∙ ap (has_count form) (l ∙ ap length e))

pub returns-clause-noted : goal.returns-clause-noted
returns-clause-noted c =
    outline_noted c.args.s.nm c.args.layers.now c.as_slice.result.now c.args.form c.args.tree.now c.in_ok-words.words
    c.len.result c.first_coord.result c.args.first.now c.read_layers-layers.new.first c.read_width-width.new.first
    c.read_coords_from.new.first c.in_ok-words.ensures c.len.ensures c.if-not-has_count.ensures.value
    c.as_slice.ensures c.first_coord.ensures.value c.read_layers-layers.ensures.noted
    c.read_width-width.ensures.noted c.in_ok-numbers.ensures.noted

pub returns-clause-value : goal.returns-clause-value
returns-clause-value c =
    outline_made c.args.s.nm c.args.layers.now c.as_slice.result.now c.args.form c.args.tree.now c.in_ok-words.words
    c.len.result c.first_coord.result c.read_layers-layers.result c.read_width-width.result c.in_ok-numbers.numbers
    c.in_ok-coords.coords c.in_ok-words.ensures c.len.ensures c.if-not-has_count.ensures.value
    c.as_slice.ensures c.first_coord.ensures.value c.read_layers-layers.ensures.value
    c.read_width-width.ensures.value c.in_ok-numbers.ensures.value c.in_ok-coords.ensures
