use Rattle.std.proofs.Common.{◌≡◌, ◌∙◌, ap, ℕ, List, ◌++◌, Option, Some}
use Rattle.std.specs.Option.{option_map_or}
use Rattle.geo_kernel.specs.declared.spine.Spine.{Spine}
use Rattle.dsn_tree.specs.declared.tree.Tree.{Tree}
use Rattle.dsn_shapes.specs.declared.form.Form.{Form}
use Rattle.dsn_shapes.specs.declared.form.Outline.{Outline}
use Rattle.dsn_shapes.specs.declared.parts.Layer.{Layer}
use Rattle.dsn_shapes.specs.declared.parts.LayerShape.{LayerShape}
use Rattle.dsn_shapes.specs.declared.refusal.Refusal.{Refusal}
use Rattle.dsn_shapes.specs.Forms.{form_of, outline_of, outline_refusals}
use Rattle.dsn_shapes.specs.Refusals.{noted}
use Rattle.dsn_shapes.specs.Shapes.{empty_shape, no_form, shape_of, shape_refusals, shaped, spine_of, spine_refusals}
use Rattle.dsn_shapes.proofs.Looped.{then_noted}
use Rattle.dsn_shapes.proofs.shape.note_shape.Goals as goal

-- the refusals of a form's outline, and after them those of its vertices
shape_noted : (nm : ℕ) (layers : List Layer) (t : Tree) (form : Form) (o : Outline) (first now new : Option Refusal)
    → Some form ≡ form_of t → now ≡ noted first (outline_refusals nm layers form t) → o ≡ outline_of nm layers form t
    → new ≡ noted now (spine_refusals form t o) → new ≡ noted first (shape_refusals nm layers t)
unfolding shape_refusals
shape_noted nm layers t form o first now new f p e q =
    then_noted first now new (outline_refusals nm layers form t) (spine_refusals form t (outline_of nm layers form t)) p
    (q ∙ ap (λ o. noted now (spine_refusals form t o)) e)
    ∙ ap (λ x. noted first (option_map_or
    (λ form. outline_refusals nm layers form t ++ spine_refusals form t (outline_of nm layers form t)) x (no_form t))) f

abbrev made : ℕ → Spine → ℕ → LayerShape
made layers spine width = record { layers = layers; spine = spine; width = width }

-- the shape of what was read of a form
shape_made : (nm : ℕ) (layers : List Layer) (t : Tree) (form : Form) (o : Outline) (spine : Spine)
    → Some form ≡ form_of t → o ≡ outline_of nm layers form t → spine ≡ spine_of form o
    → made o.layers spine o.width ≡ shape_of nm layers t
unfolding shape_of
shape_made nm layers t form o spine f e g =
    ap (λ s. made o.layers s o.width) g ∙ ap (shaped form) e
    ∙ ap (λ x. option_map_or (λ form. shaped form (outline_of nm layers form t)) x empty_shape) f

pub returns-clause-noted : goal.returns-clause-noted
returns-clause-noted c =
    shape_noted c.args.s.nm c.args.layers.now c.args.tree.now c.in-Some.form c.in_ok-outline.outline c.args.first.now
    c.read_outline.new.first c.spine.new.first c.in-Some.ensures c.in_ok-outline.ensures.noted
    c.in_ok-outline.ensures.value c.in_ok-spine.ensures.noted

pub returns-clause-value : goal.returns-clause-value
returns-clause-value c =
    shape_made c.args.s.nm c.args.layers.now c.args.tree.now c.in-Some.form c.in_ok-outline.outline c.in_ok-spine.spine
    c.in-Some.ensures c.in_ok-outline.ensures.value c.in_ok-spine.ensures.value
