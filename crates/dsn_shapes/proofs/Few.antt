-- The layers of a shape are few, and so are the parts of a list that isn't past its limit.
use Rattle.std.proofs.Common.{◌≡◌, ◌<◌, ◌≤◌, ◌-◌, ◌^◌, ℕ, zero, suc, Bool, true, false, cond, List, [], ◌∷◌, ◌++◌}
use Rattle.std.proofs.Common.{Option, Some, None, length, map, arith}
use Rattle.std.specs.Prelude.{slice_get}
use Rattle.std.specs.List.{list_any}
use Rattle.std.specs.Option.{option_map_or}
use Rattle.std.proofs.lemmas.Nat.{pow_pos}
use Rattle.dsn_tree.specs.declared.tree.Tree.{Tree}
use Rattle.dsn_shapes.specs.declared.form.Form.{Form}
use Rattle.dsn_shapes.specs.declared.form.Outline.{Outline}
use Rattle.dsn_shapes.specs.declared.refusal.Refusal.{Refusal}
use Rattle.dsn_shapes.specs.declared.refusal.What.{What}
use Rattle.dsn_shapes.specs.declared.parts.Layer.{Layer}
use Rattle.dsn_shapes.specs.Limits.{most_of, past_limit, too_many}
use Rattle.dsn_shapes.specs.Refusals.{refused}
use Rattle.dsn_shapes.specs.Lists.{at_of, name_of, place_of, words_of}
use Rattle.dsn_shapes.specs.Numbers.{word_coord}
use Rattle.dsn_shapes.specs.Layers.{layers_of, named_by, names_some, stands_for}
use Rattle.dsn_shapes.specs.Forms.{coord_words, form_of, has_count, outline_of, outline_refusals, vertices_of, width_of}
use Rattle.dsn_shapes.specs.Shapes.{empty_shape, no_form, shape_of, shape_refusals, shaped, spine_refusals}
use Rattle.dsn_shapes.proofs.Fits.{front_nil, layers_few, no_form_left, test_holds}

-- ---- limits
-- no refusal of the first part past a limit
pub few_left : {X Y : Type 0} (f : X → List Y) → ((x : X) → f x ≡ [] → ⊥) → (xs : List X) (limit : ℕ)
    → option_map_or f (slice_get xs limit) [] ≡ [] → length xs ≤ limit
few_left f some [] limit e = omega arith
few_left f some (x ∷ xs) zero e = absurd (some x e)
few_left f some (x ∷ xs) (suc limit) e = let h = few_left f some xs limit e in omega arith

-- where no list is one too many, so many are left
pub few_kept : (what : What) (before : ℕ) (ts : List Tree) → too_many what before ts ≡ []
    → length ts ≤ most_of what - before
few_kept what before ts e =
    few_left (λ t. past_limit what (at_of t) ∷ []) (λ t f. cc) ts (most_of what - before) e

-- ---- layers of a shape
layers_if : (b : Bool) (o p : Outline) (n : ℕ) → o.layers < n → p.layers < n → (cond b o p).layers < n
layers_if true o p n h k = h
layers_if false o p n h k = k

outline_layers : (nm : ℕ) (layers : List Layer) (form : Form) (t : Tree) → (outline_of nm layers form t).layers
    < 2 ^ length layers
unfolding outline_of
outline_layers nm layers form t =
    let read : Outline =
    record {
      layers = layers_of layers (name_of t 1);
      width = width_of nm form t;
      coords = vertices_of form (map (word_coord nm) (coord_words form t));
    } in
    let none : Outline = record { layers = 0; width = 0; coords = [] } in
    layers_if (has_count form (length (words_of t))) read none (2 ^ length layers) (layers_few layers (name_of t 1))
    (pow_pos (length layers))

layers_at : (nm : ℕ) (layers : List Layer) (t : Tree) (o : Option Form)
    → (option_map_or (λ form. shaped form (outline_of nm layers form t)) o empty_shape).layers < 2 ^ length layers
layers_at nm layers t None = pow_pos (length layers)
layers_at nm layers t (Some form) = outline_layers nm layers form t

-- the layers of a shape are below their number
pub shape_layers : (nm : ℕ) (layers : List Layer) (t : Tree) → (shape_of nm layers t).layers < 2 ^ length layers
unfolding shape_of
shape_layers nm layers t = layers_at nm layers t (form_of t)

some_there : {X : Type 0} (test : X → Bool) (xs : List X) → list_any test xs ≡ true → 1 ≤ length xs
some_there test [] e = cc
some_there test (x ∷ xs) e = omega arith

named_layer : (layers : List Layer) (word : List ℕ) → names_some layers word ≡ true → 1 ≤ length layers
unfolding names_some
named_layer layers word e = some_there (stands_for (named_by layers word) word) layers e

-- what stands beside a refusal is empty where the whole is
beside : (b : Bool) (xs : List Refusal) (x : Refusal) → cond b xs (x ∷ []) ≡ [] → xs ≡ []
beside true xs x e = e
beside false xs x e = cc

outline_layered : (nm : ℕ) (layers : List Layer) (form : Form) (t : Tree) → outline_refusals nm layers form t ≡ []
    → 1 ≤ length layers
unfolding outline_refusals
outline_layered nm layers form t e =
    let read = beside (has_count form (length (words_of t))) _ (refused 22 (at_of t)) e in
    named_layer layers (name_of t 1)
    (test_holds (names_some layers (name_of t 1)) (refused 12 (place_of t 1)) [] [] (front_nil _ _ read))

layered_at : (nm : ℕ) (layers : List Layer) (t : Tree) (o : Option Form)
    → option_map_or (λ form. outline_refusals nm layers form t ++ spine_refusals form t (outline_of nm layers form t)) o
    (no_form t) ≡ [] → 1 ≤ length layers
layered_at nm layers t None e = absurd (no_form_left _ _ _ e)
layered_at nm layers t (Some form) e = outline_layered nm layers form t (front_nil _ _ e)

-- a shape without refusals is on a layer, so there is one
pub shape_layered : (nm : ℕ) (layers : List Layer) (t : Tree) → shape_refusals nm layers t ≡ [] → 1 ≤ length layers
unfolding shape_refusals
shape_layered nm layers t e = layered_at nm layers t (form_of t) e
