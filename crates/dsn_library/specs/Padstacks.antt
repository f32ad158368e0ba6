-- Padstacks: their names and their shapes.
use Rattle.std.specs.Prelude.{ℕ, List, [], ◌∷◌, ◌++◌, codes, map}
use Rattle.std.specs.List.{flat_map}
use Rattle.dsn_tree.specs.declared.tree.Tree.{Tree}
use Rattle.dsn_shapes.specs.declared.refusal.Refusal.{Refusal}
use Rattle.dsn_shapes.specs.declared.parts.Layer.{Layer}
use Rattle.dsn_shapes.specs.declared.parts.Stack.{Stack}
use Rattle.dsn_shapes.specs.Lists.{lists, name_of, quoted_name}
use Rattle.dsn_shapes.specs.Names.{same_names}
use Rattle.dsn_shapes.specs.Shapes.{held_shape, refusals_in, shape_refusals}

-- the lists such as `(shape (circle F.Cu 1000))` that stand directly in these lists
abbrev pub shapes_in : List Tree → List Tree
shapes_in ts = lists (codes "shape" ∷ []) ts

-- a padstack without shapes has no copper
unfoldable pub stack_of : ℕ → List Layer → Tree → Stack
stack_of nm layers t = record { name = name_of t 1; shapes = map (held_shape nm layers) (shapes_in (t ∷ [])) }

unfoldable pub stack_refusals : ℕ → List Layer → Tree → List Refusal
stack_refusals nm layers t = quoted_name t 1 ++ flat_map (refusals_in (shape_refusals nm layers)) (shapes_in (t ∷ []))

-- padstacks that are together the design's
unfoldable pub stacks_refusals : ℕ → List Layer → List Tree → List Refusal
stacks_refusals nm layers ts = same_names 1 ts ++ flat_map (stack_refusals nm layers) ts
