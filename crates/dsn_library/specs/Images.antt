-- Images: their names, their pins and their keepouts.
use Rattle.std.specs.Prelude.{ℕ, List, [], ◌∷◌, ◌++◌, codes, map}
use Rattle.std.specs.List.{flat_map}
use Rattle.dsn_tree.specs.declared.tree.Tree.{Tree}
use Rattle.dsn_shapes.specs.declared.refusal.Refusal.{Refusal}
use Rattle.dsn_shapes.specs.declared.parts.Layer.{Layer}
use Rattle.dsn_shapes.specs.declared.parts.Image.{Image}
use Rattle.dsn_shapes.specs.Known.{keepout_heads}
use Rattle.dsn_shapes.specs.Lists.{lists, name_of, quoted_name}
use Rattle.dsn_shapes.specs.Names.{same_names}
use Rattle.dsn_shapes.specs.Shapes.{ban_of, ban_refusals}
use Rattle.dsn_library.specs.Pins.{pin_of, pin_refusals}

-- the pins, and the keepouts, that stand directly in these lists
abbrev pub pins_in : List Tree → List Tree
pins_in ts = lists (codes "pin" ∷ []) ts

abbrev pub keepouts_in : List Tree → List Tree
keepouts_in ts = lists keepout_heads ts

-- the pins of one image
unfoldable pub pins_refusals : ℕ → List (List ℕ) → List Tree → List Refusal
pins_refusals nm stacks ts = same_names 2 ts ++ flat_map (pin_refusals nm stacks) ts

-- an image whose pins name padstacks of these names
unfoldable pub image_of : ℕ → List Layer → List (List ℕ) → Tree → Image
image_of nm layers stacks t =
    record {
      name = name_of t 1;
      pins = map (pin_of nm stacks) (pins_in (t ∷ []));
      bans = map (ban_of nm layers) (keepouts_in (t ∷ []));
    }

unfoldable pub image_refusals : ℕ → List Layer → List (List ℕ) → Tree → List Refusal
image_refusals nm layers stacks t =
    quoted_name t 1
    ++ (pins_refusals nm stacks (pins_in (t ∷ [])) ++ flat_map (ban_refusals nm layers) (keepouts_in (t ∷ [])))

-- images that are together the design's
unfoldable pub images_refusals : ℕ → List Layer → List (List ℕ) → List Tree → List Refusal
images_refusals nm layers stacks ts = same_names 1 ts ++ flat_map (image_refusals nm layers stacks) ts
