-- A library that is read is within bounds, whatever the text.
use Rattle.std.proofs.Common.{◌^◌, ℕ, Option, Some, None, arith, List, [], ◌∷◌}
use Rattle.std.specs.Prelude.{IfSome, unwrap_or, codes}
use Rattle.std.specs.Option.{option_map_or}
use Rattle.std.proofs.lemmas.List.Elements.{All-map}
use Rattle.geo_kernel.specs.Spine.{IsSpineWithin}
use Rattle.dsn_tree.specs.declared.tree.Tree.{Tree}
use Rattle.dsn_tree.specs.Heads.{child}
use Rattle.dsn_units.specs.declared.angle.Angle.{Angle}
use Rattle.dsn_shapes.specs.declared.parts.Layer.{Layer}
use Rattle.dsn_shapes.specs.declared.parts.LayerShape.{LayerShape}
use Rattle.dsn_shapes.specs.declared.parts.BanShape.{BanShape}
use Rattle.dsn_shapes.specs.Lists.{nth_word}
use Rattle.dsn_shapes.specs.Names.{names_at}
use Rattle.dsn_shapes.specs.Angles.{no_turn, word_angle}
use Rattle.dsn_shapes.specs.Shapes.{ban_of, held_shape}
use Rattle.dsn_shapes.specs.Within.{IsImageWithin, IsLibraryWithin, IsPinWithin, IsStackWithin}
use Rattle.dsn_shapes.proofs.Within.{IsReduced, ban_near, coord_at_near, held_near, word_reduced}
use Rattle.dsn_library.specs.Padstacks.{shapes_in, stack_of}
use Rattle.dsn_library.specs.Pins.{degrees_in, pin_of, pin_place, rotation_of}
use Rattle.dsn_library.specs.Images.{image_of, keepouts_in, pins_in}
use Rattle.dsn_library.specs.Whole.{images, library_of, padstacks}

stack_within : (nm : ℕ) (layers : List Layer) (t : Tree) → IsStackWithin (stack_of nm layers t)
unfolding stack_of
stack_within nm layers t =
    record {
      shapes = All-map (λ (shape : LayerShape). IsSpineWithin (2 ^ 29) shape.spine) (held_shape nm layers)
          (shapes_in (t ∷ [])) (λ k d l. held_near nm layers _);
    }

-- ---- pins
or_no_turn : (o : Option Angle) → IfSome o IsReduced → IsReduced (unwrap_or o no_turn)
or_no_turn None h = omega arith
or_no_turn (Some a) h = h

degrees_at : (o : Option Tree) → IfSome (option_map_or word_angle o None) IsReduced
degrees_at None = tt
degrees_at (Some w) = word_reduced w

degrees_reduced : (t : Tree) → IsReduced (degrees_in t)
unfolding degrees_in
degrees_reduced t = or_no_turn (option_map_or word_angle (nth_word t 1) None) (degrees_at (nth_word t 1))

rotation_at : (o : Option Tree) → IsReduced (option_map_or degrees_in o no_turn)
rotation_at None = omega arith
rotation_at (Some t) = degrees_reduced t

rotation_reduced : (t : Tree) → IsReduced (rotation_of t)
unfolding rotation_of
rotation_reduced t = rotation_at (child t (codes "rotate"))

pub pin_within : (nm : ℕ) (stacks : List (List ℕ)) (t : Tree) → IsPinWithin (pin_of nm stacks t)
unfolding pin_of pin_place
pin_within nm stacks t = record { at = (coord_at_near nm t 3, coord_at_near nm t 4); angle = rotation_reduced t }

-- ---- images and the whole
image_within : (nm : ℕ) (layers : List Layer) (stacks : List (List ℕ)) (t : Tree)
    → IsImageWithin (image_of nm layers stacks t)
unfolding image_of
image_within nm layers stacks t = record {
  pins = All-map IsPinWithin (pin_of nm stacks) (pins_in (t ∷ [])) (λ k d l. pin_within nm stacks _);
  bans = All-map (λ (ban : BanShape). IsSpineWithin (2 ^ 29) ban.shape.spine) (ban_of nm layers) (keepouts_in (t ∷ []))
      (λ k d l. ban_near nm layers _);
}

pub library_within : (nm : ℕ) (layers : List Layer) (pcb : Tree) → IsLibraryWithin (library_of nm layers pcb)
library_within nm layers pcb = record {
  stacks = All-map IsStackWithin (stack_of nm layers) (padstacks pcb) (λ k d l. stack_within nm layers _);
  images = All-map IsImageWithin (image_of nm layers (names_at 1 (padstacks pcb))) (images pcb)
      (λ k d l. image_within nm layers (names_at 1 (padstacks pcb)) _);
}
