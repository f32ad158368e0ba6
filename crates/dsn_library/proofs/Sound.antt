-- Where no refusal of a library stands, it is sound.
use Rattle.std.proofs.Common.{◌≡◌, ◌<◌, ◌++◌, ◌∙◌, sym, subst, ℕ, List, [], ◌∷◌, Option, Some, None, length, map, refl}
use Rattle.std.proofs.Common.{arith}
use Rattle.std.specs.Prelude.{All}
use Rattle.std.specs.List.{flat_map}
use Rattle.std.proofs.lemmas.List.{length-map}
use Rattle.dsn_tree.specs.declared.tree.Tree.{Tree}
use Rattle.dsn_shapes.specs.declared.parts.Layer.{Layer}
use Rattle.dsn_shapes.specs.declared.parts.BanShape.{BanShape}
use Rattle.dsn_shapes.specs.declared.parts.Image.{Image}
use Rattle.dsn_shapes.specs.declared.parts.ImagePin.{ImagePin}
use Rattle.dsn_shapes.specs.declared.parts.Stack.{Stack}
use Rattle.dsn_shapes.specs.Refusals.{least}
use Rattle.dsn_shapes.specs.Lists.{name_of, place_of, quoted_name}
use Rattle.dsn_shapes.specs.Names.{first_place, names_at, same_names}
use Rattle.dsn_shapes.specs.Shapes.{ban_of, ban_refusals, held_shape, refusals_in, shape_refusals}
use Rattle.dsn_shapes.specs.Fits.{IsPlainShape, IsShapeFit}
use Rattle.dsn_shapes.proofs.Fits.{back_nil, ban_fit, each_fit, first_below, front_nil, held_fit, held_plain}
use Rattle.dsn_shapes.proofs.Fits.{name_printable, named_differ, none_left}
use Rattle.dsn_library.specs.Padstacks.{shapes_in, stack_of, stack_refusals, stacks_refusals}
use Rattle.dsn_library.specs.Pins.{stack_at, pin_of, pin_refusals, pin_stack, unknown_at, unknown_stack}
use Rattle.dsn_library.specs.Images.{image_of, image_refusals, images_refusals, keepouts_in, pins_in, pins_refusals}
use Rattle.dsn_library.specs.Whole.{images, libraries, library_left_out, library_of, library_refusals, padstacks}
use Rattle.dsn_library.specs.Sound.{IsImagePinSound, IsImageSound, IsLibrarySound, IsStackSound}
use Rattle.dsn_library.proofs.Bounded.{pin_within}

-- ---- padstacks
stack_sound : (nm : ℕ) (layers : List Layer) (t : Tree) → stack_refusals nm layers t ≡ []
    → IsStackSound (stack_of nm layers t)
unfolding stack_refusals stack_of
stack_sound nm layers t e =
    let shapes = shapes_in (t ∷ []) in
    record {
      name = name_printable t 1 (front_nil (quoted_name t 1) _ e);
      shapes_fit =
          each_fit IsShapeFit (refusals_in (shape_refusals nm layers)) (held_shape nm layers) (held_fit nm layers)
          shapes (back_nil (quoted_name t 1) _ e);
      shapes_plain =
          each_fit IsPlainShape (refusals_in (shape_refusals nm layers)) (held_shape nm layers)
          (λ s f. held_plain nm layers s) shapes (back_nil (quoted_name t 1) _ e);
    }

stack_named : (nm : ℕ) (layers : List Layer) (t : Tree) → (stack_of nm layers t).name ≡ name_of t 1
unfolding stack_of
stack_named nm layers t = refl

-- ---- pins
known_at : (at : ℕ) (o : Option ℕ) (len : ℕ) → ((n : ℕ) → o ≡ Some n → n < len) → unknown_at at o ≡ []
    → stack_at o < len
known_at at None len h e = cc
known_at at (Some n) len h e = let f : n < len = h n refl in omega arith

pin_sound : (nm : ℕ) (stacks : List (List ℕ)) (t : Tree) → pin_refusals nm stacks t ≡ []
    → IsImagePinSound (length stacks) (pin_of nm stacks t)
unfolding pin_refusals unknown_stack pin_of pin_stack
pin_sound nm stacks t e =
    let w = pin_within nm stacks t in
    record {
      stack = known_at (place_of t 1) (first_place (name_of t 1) stacks) (length stacks)
          (first_below (name_of t 1) stacks) (front_nil (unknown_stack stacks t) _ e);
      at = w.at;
      angle = w.angle;
    }

pin_named : (nm : ℕ) (stacks : List (List ℕ)) (t : Tree) → (pin_of nm stacks t).name ≡ name_of t 2
unfolding pin_of
pin_named nm stacks t = refl

-- ---- images
image_sound : (nm : ℕ) (layers : List Layer) (stacks : List (List ℕ)) (t : Tree) → image_refusals nm layers stacks t
    ≡ [] → IsImageSound (length stacks) (image_of nm layers stacks t)
unfolding image_refusals image_of pins_refusals
image_sound nm layers stacks t e =
    let pins = pins_in (t ∷ []) in
    let bans = keepouts_in (t ∷ []) in
    let parts : pins_refusals nm stacks pins ++ flat_map (ban_refusals nm layers) bans ≡ [] =
    back_nil (quoted_name t 1) _ e in
    let in_pins : same_names 2 pins ++ flat_map (pin_refusals nm stacks) pins ≡ [] =
    front_nil (pins_refusals nm stacks pins) _ parts in
    record {
      name = name_printable t 1 (front_nil (quoted_name t 1) _ e);
      pins = each_fit (IsImagePinSound (length stacks)) (pin_refusals nm stacks) (pin_of nm stacks)
          (pin_sound nm stacks) pins (back_nil (same_names 2 pins) _ in_pins);
      pin_names = named_differ (pin_of nm stacks) (λ (p : ImagePin). p.name) 2 (pin_named nm stacks) pins
          (front_nil (same_names 2 pins) _ in_pins);
      bans = each_fit (λ (b : BanShape). IsShapeFit b.shape) (ban_refusals nm layers) (ban_of nm layers)
          (ban_fit nm layers) bans (back_nil (pins_refusals nm stacks pins) _ parts);
    }

image_named : (nm : ℕ) (layers : List Layer) (stacks : List (List ℕ)) (t : Tree) → (image_of nm layers stacks t).name
    ≡ name_of t 1
unfolding image_of
image_named nm layers stacks t = refl

-- ---- the whole
pub library_sound : (nm : ℕ) (layers : List Layer) (pcb : Tree) → least (library_refusals nm layers pcb) ≡ None
    → IsLibrarySound (library_of nm layers pcb)
unfolding stacks_refusals images_refusals
library_sound nm layers pcb h =
    let stacks = padstacks pcb in
    let names = names_at 1 stacks in
    let all = none_left (library_refusals nm layers pcb) h in
    let parts : stacks_refusals nm layers stacks ++ images_refusals nm layers names (images pcb) ≡ [] =
    back_nil (library_left_out (libraries pcb) (images pcb) stacks) _ all in
    let in_stacks : same_names 1 stacks ++ flat_map (stack_refusals nm layers) stacks ≡ [] =
    front_nil (stacks_refusals nm layers stacks) _ parts in
    let in_images : same_names 1 (images pcb) ++ flat_map (image_refusals nm layers names) (images pcb) ≡ [] =
    back_nil (stacks_refusals nm layers stacks) _ parts in
    let count : length names ≡ length (map (stack_of nm layers) stacks) = length-map stacks (λ t. name_of t 1)
    ∙ sym (length-map stacks (stack_of nm layers)) in
    record {
      stacks = each_fit IsStackSound (stack_refusals nm layers) (stack_of nm layers) (stack_sound nm layers) stacks
          (back_nil (same_names 1 stacks) _ in_stacks);
      stack_names =
          named_differ (stack_of nm layers) (λ (s : Stack). s.name) 1 (stack_named nm layers) stacks
          (front_nil (same_names 1 stacks) _ in_stacks);
      images = subst (λ n. All (IsImageSound n) (map (image_of nm layers names) (images pcb))) count
          (each_fit (IsImageSound (length names)) (image_refusals nm layers names) (image_of nm layers names)
          (image_sound nm layers names) (images pcb) (back_nil (same_names 1 (images pcb)) _ in_images));
      image_names =
          named_differ (image_of nm layers names) (λ (i : Image). i.name) 1 (image_named nm layers names) (images pcb)
          (front_nil (same_names 1 (images pcb)) _ in_images);
    }
