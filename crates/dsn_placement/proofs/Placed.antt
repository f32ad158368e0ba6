-- Where all of an image has its place, its pins and keepouts have copper on the board.
use Rattle.std.proofs.Common.{◌≡◌, ◌∙◌, ap, sym, ℕ, Bool, List, [], ◌∷◌, Option, Some, None, refl}
use Rattle.std.specs.Prelude.{◌&&◌, is_some}
use Rattle.std.specs.List.{list_all}
use Rattle.std.specs.Option.{option_map}
use Rattle.dsn_shapes.specs.declared.parts.LayerShape.{LayerShape}
use Rattle.dsn_shapes.specs.declared.parts.Stack.{Stack}
use Rattle.dsn_shapes.specs.declared.parts.ImagePin.{ImagePin}
use Rattle.dsn_placement.specs.declared.seat.Seat.{Seat}
use Rattle.dsn_placement.specs.declared.seat.Stand.{Stand}
use Rattle.dsn_placement.specs.Copper.{all_or_none, is_pin_placed, is_spine_placed, layers_at}
use Rattle.dsn_placement.specs.Copper.{on_layers, pin_centre, pin_copper, pin_seat, placed_shape, placed_spine}
use Rattle.dsn_placement.specs.Copper.{stack_shapes, with_first}

mapped : {X Y : Type 0} (f : X → Y) (o : Option X) → is_some (option_map f o) ≡ is_some o
mapped f None = refl
mapped f (Some x) = refl

first_too : {X : Type 0} (o : Option X) (os : Option (List X)) → is_some (with_first o os) ≡ (is_some o && is_some os)
first_too None os = refl
first_too (Some x) None = refl
first_too (Some x) (Some xs) = refl

-- all are there where each is
each_there : {X Y : Type 0} (f : X → Option Y) (test : X → Bool) → ((x : X) → is_some (f x) ≡ test x) → (xs : List X)
    → is_some (all_or_none f xs) ≡ list_all test xs
each_there f test h [] = refl
each_there f test h (x ∷ xs) = first_too (f x) (all_or_none f xs) ∙ ap (λ b. b && is_some (all_or_none f xs)) (h x)
    ∙ ap (λ b. test x && b) (each_there f test h xs)

shape_there : (n : ℕ) (seat : Seat) (s : LayerShape) → is_some (placed_shape n seat s) ≡ is_spine_placed seat s.spine
unfolding placed_shape
shape_there n seat s = mapped (on_layers (layers_at n seat.stand.back s.layers) s.width) (placed_spine seat s.spine)

-- a pin has its own place and its copper exactly where it has its place on the board
pub pin_there : (n : ℕ) (stand : Stand) (stacks : List Stack) (pin : ImagePin)
    → is_pin_placed stand stacks pin ≡ (is_some (pin_centre stand pin) && is_some (pin_copper n stand stacks pin))
unfolding is_pin_placed pin_copper
pin_there n stand stacks pin =
    ap (λ b. is_some (pin_centre stand pin) && b)
    (sym (each_there (placed_shape n (pin_seat stand pin))
    (λ (s : LayerShape). is_spine_placed (pin_seat stand pin) s.spine) (shape_there n (pin_seat stand pin))
    (stack_shapes stacks pin)))
