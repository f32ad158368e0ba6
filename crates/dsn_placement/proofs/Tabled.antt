-- Each refusal of a placement is one of the table.
use Rattle.std.proofs.Common.{◌≢◌, ◌+◌, ℕ, Bool, List, [], ◌∷◌, Option, Some, None, refl}
use Rattle.std.specs.Prelude.{is_some, nat_lt}
use Rattle.dsn_tree.specs.declared.tree.Tree.{Tree}
use Rattle.dsn_shapes.specs.declared.refusal.What.{What}
use Rattle.dsn_shapes.specs.declared.refusal.What.TheVariants.{Nothing, Pins, Items}
use Rattle.dsn_shapes.specs.declared.parts.Image.{Image}
use Rattle.dsn_shapes.specs.declared.parts.Library.{Library}
use Rattle.dsn_shapes.specs.declared.parts.Stack.{Stack}
use Rattle.dsn_shapes.specs.declared.parts.Structure.{Structure}
use Rattle.dsn_shapes.specs.Angles.{word_angle_refusal}
use Rattle.dsn_shapes.specs.Lists.{at_of, nth_word, place_of}
use Rattle.dsn_shapes.specs.Limits.{most_of}
use Rattle.dsn_shapes.proofs.Tabled.{AreTabled, all_left_out_tabled, angle_tabled, both, coord_tabled, each, either}
use Rattle.dsn_shapes.proofs.Tabled.{names_tabled, none, of_some, one, passed, quoted_tabled, where_fails}
use Rattle.dsn_placement.specs.declared.seat.Stand.{Stand}
use Rattle.dsn_placement.specs.declared.place.Laid.{Laid}
use Rattle.dsn_placement.specs.Copper.{is_image_placed}
use Rattle.dsn_placement.specs.Places.{angle_refusal, component_refusals, far_refusal, has_coordinates, image_at}
use Rattle.dsn_placement.specs.Places.{image_place, place_refusals, places_in, point_refusals, side_in, side_refusal}
use Rattle.dsn_placement.specs.Places.{stand_in, stand_refusals, unknown_at, words_refusals}
use Rattle.dsn_placement.specs.Placing.{adds, all_laid, components, items_before, limit_refusals, lists_left_out}
use Rattle.dsn_placement.specs.Placing.{first_past, placement_refusals, placements}

-- ---- components
words_tabled : (nm : ℕ) (t : Tree) → AreTabled (words_refusals nm t)
unfolding words_refusals
words_tabled nm t =
    both (point_refusals nm t) _ (both _ _ (coord_tabled nm t 2) (coord_tabled nm t 3))
    (both (side_refusal t) (angle_refusal t) (where_fails (is_some (side_in t)) 22 (at_of t) refl)
    (of_some word_angle_refusal (nth_word t 5) _ angle_tabled (one 9 (at_of t) refl)))

stand_tabled : (nm : ℕ) (t : Tree) → AreTabled (stand_refusals nm t)
unfolding stand_refusals
stand_tabled nm t = either (has_coordinates t) _ [] (words_tabled nm t) none

far_tabled : (at : ℕ) (stacks : List Stack) (image : Option Image) (stand : Option Stand)
    → AreTabled (far_refusal at stacks image stand)
far_tabled at stacks None stand = none
far_tabled at stacks (Some image) None = none
far_tabled at stacks (Some image) (Some stand) = where_fails (is_image_placed stand stacks image) 10 at refl

place_tabled : (nm : ℕ) (flip_last : Bool) (lib : Library) (image : Option ℕ) (t : Tree)
    → AreTabled (place_refusals nm flip_last lib image t)
unfolding place_refusals
place_tabled nm flip_last lib image t =
    both _ _ (quoted_tabled t 1)
    (both _ _ (stand_tabled nm t) (far_tabled (at_of t) lib.stacks (image_at lib image) (stand_in nm flip_last t)))

unknown_tabled : (at : ℕ) (o : Option ℕ) → AreTabled (unknown_at at o)
unknown_tabled at None = one 15 at refl
unknown_tabled at (Some n) = none

component_tabled : (nm : ℕ) (flip_last : Bool) (lib : Library) (c : Tree)
    → AreTabled (component_refusals nm flip_last lib c)
unfolding component_refusals
component_tabled nm flip_last lib c =
    both _ _ (unknown_tabled (place_of c 1) (image_place lib c))
    (each (place_refusals nm flip_last lib (image_place lib c)) (place_tabled nm flip_last lib (image_place lib c))
    (places_in (c ∷ [])))

-- ---- limits
past_tabled : (what : What) → what ≢ Nothing → (n : ℕ) (ls : List Laid)
    → AreTabled (first_past what n ls)
past_tabled what some n [] = none
past_tabled what some n (l ∷ ls) =
    either (nat_lt (most_of what) (n + adds what l)) _ _ (passed what l.at some)
    (past_tabled what some (n + adds what l) ls)

limits_tabled : (before : ℕ) (ls : List Laid) → AreTabled (limit_refusals before ls)
unfolding limit_refusals
limits_tabled before ls = both _ _ (past_tabled Pins (λ e. cc) 0 ls) (past_tabled Items (λ e. cc) before ls)

-- ---- the whole
sections_tabled : (sections comps places : List Tree) → AreTabled (lists_left_out sections comps places)
unfolding lists_left_out
sections_tabled sections comps places =
    both _ _ (all_left_out_tabled sections) (both _ _ (all_left_out_tabled comps) (all_left_out_tabled places))

pub placement_tabled : (nm : ℕ) (st : Structure) (lib : Library) (pcb : Tree)
    → AreTabled (placement_refusals nm st lib pcb)
placement_tabled nm st lib pcb =
    both _ _ (sections_tabled (placements pcb) (components pcb) (places_in (components pcb)))
    (both _ _ (names_tabled 1 (places_in (components pcb)))
    (both _ _ (each (component_refusals nm st.flip_last lib) (component_tabled nm st.flip_last lib) (components pcb))
    (limits_tabled (items_before st) (all_laid nm st lib pcb))))
