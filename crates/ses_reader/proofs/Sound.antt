-- Where no refusal of a session stands, its items are sound.
use Rattle.std.proofs.Common.{◌≡◌, ◌<◌, ◌≤◌, ◌%◌, ◌^◌, sym, subst, refl, arith, ℕ, ℤ, pos, zero, suc, Bool, true, false}
use Rattle.std.proofs.Common.{cond, ◌||◌, List, [], ◌∷◌, Option, Some, None, length, map}
use Rattle.std.specs.Prelude.{◌==◌, ◌+ℤ◌, All, IfSome, is_some, nat_le, nat_lt, not, codes, slice_get, unsigned_abs}
use Rattle.std.specs.Prelude.{unwrap_or}
use Rattle.std.specs.List.{flat_map, list_any}
use Rattle.std.specs.Option.{IsSomeAnd, option_map_or}
use Rattle.std.proofs.lemmas.Bool.{and_parts, leb-true, ltb-false, not-true, or_parts}
use Rattle.std.proofs.lemmas.List.{length-drop, length-map}
use Rattle.std.proofs.lemmas.List.Elements.{All-append, All-cons, All-head, All-map, All-nil, All-tail, All-weaker}
use Rattle.geo_kernel.specs.declared.point.Point.{Point}
use Rattle.geo_kernel.specs.declared.spine.Spine.{Spine}
use Rattle.geo_kernel.specs.declared.spine.Spine.TheVariants.{Chain, Area}
use Rattle.geo_kernel.specs.Plane.{IsWithin}
use Rattle.geo_kernel.specs.Spine.{IsSpineWithin}
use Rattle.geo_kernel.specs.Moved.{moved, moved_spine}
use Rattle.pcb_model.specs.declared.item.Metal.{Metal}
use Rattle.pcb_model.specs.declared.item.Piece.{Piece}
use Rattle.pcb_model.specs.declared.design.BoardLayer.{BoardLayer}
use Rattle.pcb_model.specs.declared.design.Padstack.{Padstack}
use Rattle.pcb_model.specs.declared.design.Net.{Net}
use Rattle.pcb_model.specs.declared.design.Design.{Design}
use Rattle.pcb_model.specs.Sound.{HasFewParts, origin}
use Rattle.dsn_tree.specs.declared.tree.Tree.{Tree}
use Rattle.dsn_tree.specs.Heads.{child, is_headed}
use Rattle.dsn_units.specs.declared.number.Decimal.{Decimal}
use Rattle.dsn_units.specs.Length.{is_below_zero}
use Rattle.dsn_units.specs.Reading.{decimal_of}
use Rattle.dsn_shapes.specs.declared.refusal.Refusal.{Refusal}
use Rattle.dsn_shapes.specs.Refusals.{least, refused}
use Rattle.dsn_shapes.specs.Forms.{points_of}
use Rattle.dsn_shapes.specs.Lists.{at_of, name_of, nth_word, place_of, text_of, words_of}
use Rattle.dsn_shapes.specs.Names.{first_place, place_index}
use Rattle.dsn_shapes.specs.Numbers.{number_by}
use Rattle.dsn_shapes.proofs.Fits.{IsSmall, back_nil, each_fit, first_below, front_nil, none_left, test_holds}
use Rattle.dsn_shapes.proofs.Within.{IsNear, IsNearIfRead, or_zero}
use Rattle.dsn_wiring.specs.Vias.{is_far, is_past, point_by, spine_past}
use Rattle.dsn_wiring.specs.Wires.{no_wire, paths_in}
use Rattle.ses_reader.specs.declared.measure.Measure.{Measure}
use Rattle.ses_reader.specs.Names.{layer_names, net_names, padstack_names}
use Rattle.ses_reader.specs.Measures.{coord_at, coord_of, coord_refusal, extent_at, extent_of, measure_in, raised_up}
use Rattle.ses_reader.specs.Measures.{refused_unless, resolution_refusals, rounded, word_coord, word_extent}
use Rattle.ses_reader.specs.Copper.{chain_in, has_points, is_stack_past, is_via_past, layer_place, metal_of}
use Rattle.ses_reader.specs.Copper.{metal_refusals, number_refusals, numbers_in, only, padstack_at, padstack_place}
use Rattle.ses_reader.specs.Copper.{path_metal, path_refusals, via_metal, via_point, via_refusals, wire_metal}
use Rattle.ses_reader.specs.Copper.{wire_refusals}
use Rattle.ses_reader.specs.Session.{copper_in, item_of, net_items, net_place, net_refusals, network_items}
use Rattle.ses_reader.specs.Session.{network_refusals, nets_in, routes_items, routes_refusals, session_items}
use Rattle.ses_reader.specs.Session.{session_refusals}
use Rattle.ses_reader.specs.Sound.{IsCopperSound, IsItemSound, IsStackNear}

-- ---- tests and lists
-- where none passes a test, each fails it
none_passes : {X : Type 0} (test : X → Bool) (xs : List X) → list_any test xs ≡ false → All (λ x. test x ≡ false) xs
none_passes test [] e = All-nil (λ x. test x ≡ false)
none_passes test (x ∷ xs) e =
    let parts = or_parts (test x) (list_any test xs) e in
    All-cons (λ y. test y ≡ false) x xs parts.0 (none_passes test xs parts.1)

-- an element at a place within a list
found_at : {X : Type 0} (P : X → Type 0) (xs : List X) (i : ℕ) → i < length xs
    → ((x : X) → slice_get xs i ≡ Some x → P x) → IsSomeAnd (slice_get xs i) P
found_at P [] i l h = absurd (omega arith)
found_at P (x ∷ xs) zero l h = h x refl
found_at P (x ∷ xs) (suc i) l h = found_at P xs i (omega arith) h

-- lists without refusals, each of which gives values that fit
each_joined : {X Y Z : Type 0} (P : Z → Type 0) (f : X → List Y) (g : X → List Z) → ((x : X) → f x ≡ [] → All P (g x))
    → (xs : List X) → flat_map f xs ≡ [] → All P (flat_map g xs)
each_joined P f g h [] e = All-nil P
each_joined P f g h (x ∷ xs) e = All-append P (g x) (flat_map g xs) (h x (front_nil (f x) (flat_map f xs) e))
    (each_joined P f g h xs (back_nil (f x) (flat_map f xs) e))

-- a list that is there where its lack is refused
where_there : {X Y Z : Type 0} (P : List Z → Type 0) (f : X → List Y) (g : X → List Z) (y : Y) (o : Option X)
    → ((x : X) → f x ≡ [] → P (g x)) → option_map_or f o (y ∷ []) ≡ [] → P (option_map_or g o [])
where_there P f g y None h e = cc
where_there P f g y (Some x) h e = h x e

-- the same of copper
metal_there : {X : Type 0} (P : Metal → Type 0) (f : X → List Refusal) (g : X → Metal) (r : Refusal)
    (other : Metal) (o : Option X) → ((x : X) → f x ≡ [] → P (g x)) → option_map_or f o (r ∷ []) ≡ []
    → P (option_map_or g o other)
metal_there P f g r other None h e = cc
metal_there P f g r other (Some x) h e = h x e

-- copper by a choice, without the refusals of what is chosen
metal_if : (b : Bool) (P : Metal → Type 0) (v w : Metal) (rs ss : List Refusal) → cond b rs ss ≡ [] → (rs ≡ [] → P v)
    → (ss ≡ [] → P w) → P (cond b v w)
metal_if true P v w rs ss e h k = h e
metal_if false P v w rs ss e h k = k e

-- copper where a test holds whose failure is refused
metal_where : (b : Bool) (P : Metal → Type 0) (v w : Metal) (rs : List Refusal) (r : Refusal) → cond b rs (r ∷ []) ≡ []
    → (b ≡ true → P v) → P (cond b v w)
metal_where true P v w rs r e h = h refl
metal_where false P v w rs r e h = cc

-- what isn't refused holds
holds : (b : Bool) (number at : ℕ) → refused_unless b number at ≡ [] → b ≡ true
holds b number at e = test_holds b (refused number at) [] [] e

-- ---- places of names
-- a place that is there is within bounds
place_there : (o : Option ℕ) (n : ℕ) → ((k : ℕ) → o ≡ Some k → k < n) → is_some o ≡ true → unwrap_or o 0 < n
place_there None n h s = cc
place_there (Some k) n h s = h k refl

-- the place of a name that is found is below the number of names
place_below : (name : List ℕ) (names : List (List ℕ)) (n : ℕ) → length names ≡ n
    → is_some (first_place name names) ≡ true → unwrap_or (first_place name names) 0 < n
place_below name names n l s = place_there (first_place name names) n
    (λ k e. let h : k < length names = first_below name names k e in omega arith) s

-- ---- numbers
-- a number by a test of its size
near_if : (b : Bool) (x : ℤ) → (b ≡ true → IsNear x) → IsNearIfRead (cond b (Some x) None)
near_if true x h = h refl
near_if false x h = tt

-- a decimal that is a coordinate is near
coord_near : (m : Measure) (d : Decimal) → IsNearIfRead (coord_of m d)
unfolding coord_of
coord_near m d = near_if (nat_le (unsigned_abs (rounded m d)) (2 ^ 29)) (rounded m d) (λ e. leb-true _ _ e)

-- so is a text that spells one
number_near : (m : Measure) (o : Option Decimal) → IsNearIfRead (number_by (coord_of m) o)
number_near m None = tt
number_near m (Some d) = coord_near m d

-- so is a word
wanted_near : (m : Measure) (o : Option Tree) → IsNearIfRead (option_map_or (word_coord m) o None)
wanted_near m None = tt
wanted_near m (Some w) = number_near m (decimal_of (text_of w))

-- a width by two tests
small_if : (a b : Bool) (n : ℕ) → (b ≡ false → IsSmall n) → IfSome (cond (a || b) None (Some n)) IsSmall
small_if true b n h = tt
small_if false true n h = tt
small_if false false n h = h refl

-- a decimal that is a width is small
extent_small : (m : Measure) (d : Decimal) → IfSome (extent_of m d) IsSmall
unfolding extent_of
extent_small m d = small_if (is_below_zero d) (nat_lt (2 ^ 28) (raised_up m d)) (raised_up m d) (λ e. ltb-false _ _ e)

-- so is a text that spells one
number_small : (m : Measure) (o : Option Decimal) → IfSome (number_by (extent_of m) o) IsSmall
number_small m None = tt
number_small m (Some d) = extent_small m d

-- so is a word
wanted_small : (m : Measure) (o : Option Tree) → IfSome (option_map_or (word_extent m) o None) IsSmall
wanted_small m None = tt
wanted_small m (Some w) = number_small m (decimal_of (text_of w))

-- a width that is refused counts as 0
or_nothing : (o : Option ℕ) → IfSome o IsSmall → IsSmall (unwrap_or o 0)
or_nothing None h = omega arith
or_nothing (Some n) h = h

-- ---- points
-- points of near numbers are within bounds
points_near : (cs : List (Option ℤ)) → All IsNearIfRead cs → All (IsWithin (2 ^ 29)) (points_of cs)
points_near [] h = All-nil (IsWithin (2 ^ 29))
points_near (x ∷ []) h = All-nil (IsWithin (2 ^ 29))
points_near (x ∷ y ∷ cs) h =
    let rest = All-tail IsNearIfRead x (y ∷ cs) h in
    All-cons (IsWithin (2 ^ 29)) (record { x = unwrap_or x (pos 0); y = unwrap_or y (pos 0) }) (points_of cs)
    (or_zero x (All-head IsNearIfRead x (y ∷ cs) h), or_zero y (All-head IsNearIfRead y cs rest))
    (points_near cs (All-tail IsNearIfRead y cs rest))

-- four numbers are two points
two_points : (cs : List (Option ℤ)) → 4 ≤ length cs → 2 ≤ length (points_of cs)
two_points [] l = absurd (omega arith)
two_points (a ∷ []) l = absurd (omega arith)
two_points (a ∷ b ∷ []) l = absurd (omega arith)
two_points (a ∷ b ∷ c ∷ []) l = absurd (omega arith)
two_points (a ∷ b ∷ c ∷ e ∷ cs) l = omega arith

-- words as coordinates are near
words_near : (m : Measure) (ws : List Tree) → All IsNearIfRead (map (word_coord m) ws)
words_near m [] = All-nil IsNearIfRead
words_near m (w ∷ ws) = All-cons IsNearIfRead (word_coord m w) (map (word_coord m) ws)
    (number_near m (decimal_of (text_of w))) (words_near m ws)

-- a path of enough words has two points
chain_long : (m : Measure) (t : Tree) → has_points (length (words_of t)) ≡ true → 2 ≤ length (chain_in m t)
chain_long m t e =
    let seven : 7 ≤ length (words_of t) = leb-true 7 (length (words_of t))
    (and_parts (nat_le 7 (length (words_of t))) (length (words_of t) % 2 == 1) e).0 in
    let l : length (map (word_coord m) (numbers_in t)) ≡ length (numbers_in t) =
    length-map (numbers_in t) (word_coord m) in
    two_points (map (word_coord m) (numbers_in t)) (omega (arith, length-drop 3 (words_of t)))

-- ---- wires
-- a path that isn't refused is sound copper
path_sound : (d : Design) (m : Measure) (t : Tree) → path_refusals d m t ≡ [] → IsCopperSound d (path_metal d m t)
unfolding path_metal path_refusals
path_sound d m t e =
    let layer = refused_unless (is_some (layer_place d t)) 4 (place_of t 1) in
    let l : length (layer_names d) ≡ length d.layers = length-map d.layers (λ (a : BoardLayer). a.name) in
    let below : unwrap_or (layer_place d t) 0 < length d.layers =
    place_below (name_of t 1) (layer_names d) (length d.layers) l
    (holds (is_some (layer_place d t)) 4 (place_of t 1) (front_nil layer _ e)) in
    metal_where (has_points (length (words_of t))) (IsCopperSound d) _ no_wire (number_refusals m t)
    (refused 6 (at_of t)) (back_nil layer _ e)
    (λ long. (
      omega arith,
      or_nothing (extent_at m t 2) (wanted_small m (nth_word t 2)),
      chain_long m t long,
      points_near (map (word_coord m) (numbers_in t)) (words_near m (numbers_in t)),
    ))

-- so is a wire
wire_sound : (d : Design) (m : Measure) (t : Tree) → wire_refusals d m t ≡ [] → IsCopperSound d (wire_metal d m t)
unfolding wire_metal wire_refusals
wire_sound d m t e = metal_there (IsCopperSound d) (path_refusals d m) (path_metal d m) (refused 6 (at_of t)) no_wire
    (only (paths_in t)) (path_sound d m) e

-- ---- vias
-- a point that is refused counts as the origin
or_origin : (o : Option Point) → IfSome o (IsWithin (2 ^ 29)) → IsWithin (2 ^ 29) (unwrap_or o origin)
or_origin None h = (omega arith, omega arith)
or_origin (Some p) h = h

-- a point of near numbers is within bounds
point_near : (x y : Option ℤ) → IsNearIfRead x → IsNearIfRead y → IfSome (point_by x y) (IsWithin (2 ^ 29))
point_near None y h k = tt
point_near (Some x) None h k = tt
point_near (Some x) (Some y) h k = (h, k)

-- two numbers that are there are a point
both_there : (x y : Option ℤ) → is_some x ≡ true → is_some y ≡ true → is_some (point_by x y) ≡ true
both_there None y e f = cc
both_there (Some x) None e f = cc
both_there (Some x) (Some y) e f = refl

-- the point of a via is within bounds
via_near : (m : Measure) (t : Tree) → IsWithin (2 ^ 29) (unwrap_or (via_point m t) origin)
unfolding via_point
via_near m t = or_origin (point_by (coord_at m t 2) (coord_at m t 3))
    (point_near (coord_at m t 2) (coord_at m t 3) (wanted_near m (nth_word t 2)) (wanted_near m (nth_word t 3)))

-- a vertex that isn't past the limit is within it
vertex_near : (at p : Point) → is_past at p ≡ false → IsWithin (2 ^ 29) (moved at p)
vertex_near at p e =
    let parts = or_parts (is_far p.x at.x) (is_far p.y at.y) e in
    (ltb-false (2 ^ 29) (unsigned_abs (p.x +ℤ at.x)) parts.0, ltb-false (2 ^ 29) (unsigned_abs (p.y +ℤ at.y)) parts.1)

-- so are those of a list of points
chain_near : (at : Point) (ps : List Point) → list_any (is_past at) ps ≡ false
    → All (IsWithin (2 ^ 29)) (map (moved at) ps)
chain_near at ps e = All-map (IsWithin (2 ^ 29)) (moved at) ps
    (All-weaker (λ p. is_past at p ≡ false) (λ p. IsWithin (2 ^ 29) (moved at p)) (vertex_near at) ps
    (none_passes (is_past at) ps e))

-- so are those of a spine
spine_near : (at : Point) (s : Spine) → spine_past at s ≡ false → IsSpineWithin (2 ^ 29) (moved_spine at s)
spine_near at (Chain ps) e = chain_near at ps e
spine_near at (Area loops) e = All-map (All (IsWithin (2 ^ 29))) (map (moved at)) loops
    (All-weaker (λ ps. list_any (is_past at) ps ≡ false) (λ ps. All (IsWithin (2 ^ 29)) (map (moved at) ps))
    (chain_near at) loops (none_passes (list_any (is_past at)) loops e))

-- so are those of a padstack
stack_near : (at : Point) (s : Padstack) → is_stack_past at s ≡ false → IsStackNear at s
stack_near at s e = All-weaker (λ (c : Piece). spine_past at c.spine ≡ false)
    (λ (c : Piece). IsSpineWithin (2 ^ 29) (moved_spine at c.spine)) (λ c h. spine_near at c.spine h) s.pieces
    (none_passes (λ (c : Piece). spine_past at c.spine) s.pieces e)

-- a padstack that is there, at a point that is
stack_found : (stacks : List Padstack) (i : ℕ) (at : Option Point) → i < length stacks → is_some at ≡ true
    → is_via_past (slice_get stacks i) at ≡ false → IsSomeAnd (slice_get stacks i) (IsStackNear (unwrap_or at origin))
unfolding is_via_past
stack_found stacks i None l s e = cc
stack_found stacks i (Some at) l s e = found_at (IsStackNear at) stacks i l
    (λ stack h. stack_near at stack
    (let f : option_map_or (is_stack_past at) (Some stack) false ≡ false = rw h at e in f))

-- an index of few padstacks isn't capped
index_is : (i n : ℕ) → i < n → n ≤ 2 ^ 26 → place_index i ≡ i
index_is i n l h = omega arith

-- the padstack that a via names, at the via's point
via_at : (d : Design) (place : Option ℕ) (at : Option Point) → length d.padstacks ≤ 2 ^ 26
    → ((i : ℕ) → place ≡ Some i → i < length d.padstacks) → is_some place ≡ true → is_some at ≡ true
    → is_via_past (padstack_at d place) at ≡ false
    → IsSomeAnd (slice_get d.padstacks (place_index (unwrap_or place 0))) (IsStackNear (unwrap_or at origin))
via_at d None at few below s k e = cc
via_at d (Some i) at few below s k e =
    let l = below i refl in
    subst (λ j. IsSomeAnd (slice_get d.padstacks j) (IsStackNear (unwrap_or at origin)))
    (sym (index_is i (length d.padstacks) l few)) (stack_found d.padstacks i at l k e)

-- a via that isn't refused is sound copper
via_sound : (d : Design) (m : Measure) (t : Tree) → length d.padstacks ≤ 2 ^ 26 → via_refusals d m t ≡ []
    → IsCopperSound d (via_metal d m t)
unfolding via_metal via_refusals via_point
via_sound d m t few e =
    let names = padstack_names d in
    let stack = refused_unless (is_some (padstack_place d t)) 5 (place_of t 1) in
    let rest = back_nil stack _ e in
    let last = back_nil (coord_refusal m t 2) _ rest in
    let l : length names ≡ length d.padstacks = length-map d.padstacks (λ (s : Padstack). s.name) in (
      via_near m t,
      via_at d (padstack_place d t) (point_by (coord_at m t 2) (coord_at m t 3)) few
          (λ i h. let k : i < length names = first_below (name_of t 1) names i h in omega arith)
          (holds (is_some (padstack_place d t)) 5 (place_of t 1) (front_nil stack _ e))
          (both_there (coord_at m t 2) (coord_at m t 3)
          (holds (is_some (coord_at m t 2)) 2 (place_of t 2) (front_nil (coord_refusal m t 2) _ rest))
          (holds (is_some (coord_at m t 3)) 2 (place_of t 3) (front_nil (coord_refusal m t 3) _ last)))
          (not-true (is_via_past (padstack_at d (padstack_place d t)) (point_by (coord_at m t 2) (coord_at m t 3)))
          (holds (not (is_via_past (padstack_at d (padstack_place d t)) (point_by (coord_at m t 2) (coord_at m t 3))))
          2 (at_of t) (back_nil (coord_refusal m t 3) _ last))),
    )

-- ---- items
-- so is either of both
metal_sound : (d : Design) (m : Measure) (t : Tree) → length d.padstacks ≤ 2 ^ 26 → metal_refusals d m t ≡ []
    → IsCopperSound d (metal_of d m t)
unfolding metal_of metal_refusals
metal_sound d m t few e = metal_if (is_headed (codes "via") t) (IsCopperSound d) (via_metal d m t) (wire_metal d m t)
    (via_refusals d m t) (wire_refusals d m t) e (via_sound d m t few) (wire_sound d m t)

-- the items of a net that isn't refused are sound
net_sound : (d : Design) (m : Measure) → length d.padstacks ≤ 2 ^ 26 → (t : Tree) → net_refusals d m t ≡ []
    → All (IsItemSound d) (net_items d m t)
unfolding net_items net_refusals
net_sound d m few t e =
    let net = refused_unless (is_some (net_place d t)) 3 (place_of t 1) in
    let l : length (net_names d) ≡ length d.nets = length-map d.nets (λ (n : Net). n.name) in
    let below : unwrap_or (net_place d t) 0 < length d.nets =
    place_below (name_of t 1) (net_names d) (length d.nets) l
    (holds (is_some (net_place d t)) 3 (place_of t 1) (front_nil net _ e)) in
    each_fit (IsItemSound d) (metal_refusals d m) (item_of d m (place_index (unwrap_or (net_place d t) 0)))
    (λ u h. record { net_in_range = omega arith; copper = metal_sound d m u few h })
    (copper_in t) (back_nil net _ e)

-- so are those of the routes
routes_sound : (d : Design) → length d.padstacks ≤ 2 ^ 26 → (t : Tree) → routes_refusals d t ≡ []
    → All (IsItemSound d) (routes_items d t)
unfolding routes_items routes_refusals
routes_sound d few t e = where_there (All (IsItemSound d)) (network_refusals d (measure_in t))
    (network_items d (measure_in t)) (refused 1 (at_of t)) (child t (codes "network_out"))
    (λ u h. each_joined (IsItemSound d) (net_refusals d (measure_in t)) (net_items d (measure_in t))
    (net_sound d (measure_in t) few) (nets_in u) h)
    (back_nil (resolution_refusals t) _ e)

-- so are those of a session
pub session_sound : (d : Design) (t : Tree) → HasFewParts d → least (session_refusals d t) ≡ None
    → All (IsItemSound d) (session_items d t)
unfolding session_items session_refusals
session_sound d t few none = where_there (All (IsItemSound d)) (routes_refusals d) (routes_items d)
    (refused 1 (at_of t)) (child t (codes "routes"))
    (routes_sound d few.few_padstacks)
    (back_nil (refused_unless (is_headed (codes "session") t) 1 (at_of t)) _ (none_left (session_refusals d t) none))
