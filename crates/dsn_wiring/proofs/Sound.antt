-- Where no refusal of a wiring stands, it is sound.
use Rattle.std.proofs.Common.{◌≡◌, ◌<◌, ◌≤◌, ◌/◌, ◌%◌, ◌^◌, ◌++◌, ap, sym, subst, ⊎_elim, ℕ, ℤ, zero, suc, Bool}
use Rattle.std.proofs.Common.{true, false, cond, ◌||◌, List, [], ◌∷◌, Option, Some, None, length, map, refl, arith}
use Rattle.std.specs.Prelude.{◌==◌, ◌+ℤ◌, All, IfSome, IsSome, codes, filter, is_some, slice_get, unsigned_abs}
use Rattle.std.specs.Prelude.{unwrap_or}
use Rattle.std.specs.List.{flat_map, list_any, range_with_len}
use Rattle.std.specs.Option.{IsSomeAnd, option_map, option_map_or}
use Rattle.std.proofs.Math.Nat.{div-eq_of_lt, pow-le-pow_right}
use Rattle.std.proofs.lemmas.Bool.{cases_lt, eqb-false, ltb-false, or_from, or_parts}
use Rattle.std.proofs.lemmas.List.{length-map}
use Rattle.std.proofs.lemmas.List.Elements.{All-cons, All-map, All-nil, All-weaker, filter_passes}
use Rattle.geo_kernel.specs.declared.point.Point.{Point}
use Rattle.geo_kernel.specs.declared.spine.Spine.{Spine}
use Rattle.geo_kernel.specs.declared.spine.Spine.TheVariants.{Chain, Area}
use Rattle.geo_kernel.specs.Plane.{IsWithin}
use Rattle.geo_kernel.specs.Spine.{IsSpineWithin, IsWellFormed}
use Rattle.geo_kernel.specs.Moved.{moved, moved_spine}
use Rattle.dsn_tree.specs.declared.tree.Tree.{Tree}
use Rattle.dsn_tree.specs.Heads.{child, is_headed, items_of}
use Rattle.dsn_units.specs.declared.number.Decimal.{Decimal}
use Rattle.dsn_units.specs.Length as lengths
use Rattle.dsn_units.specs.Reading.{decimal_of}
use Rattle.pcb_model.specs.declared.item.Metal.{Metal}
use Rattle.pcb_model.specs.declared.item.Metal.TheVariants.{Wire, Via, Pad, Ban}
use Rattle.pcb_model.specs.Bounds.{IsMetalFit}
use Rattle.pcb_model.specs.Sound.{origin}
use Rattle.pcb_model.specs.declared.limits.TheConstants.{MOST_ITEMS}
use Rattle.dsn_shapes.specs.declared.refusal.Refusal.{Refusal}
use Rattle.dsn_shapes.specs.declared.refusal.What.TheVariants.{Items}
use Rattle.dsn_shapes.specs.declared.parts.ReadNet.{ReadNet}
use Rattle.dsn_shapes.specs.declared.parts.LayerShape.{LayerShape}
use Rattle.dsn_shapes.specs.declared.parts.Library.{Library}
use Rattle.dsn_shapes.specs.declared.parts.Network.{Network}
use Rattle.dsn_shapes.specs.declared.parts.Placing.{Placing}
use Rattle.dsn_shapes.specs.declared.parts.Stack.{Stack}
use Rattle.dsn_shapes.specs.declared.parts.Structure.{Structure}
use Rattle.dsn_shapes.specs.Refusals.{least, refused}
use Rattle.dsn_shapes.specs.Known.{form_heads}
use Rattle.dsn_shapes.specs.Lists.{at_of, has_head, is_left_out, left_out, left_out_in, lists, name_of, nth_word}
use Rattle.dsn_shapes.specs.Lists.{place_of, text_of}
use Rattle.dsn_shapes.specs.Names.{first_place, place_index, stack_names}
use Rattle.dsn_shapes.specs.Numbers.{coord_refusal, limit_refusal, number_by, refusal_by, word_coord}
use Rattle.dsn_shapes.specs.Numbers.{word_coord_refusal}
use Rattle.dsn_shapes.specs.Shapes.{shape_of, shape_refusals}
use Rattle.dsn_shapes.proofs.Fits.{back_nil, each_nil, first_below, front_nil, none_left, shape_fit, test_fails}
use Rattle.dsn_shapes.proofs.Fits.{test_holds}
use Rattle.dsn_shapes.specs.Fits.{IsShapeFit}
use Rattle.dsn_shapes.proofs.Few.{few_kept, shape_layered, shape_layers}
use Rattle.dsn_shapes.proofs.Within.{IsNearIfRead, wanted_near}
use Rattle.dsn_wiring.specs.Layers.{has_layer, layers_below}
use Rattle.dsn_wiring.specs.Nets.{is_fixed, net_names, net_of, net_refusals, place_in}
use Rattle.dsn_wiring.specs.Wires.{chain_of, further_forms, is_unfit, no_form, no_wire, others_in, path_metal}
use Rattle.dsn_wiring.specs.Wires.{path_refusals, paths_in, refused_form, wire_metal, wire_refusals}
use Rattle.dsn_wiring.specs.Vias.{coord_of, is_far, is_past, is_via_past, past_refusal, point_by, spine_past, stack_at}
use Rattle.dsn_wiring.specs.Vias.{stack_past, stack_place, unknown_stack, via_metal, via_place, via_place_refusals}
use Rattle.dsn_wiring.specs.Vias.{via_refusals}
use Rattle.dsn_shapes.specs.Limits.{too_many}
use Rattle.dsn_wiring.specs.Counts.{items_before}
use Rattle.dsn_wiring.specs.Whole.{lists_left_out, metal_of, metal_refusals, refusals_of, wire_lists, wire_of}
use Rattle.dsn_wiring.specs.Whole.{wiring_of, wiring_refusals, wirings}
use Rattle.dsn_wiring.specs.Sound.{HasFewStacks, IsCopperSound, IsStackNear, IsWireSound, IsWiringSound}

-- ---- lists
none_passes : {X : Type 0} (test : X → Bool) (xs : List X) → list_any test xs ≡ false → All (λ x. test x ≡ false) xs
none_passes test [] e = All-nil (λ x. test x ≡ false)
none_passes test (x ∷ xs) e =
    let parts = or_parts (test x) (list_any test xs) e in
    All-cons (λ y. test y ≡ false) x xs parts.0 (none_passes test xs parts.1)

first_or : {X : Type 0} (P : X → Type 0) (xs : List X) (d : X) → All P xs → P d → P (unwrap_or (slice_get xs 0) d)
first_or P [] d h k = k
first_or P (x ∷ xs) d h k = h 0 d (omega arith)

found_at : {X : Type 0} (P : X → Type 0) (xs : List X) (i : ℕ) → i < length xs
    → ((x : X) → slice_get xs i ≡ Some x → P x) → IsSomeAnd (slice_get xs i) P
found_at P [] i l h = absurd (omega arith)
found_at P (x ∷ xs) zero l h = h x refl
found_at P (x ∷ xs) (suc i) l h = found_at P xs i (omega arith) h

dropped : {X : Type 0} (b : Bool) (x : X) (xs ys : List X) → cond b (x ∷ xs) ys ≡ [] → (b ≡ false) × (ys ≡ [])
dropped true x xs ys e = cc
dropped false x xs ys e = (refl, e)

none_kept : {X : Type 0} (b : Bool) (x : X) (xs ys : List X) → b ≡ false → ys ≡ [] → cond b (x ∷ xs) ys ≡ []
none_kept true x xs ys e f = cc
none_kept false x xs ys e f = f

-- ---- layers
beyond : (layers i : ℕ) → layers < 2 ^ i → has_layer layers i ≡ true → ⊥
beyond layers i l e = let z : layers / 2 ^ i ≡ 0 = div-eq_of_lt l in let f : (0 % 2 == 1) ≡ true = rw z at e in cc

layer_below : (layers n i : ℕ) → layers < 2 ^ n → has_layer layers i ≡ true → i < n
layer_below layers n i l e =
    ⊎_elim (λ h. h) (λ h. let p : 2 ^ n ≤ 2 ^ i = pow-le-pow_right {n = 2} (omega arith) h in
    absurd (beyond layers i (omega arith) e)) (cases_lt i n)

kept_below : (most layers n : ℕ) → layers < 2 ^ n → All (λ i. i < n) (layers_below most layers)
unfolding layers_below
kept_below most layers n l =
    All-weaker (λ i. has_layer layers i ≡ true) (λ i. i < n) (λ i e. layer_below layers n i l e)
    (filter (has_layer layers) (range_with_len 0 most)) (filter_passes (has_layer layers) (range_with_len 0 most))

-- ---- wires
chain_within : (s : Spine) → IsSpineWithin (2 ^ 29) s → All (IsWithin (2 ^ 29)) (chain_of s)
chain_within (Chain ps) h = h
chain_within (Area loops) h = All-nil (IsWithin (2 ^ 29))

path_sound : (nm : ℕ) (st : Structure) (lib : Library) (t : Tree) → path_refusals nm st.layers t ≡ []
    → IsCopperSound st lib (path_metal nm st.layers t)
unfolding path_metal path_refusals
path_sound nm st lib t e =
    let s = shape_of nm st.layers t in
    let shape = front_nil (shape_refusals nm st.layers t) _ e in
    let fits = shape_fit nm st.layers t shape in
    let few = test_fails (is_unfit s) (refused 22 (at_of t)) [] (back_nil (shape_refusals nm st.layers t) _ e) in
    let two : 2 ≤ length (chain_of s.spine) = ltb-false _ 2 (or_parts _ _ few).1 in
    let below = kept_below 32 s.layers (length st.layers) (shape_layers nm st.layers t) in (
      first_or (λ i. i < length st.layers) (layers_below 32 s.layers) 0 below (shape_layered nm st.layers t shape),
      fits.width_within,
      two,
      chain_within s.spine fits.within,
    )

-- of six heads none is one of an item's
no_head : (c r o p q l b : Bool) → (p || false) ≡ false → (r || (c || (o || false))) ≡ false → (q || (l || b)) ≡ false
    → (c || (r || (o || (p || (q || (l || false)))))) ≡ false
no_head c r o p q l b path others left =
    let h = or_parts p false path in
    let k = or_parts r (c || (o || false)) others in
    let m = or_parts c (o || false) k.1 in
    let n = or_parts o false m.1 in
    let v = or_parts q (l || b) left in
    let w = or_parts l b v.1 in
    or_from c _ m.0 (or_from r _ k.0 (or_from o _ n.0 (or_from p _ h.0 (or_from q _ v.0 (or_from l false w.0 refl)))))

abbrev path_heads : List (List ℕ)
path_heads = codes "path" ∷ []

abbrev other_heads : List (List ℕ)
other_heads = codes "rect" ∷ codes "circle" ∷ codes "polygon" ∷ []

no_forms : (items : List Tree) → flat_map left_out items ≡ [] → filter (has_head path_heads) items ≡ []
    → filter (has_head other_heads) items ≡ [] → filter (has_head form_heads) items ≡ []
no_forms [] left paths others = refl
no_forms (i ∷ items) left paths others =
    let p = dropped (has_head path_heads i) i (filter (has_head path_heads) items) (filter (has_head path_heads) items)
    paths in
    let o = dropped (has_head other_heads i) i (filter (has_head other_heads) items)
    (filter (has_head other_heads) items) others in
    let l = test_fails (is_left_out i) (refused 21 (place_of i 0)) []
    (front_nil (left_out i) (flat_map left_out items) left) in
    let n = no_head (is_headed (codes "circle") i) (is_headed (codes "rect") i) (is_headed (codes "polygon") i)
    (is_headed (codes "path") i) (is_headed (codes "qarc") i) (is_headed (codes "polyline_path") i) _ p.0 o.0 l in
    none_kept (has_head form_heads i) i (filter (has_head form_heads) items) (filter (has_head form_heads) items) n
    (no_forms items (back_nil (left_out i) (flat_map left_out items) left) p.1 o.1)

none_refused : (ts : List Tree) → flat_map refused_form ts ≡ [] → ts ≡ []
none_refused [] e = refl
none_refused (t ∷ ts) e = cc

-- a wire of which no form is refused has a path
some_path : (t : Tree) → flat_map left_out (items_of t) ≡ [] → no_form t ≡ [] → further_forms t ≡ [] → paths_in t ≡ []
    → ⊥
unfolding no_form further_forms lists
some_path t left none further paths =
    let p = front_nil (filter (has_head path_heads) (items_of t)) [] paths in
    let o = front_nil (filter (has_head other_heads) (items_of t)) []
    (none_refused (others_in t) (back_nil _ (flat_map refused_form (others_in t)) further)) in
    let forms = no_forms (items_of t) left p o in
    let some = eqb-false (length (lists form_heads (t ∷ []))) 0
    (test_fails (length (lists form_heads (t ∷ [])) == 0) (refused 22 (at_of t)) [] none) in
    some (ap (λ (fs : List Tree). length (fs ++ [])) forms)

path_at : (nm : ℕ) (st : Structure) (lib : Library) (paths : List Tree) → (paths ≡ [] → ⊥)
    → option_map_or (path_refusals nm st.layers) (slice_get paths 0) [] ≡ []
    → IsCopperSound st lib (option_map_or (path_metal nm st.layers) (slice_get paths 0) no_wire)
path_at nm st lib [] some e = absurd (some refl)
path_at nm st lib (p ∷ paths) some e = path_sound nm st lib p e

wire_sound : (nm : ℕ) (st : Structure) (lib : Library) (t : Tree) → flat_map left_out (items_of t) ≡ []
    → wire_refusals nm st.layers t ≡ [] → IsCopperSound st lib (wire_metal nm st.layers t)
unfolding wire_metal wire_refusals
wire_sound nm st lib t left e =
    let rest = back_nil (no_form t) _ e in
    path_at nm st lib (paths_in t) (some_path t left (front_nil (no_form t) _ e) (front_nil (further_forms t) _ rest))
    (back_nil (further_forms t) _ rest)

-- ---- vias
or_origin : (o : Option Point) → IfSome o (IsWithin (2 ^ 29)) → IsWithin (2 ^ 29) (unwrap_or o origin)
or_origin None h = (omega arith, omega arith)
or_origin (Some p) h = h

point_near : (x y : Option ℤ) → IsNearIfRead x → IsNearIfRead y → IfSome (point_by x y) (IsWithin (2 ^ 29))
point_near None y h k = tt
point_near (Some x) None h k = tt
point_near (Some x) (Some y) h k = (h, k)

place_near : (nm : ℕ) (t : Tree) → IsWithin (2 ^ 29) (unwrap_or (via_place nm t) origin)
unfolding via_place
place_near nm t =
    or_origin (point_by (coord_of nm t 2) (coord_of nm t 3))
    (point_near (coord_of nm t 2) (coord_of nm t 3) (wanted_near nm (nth_word t 2)) (wanted_near nm (nth_word t 3)))

limit_there : (at : ℕ) (o : Option ℤ) → limit_refusal at o ≡ [] → is_some o ≡ true
limit_there at None e = cc
limit_there at (Some x) e = refl

decimal_there : (nm at : ℕ) (o : Option Decimal) → refusal_by (λ d. lengths.coord_of d nm) at o ≡ []
    → is_some (number_by (λ d. lengths.coord_of d nm) o) ≡ true
decimal_there nm at None e = cc
decimal_there nm at (Some d) e = limit_there at (lengths.coord_of d nm) e

word_there : (nm at : ℕ) (o : Option Tree) → option_map_or (word_coord_refusal nm) o (refused 9 at ∷ []) ≡ []
    → is_some (option_map_or (word_coord nm) o None) ≡ true
word_there nm at None e = cc
word_there nm at (Some w) e = decimal_there nm (at_of w) (decimal_of (text_of w)) e

both_there : (x y : Option ℤ) → is_some x ≡ true → is_some y ≡ true → is_some (point_by x y) ≡ true
both_there None y e f = cc
both_there (Some x) None e f = cc
both_there (Some x) (Some y) e f = refl

place_there : (nm : ℕ) (t : Tree) → via_place_refusals nm t ≡ [] → is_some (via_place nm t) ≡ true
unfolding via_place via_place_refusals
place_there nm t e =
    both_there (coord_of nm t 2) (coord_of nm t 3)
    (word_there nm (at_of t) (nth_word t 2) (front_nil (coord_refusal nm t 2) (coord_refusal nm t 3) e))
    (word_there nm (at_of t) (nth_word t 3) (back_nil (coord_refusal nm t 2) (coord_refusal nm t 3) e))

vertex_near : (at p : Point) → is_past at p ≡ false → IsWithin (2 ^ 29) (moved at p)
vertex_near at p e =
    let parts = or_parts (is_far p.x at.x) (is_far p.y at.y) e in
    (ltb-false (2 ^ 29) (unsigned_abs (p.x +ℤ at.x)) parts.0, ltb-false (2 ^ 29) (unsigned_abs (p.y +ℤ at.y)) parts.1)

chain_near : (at : Point) (ps : List Point) → list_any (is_past at) ps ≡ false
    → All (IsWithin (2 ^ 29)) (map (moved at) ps)
chain_near at ps e =
    All-map (IsWithin (2 ^ 29)) (moved at) ps
    (All-weaker (λ p. is_past at p ≡ false) (λ p. IsWithin (2 ^ 29) (moved at p)) (vertex_near at) ps
    (none_passes (is_past at) ps e))

spine_near : (at : Point) (s : Spine) → spine_past at s ≡ false → IsSpineWithin (2 ^ 29) (moved_spine at s)
spine_near at (Chain ps) e = chain_near at ps e
spine_near at (Area loops) e =
    All-map (All (IsWithin (2 ^ 29))) (map (moved at)) loops
    (All-weaker (λ ps. list_any (is_past at) ps ≡ false) (λ ps. All (IsWithin (2 ^ 29)) (map (moved at) ps))
    (chain_near at) loops (none_passes (list_any (is_past at)) loops e))

stack_near : (at : Point) (s : Stack) → stack_past at s ≡ false → IsStackNear at s
stack_near at s e =
    All-weaker (λ (shape : LayerShape). spine_past at shape.spine ≡ false)
    (λ (shape : LayerShape). IsSpineWithin (2 ^ 29) (moved_spine at shape.spine))
    (λ shape h. spine_near at shape.spine h) s.shapes
    (none_passes (λ (shape : LayerShape). spine_past at shape.spine) s.shapes e)

-- a padstack that is there, at a place that is
stack_found : (stacks : List Stack) (i : ℕ) (at : Option Point) → i < length stacks → is_some at ≡ true
    → is_via_past (slice_get stacks i) at ≡ false → IsSomeAnd (slice_get stacks i) (IsStackNear (unwrap_or at origin))
stack_found stacks i None l s e = cc
stack_found stacks i (Some at) l s e =
    found_at (IsStackNear at) stacks i l
    (λ stack h. stack_near at stack (let f : option_map_or (stack_past at) (Some stack) false ≡ false = rw h at e in f))

index_is : (i n : ℕ) → i < n → n ≤ 2 ^ 32 → place_index i ≡ i
index_is i n l h = omega arith

via_at : (lib : Library) (place : Option ℕ) (at : Option Point) → HasFewStacks lib
    → ((i : ℕ) → place ≡ Some i → i < length lib.stacks) → is_some place ≡ true → is_some at ≡ true
    → is_via_past (stack_at lib.stacks place) at ≡ false
    → IsSomeAnd (slice_get lib.stacks (place_index (unwrap_or place 0))) (IsStackNear (unwrap_or at origin))
via_at lib None at few below s k e = cc
via_at lib (Some i) at few below s k e =
    let l = below i refl in
    let m : length lib.stacks ≤ 2 ^ 32 = few.few in
    subst (λ j. IsSomeAnd (slice_get lib.stacks j) (IsStackNear (unwrap_or at origin)))
    (sym (index_is i (length lib.stacks) l m)) (stack_found lib.stacks i at l k e)

via_sound : (nm : ℕ) (st : Structure) (lib : Library) (t : Tree) → HasFewStacks lib
    → via_refusals nm lib.stacks (stack_names lib.stacks) t ≡ []
    → IsCopperSound st lib (via_metal nm (stack_names lib.stacks) t)
unfolding via_metal via_refusals unknown_stack past_refusal
via_sound nm st lib t few e =
    let names = stack_names lib.stacks in
    let rest = back_nil (unknown_stack names t) _ e in
    let l : length names ≡ length lib.stacks = length-map lib.stacks (λ (s : Stack). s.name) in (
      place_near nm t,
      via_at lib (stack_place names t) (via_place nm t) few
          (λ i h. let k : i < length names = first_below (name_of t 1) names i h in omega arith)
          (test_holds (is_some (stack_place names t)) (refused 14 (place_of t 1)) [] []
          (front_nil (unknown_stack names t) _ e)) (place_there nm t (front_nil (via_place_refusals nm t) _ rest))
          (test_fails (is_via_past (stack_at lib.stacks (stack_place names t)) (via_place nm t)) (refused 10 (at_of t))
          [] (back_nil (via_place_refusals nm t) _ rest)),
    )

-- ---- nets
some_then : (P : ℕ → Type 0) (o : Option ℕ) → ((n : ℕ) → o ≡ Some n → P n) → IfSome o P
some_then P None h = tt
some_then P (Some n) h = h n refl

word_in_range : (names : List (List ℕ)) (o : Option Tree)
    → IfSome (option_map_or (λ w. first_place (text_of w) names) o None) (λ n. n < length names)
word_in_range names None = tt
word_in_range names (Some w) =
    some_then (λ n. n < length names) (first_place (text_of w) names) (first_below (text_of w) names)

list_in_range : (names : List (List ℕ)) (o : Option Tree)
    → IfSome (option_map_or (place_in names) o None) (λ n. n < length names)
list_in_range names None = tt
list_in_range names (Some t) = word_in_range names (nth_word t 1)

index_in_range : (n : ℕ) (o : Option ℕ) → IfSome o (λ k. k < n) → IfSome (option_map place_index o) (λ k. k < n)
index_in_range n None h = tt
index_in_range n (Some k) h = omega arith

net_in_range : (names : List (List ℕ)) (t : Tree) → IfSome (net_of names t) (λ n. n < length names)
unfolding net_of
net_in_range names t =
    index_in_range (length names) (option_map_or (place_in names) (child t (codes "net")) None)
    (list_in_range names (child t (codes "net")))

routed_net : (net : Option ℕ) (t : Tree) → is_fixed net t ≡ false → IsSome net
unfolding is_fixed
routed_net None t e = cc
routed_net (Some n) t e = refl

-- ---- the whole
metal_if : (b : Bool) (P : Metal → Type 0) (v w : Metal) (rs ss : List Refusal) → cond b rs ss ≡ [] → (rs ≡ [] → P v)
    → (ss ≡ [] → P w) → P (cond b v w)
metal_if true P v w rs ss e h k = h e
metal_if false P v w rs ss e h k = k e

one_sound : (nm : ℕ) (st : Structure) (lib : Library) (network : Network) (t : Tree) → HasFewStacks lib
    → flat_map left_out (items_of t) ≡ []
    → refusals_of nm st.layers lib.stacks (stack_names lib.stacks) (net_names network.nets) t ≡ []
    → IsWireSound st lib network (wire_of nm st.layers (stack_names lib.stacks) (net_names network.nets) t)
unfolding wire_of refusals_of metal_of metal_refusals
one_sound nm st lib network t few left e =
    let nets = net_names network.nets in
    let names = stack_names lib.stacks in
    record {
      net_in_range =
          subst (λ n. IfSome (net_of nets t) (λ k. k < n)) (length-map network.nets (λ (n : ReadNet). n.name))
          (net_in_range nets t);
      net_there = λ f. routed_net (net_of nets t) t f;
      copper = metal_if (is_headed (codes "via") t) (IsCopperSound st lib) (via_metal nm names t)
          (wire_metal nm st.layers t) (via_refusals nm lib.stacks names t) (wire_refusals nm st.layers t)
          (back_nil (net_refusals nets t) _ e) (via_sound nm st lib t few) (wire_sound nm st lib t left);
    }

few_wires : (before : ℕ) (ts : List Tree) → too_many Items before ts ≡ [] → length ts ≤ MOST_ITEMS
few_wires before ts e = let h = few_kept Items before ts e in omega arith

pub wiring_sound : (nm : ℕ) (st : Structure) (lib : Library) (placing : Placing) (network : Network) (pcb : Tree)
    → HasFewStacks lib → least (wiring_refusals nm st lib placing network pcb) ≡ None
    → IsWiringSound st lib network (wiring_of nm st lib placing network pcb)
unfolding lists_left_out left_out_in
wiring_sound nm st lib placing network pcb few none =
    let ts = wire_lists pcb in
    let names = stack_names lib.stacks in
    let nets = net_names network.nets in
    let make = wire_of nm st.layers names nets in
    let all = none_left (wiring_refusals nm st lib placing network pcb) none in
    let rest = back_nil (lists_left_out (wirings pcb) ts) _ all in
    let lefts = each_nil (λ t. flat_map left_out (items_of t)) ts
    (back_nil (left_out_in (wirings pcb)) _ (front_nil (lists_left_out (wirings pcb) ts) _ all)) in
    let refusals =
    each_nil (refusals_of nm st.layers lib.stacks names nets) ts
    (back_nil (too_many Items (items_before st lib placing) ts) _ rest) in
    let l : length (map make ts) ≡ length ts = length-map ts make in
    let m : length ts ≤ MOST_ITEMS =
    few_wires (items_before st lib placing) ts (front_nil (too_many Items (items_before st lib placing) ts) _ rest) in
    record {
      few = omega arith;
      wires = All-map (IsWireSound st lib network) make ts
          (λ k d h. one_sound nm st lib network _ few (lefts k d h) (refusals k d h));
    }

-- ---- what a design takes from it
pub copper_fit : (st : Structure) (lib : Library) (m : Metal) → IsCopperSound st lib m → IsMetalFit m
copper_fit st lib (Wire layer width chain) h = let two : 2 ≤ length chain = h.2 in (omega arith, h.3, h.1)
copper_fit st lib (Via stack at) h = h.0
copper_fit st lib (Pad pin) h = absurd h
copper_fit st lib (Ban wires vias) h = absurd h

moved_formed : (at : Point) (s : Spine) → IsWellFormed s → IsWellFormed (moved_spine at s)
moved_formed at (Chain ps) h = let l : length (map (moved at) ps) ≡ length ps = length-map ps (moved at) in omega arith
moved_formed at (Area loops) h =
    let l : length (map (map (moved at)) loops) ≡ length loops = length-map loops (map (moved at)) in
    let some : 0 < length loops = h.0 in (
      omega arith,
      All-map (λ (loop : List Point). 3 ≤ length loop) (map (moved at)) loops
          (All-weaker (λ (loop : List Point). 3 ≤ length loop) (λ (loop : List Point). 3 ≤ length (map (moved at) loop))
          (λ loop k. let m : length (map (moved at) loop) ≡ length loop = length-map loop (moved at) in omega arith)
          loops h.1),
    )

abbrev pub at_place : Point → LayerShape → LayerShape
at_place at s = record { layers = s.layers; spine = moved_spine at s.spine; width = s.width }

shape_at_place : (at : Point) (s : LayerShape) → IsShapeFit s → IsSpineWithin (2 ^ 29) (moved_spine at s.spine)
    → IsShapeFit (at_place at s)
shape_at_place at s h k =
    record { well_formed = moved_formed at s.spine h.well_formed; within = k; width_within = h.width_within }

-- the shapes of a padstack that fit fit at a via's place too
pub shapes_at_place : (at : Point) (s : Stack) → All IsShapeFit s.shapes → IsStackNear at s
    → All IsShapeFit (map (at_place at) s.shapes)
shapes_at_place at s h k = All-map IsShapeFit (at_place at) s.shapes (λ i d l. shape_at_place at _ (h i d l) (k i d l))
