-- Where no refusal stands, shapes and rules fit, and names differ and can be printed.
use Rattle.std.proofs.Common.{◌≡◌, ◌≢◌, ◌<◌, ◌≤◌, ◌+◌, ◌-◌, ◌*◌, ◌%◌, ◌^◌, ◌++◌, ◌∙◌, sym, ap, subst, ◌⊎◌, inl, inr}
use Rattle.std.proofs.Common.{⊎_elim, ℕ, ℤ, zero, suc, Bool, true, false, cond, ◌&&◌, ◌||◌, List, [], ◌∷◌, Option, Some}
use Rattle.std.proofs.Common.{None, length, get_or, map, take, fold, max, refl, arith}
use Rattle.std.specs.Prelude.{◌==◌, nat_lt, nat_le, All, AllPairs, IfSome, slice_get, unwrap_or}
use Rattle.std.specs.List.{flat_map, position_from}
use Rattle.std.specs.Option.{option_map_or}
use Rattle.std.specs.Str.{bytes_eq}
use Rattle.std.proofs.Math.Nat.{pow-le-pow_right, pow-suc}
use Rattle.std.proofs.lemmas.Bool.{and_parts, eqb-true, eqb-false, leb-true, ltb-false, or_cases, or_parts}
use Rattle.std.proofs.lemmas.List.{get_or-map, length-drop, length-map, length-take}
use Rattle.std.proofs.lemmas.List.Elements.{All-append, All-cons, All-head, All-map, All-nil, All-tail, All-weaker}
use Rattle.std.proofs.lemmas.Option.{same_Some}
use Rattle.geo_kernel.specs.declared.point.Point.{Point}
use Rattle.geo_kernel.specs.declared.spine.Spine.TheVariants.{Area}
use Rattle.geo_kernel.specs.Spine.{IsWellFormed}
use Rattle.pcb_model.specs.declared.design.Typed.{Typed}
use Rattle.pcb_model.specs.Sound.{IsPrintable}
use Rattle.dsn_tree.specs.declared.tree.Tree.{Tree}
use Rattle.dsn_units.specs.declared.number.Decimal.{Decimal}
use Rattle.dsn_units.specs.Length.{extent_of, is_below_zero, raised_up}
use Rattle.dsn_units.specs.Reading.{decimal_of}
use Rattle.dsn_shapes.specs.declared.refusal.Refusal.{Refusal}
use Rattle.dsn_shapes.specs.declared.form.Form.{Form}
use Rattle.dsn_shapes.specs.declared.form.Form.TheVariants.{Circle, Rect, Polygon, Path}
use Rattle.dsn_shapes.specs.declared.form.Outline.{Outline}
use Rattle.dsn_shapes.specs.declared.shape.Rim.{Rim}
use Rattle.dsn_shapes.specs.declared.parts.Layer.{Layer}
use Rattle.dsn_shapes.specs.declared.parts.LayerShape.{LayerShape}
use Rattle.dsn_shapes.specs.declared.rules.Pairing.{Pairing}
use Rattle.dsn_shapes.specs.declared.rules.Pairing.TheVariants.{Plain, Unknown, Known}
use Rattle.dsn_shapes.specs.Refusals.{is_before, least, noted, refused}
use Rattle.dsn_shapes.specs.Lists.{at_of, has_quote, name_of, nth_word, place_of, quoted_name, text_of, words_of}
use Rattle.dsn_shapes.specs.Names.{first_place, given_again, is_at, names_at, same_names}
use Rattle.dsn_shapes.specs.Numbers.{extent_at, extent_refusal, limit_refusal, number_by, refusal_by, word_coord}
use Rattle.dsn_shapes.specs.Numbers.{word_coord_refusal, word_extent, word_extent_refusal}
use Rattle.dsn_shapes.specs.Layers.{layer_refusal, layers_of, mask, named_by, stands_for}
use Rattle.dsn_shapes.specs.Forms.{coord_words, first_coord, form_of, has_count, outline_of, outline_refusals}
use Rattle.dsn_shapes.specs.Forms.{points_of, ring_of, ring_refusals, vertex_limit, vertices_of, width_of}
use Rattle.dsn_shapes.specs.Forms.{width_refusal}
use Rattle.dsn_shapes.specs.Shapes.{area_of, ban_of, ban_refusals, ban_shape, bound_forms, bound_of, bound_refusals}
use Rattle.dsn_shapes.specs.Shapes.{empty_rim, empty_shape, form_in, held_loop, held_shape, loop_of, loop_refusals}
use Rattle.dsn_shapes.specs.Shapes.{no_form, refusals_in, rim, rim_of, rim_refusals, shape_of, shape_refusals, shaped}
use Rattle.dsn_shapes.specs.Shapes.{spine_of, spine_refusals, windows_of}
use Rattle.dsn_shapes.specs.Rules.{clearances_in, is_plain, is_zero, pair_rule_refusals, pair_rule_set, pairing_of}
use Rattle.dsn_shapes.specs.Rules.{plain_at, rule_refusals, rule_set, rules_left_out, set_of, set_refusals, typed_at}
use Rattle.dsn_shapes.specs.Rules.{typed_by, width_left_out, width_refusals, widths_in, zero_width}
use Rattle.dsn_shapes.specs.Fits.{IsArea, IsBoundShape, IsPlainShape, IsRuleSetFit, IsShapeFit}
use Rattle.dsn_shapes.proofs.Within.{ban_near, bound_near, held_near, shape_near}

-- ---- lists that are empty
either_left : (b : Bool) (x y : Refusal) (rs : List Refusal) → ((z : Refusal) → noted (Some z) rs ≡ None → ⊥)
    → noted (cond b (Some x) (Some y)) rs ≡ None → ⊥
either_left true x y rs h e = h x e
either_left false x y rs h e = h y e

some_left : (a : Refusal) (rs : List Refusal) → noted (Some a) rs ≡ None → ⊥
some_left a [] e = cc
some_left a (r ∷ rs) e = either_left (is_before r a) r a rs (λ z. some_left z rs) e

-- where no refusal counts, there is none
pub none_left : (rs : List Refusal) → least rs ≡ None → rs ≡ []
none_left [] e = refl
none_left (r ∷ rs) e = absurd (some_left r rs e)

pub front_nil : {X : Type 0} (xs ys : List X) → xs ++ ys ≡ [] → xs ≡ []
front_nil [] ys e = refl
front_nil (x ∷ xs) ys e = cc

pub back_nil : {X : Type 0} (xs ys : List X) → xs ++ ys ≡ [] → ys ≡ []
back_nil [] ys e = e
back_nil (x ∷ xs) ys e = cc

pub each_nil : {X Y : Type 0} (f : X → List Y) (xs : List X) → flat_map f xs ≡ [] → All (λ x. f x ≡ []) xs
each_nil f [] e = All-nil (λ x. f x ≡ [])
each_nil f (x ∷ xs) e =
    All-cons (λ y. f y ≡ []) x xs (front_nil (f x) (flat_map f xs) e) (each_nil f xs (back_nil (f x) (flat_map f xs) e))

-- parts without refusals, each of which fits
pub each_fit : {X Y Z : Type 0} (P : Z → Type 0) (f : X → List Y) (g : X → Z) → ((x : X) → f x ≡ [] → P (g x))
    → (xs : List X) → flat_map f xs ≡ [] → All P (map g xs)
each_fit P f g fits xs e = All-map P g xs (All-weaker (λ x. f x ≡ []) (λ x. P (g x)) fits xs (each_nil f xs e))

pub all_joined : {X Y : Type 0} (P : Y → Type 0) (f : X → List Y) → ((x : X) → All P (f x)) → (xs : List X)
    → All P (flat_map f xs)
all_joined P f h [] = All-nil P
all_joined P f h (x ∷ xs) = All-append P (f x) (flat_map f xs) (h x) (all_joined P f h xs)

-- a refusal under a test that isn't there
pub test_fails : {X : Type 0} (b : Bool) (x : X) (xs : List X) → cond b (x ∷ xs) [] ≡ [] → b ≡ false
test_fails true x xs e = cc
test_fails false x xs e = refl

pub test_holds : {X : Type 0} (b : Bool) (x : X) (xs ys : List X) → cond b ys (x ∷ xs) ≡ [] → b ≡ true
test_holds true x xs ys e = refl
test_holds false x xs ys e = cc

-- ---- pairs
pub pairs_of_map : {X Y : Type 0} (R : Y → Y → Type 0) (f : X → Y) (xs : List X) → AllPairs R (map f xs)
    → AllPairs (λ a b. R (f a) (f b)) xs
pairs_of_map R f xs h i j d below within =
    let l : length (map f xs) ≡ length xs = length-map xs f in
    let a : get_or (map f xs) i (f d) ≡ f (get_or xs i d) = get_or-map f xs i d (f d) (omega arith) in
    let b : get_or (map f xs) j (f d) ≡ f (get_or xs j d) = get_or-map f xs j d (f d) within in
    subst (λ y. R y (f (get_or xs j d))) a
    (subst (λ y. R (get_or (map f xs) i (f d)) y) b (h i j (f d) below (omega arith)))

pub pairs_to_map : {X Y : Type 0} (R : Y → Y → Type 0) (f : X → Y) (xs : List X) → AllPairs (λ a b. R (f a) (f b)) xs
    → AllPairs R (map f xs)
pairs_to_map R f [] h i j d below within = absurd (omega arith)
pairs_to_map R f (x ∷ xs) h i j d below within =
    let l : length (map f (x ∷ xs)) ≡ length (x ∷ xs) = length-map (x ∷ xs) f in
    let a : f (get_or (x ∷ xs) i x) ≡ get_or (map f (x ∷ xs)) i d = sym (get_or-map f (x ∷ xs) i x d (omega arith)) in
    let b : f (get_or (x ∷ xs) j x) ≡ get_or (map f (x ∷ xs)) j d = sym (get_or-map f (x ∷ xs) j x d (omega arith)) in
    subst (λ y. R y (get_or (map f (x ∷ xs)) j d)) a
    (subst (λ y. R (f (get_or (x ∷ xs) i x)) y) b (h i j x below (omega arith)))

-- ---- names
at_some : (k : ℕ) (o : Option ℕ) → is_at k o ≡ true → o ≡ Some k
at_some k None e = cc
at_some k (Some n) e = let f : k ≡ n = eqb-true k n e in cc

-- each name stands first where it stands
firsts : (i : ℕ) (names : List (List ℕ)) (k : ℕ) (ts : List Tree) → given_again i names k ts ≡ [] → (j : ℕ) (d : List ℕ)
    → j < length (names_at i ts) → first_place (get_or (names_at i ts) j d) names ≡ Some (k + j)
firsts i names k [] e j d l = absurd (omega arith)
firsts i names k (t ∷ ts) e zero d l =
    let here = at_some k (first_place (name_of t i) names)
    (test_holds (is_at k (first_place (name_of t i) names)) (refused 13 (place_of t i)) [] []
    (front_nil _ (given_again i names (k + 1) ts) e)) in
    let s : k ≡ k + 0 = omega arith in
    here ∙ ap (λ (n : ℕ). Some n) s
firsts i names k (t ∷ ts) e (suc j) d l =
    let s : k + 1 + j ≡ k + suc j = omega arith in
    firsts i names (k + 1) ts
    (back_nil (cond (is_at k (first_place (name_of t i) names)) [] (refused 13 (place_of t i) ∷ []))
    (given_again i names (k + 1) ts) e) j d (omega arith)
    ∙ ap (λ (n : ℕ). Some n) s

pub names_differ : (i : ℕ) (ts : List Tree) → same_names i ts ≡ [] → AllPairs (λ a b. a ≢ b) (names_at i ts)
names_differ i ts e j k d below within same =
    let names = names_at i ts in
    let a : first_place (get_or names j d) names ≡ Some (0 + j) = firsts i names 0 ts e j d (omega arith) in
    let b : first_place (get_or names k d) names ≡ Some (0 + k) = firsts i names 0 ts e k d within in
    let f : 0 + j ≡ 0 + k = same_Some (0 + j) (0 + k) (sym a ∙ ap (λ n. first_place n names) same ∙ b) in
    omega arith

-- what is made of lists, with the names that their word i gives
pub named_differ : {V : Type 0} (make : Tree → V) (name : V → List ℕ) (i : ℕ)
    → ((t : Tree) → name (make t) ≡ name_of t i) → (ts : List Tree) → same_names i ts ≡ []
    → AllPairs (λ a b. name a ≢ name b) (map make ts)
named_differ make name i named ts e =
    let given : AllPairs (λ t u. name_of t i ≢ name_of u i) ts =
    pairs_of_map (λ a b. a ≢ b) (λ t. name_of t i) ts (names_differ i ts e) in
    pairs_to_map (λ a b. name a ≢ name b) make ts
    (λ j k d below within same.
    given j k d below within (sym (named (get_or ts j d)) ∙ same ∙ named (get_or ts k d)))

none_quoted : (text : List ℕ) → has_quote text ≡ false → IsPrintable text
none_quoted [] e = All-nil (λ (b : ℕ). b ≢ 34)
none_quoted (b ∷ text) e =
    let parts = or_parts (b == 34) (has_quote text) e in
    All-cons (λ (c : ℕ). c ≢ 34) b text (eqb-false b 34 parts.0) (none_quoted text parts.1)

pub name_printable : (t : Tree) (i : ℕ) → quoted_name t i ≡ [] → IsPrintable (name_of t i)
name_printable t i e = none_quoted (name_of t i) (test_fails (has_quote (name_of t i)) (refused 21 (place_of t i)) [] e)

-- ---- places of names
here_or_behind : (b : Bool) (i n : ℕ) (o : Option ℕ) (len : ℕ) → ((m : ℕ) → o ≡ Some m → m < i + 1 + len)
    → cond b (Some i) o ≡ Some n → n < i + suc len
here_or_behind true i n o len h e = let f : i ≡ n = same_Some i n e in omega arith
here_or_behind false i n o len h e = let f : n < i + 1 + len = h n e in omega arith

pub place_below : {K : Type 0} (t : K → Bool) (xs : List K) (i n : ℕ) → position_from t i xs ≡ Some n
    → n < i + length xs
place_below t [] i n e = cc
place_below t (x ∷ xs) i n e =
    here_or_behind (t x) i n (position_from t (i + 1) xs) (length xs) (λ m f. place_below t xs (i + 1) m f) e

pub first_below : (name : List ℕ) (names : List (List ℕ)) (n : ℕ) → first_place name names ≡ Some n → n < length names
unfolding first_place
first_below name names n e = let h : n < 0 + length names = place_below (λ m. bytes_eq m name) names 0 n e in
    omega arith

-- ---- widths and clearances
abbrev pub IsSmall : ℕ → Type 0
IsSmall n = n ≤ 2 ^ 28

small_if : (a b : Bool) (n : ℕ) → (b ≡ false → IsSmall n) → IfSome (cond (a || b) None (Some n)) IsSmall
small_if true b n h = tt
small_if false true n h = tt
small_if false false n h = h refl

number_small : (nm : ℕ) (o : Option Decimal) → IfSome (number_by (λ d. extent_of d nm) o) IsSmall
number_small nm None = tt
number_small nm (Some d) =
    small_if (is_below_zero d) (nat_lt (2 ^ 28) (raised_up d nm)) (raised_up d nm) (λ e. ltb-false _ _ e)

wanted_small : (nm : ℕ) (o : Option Tree) → IfSome (option_map_or (word_extent nm) o None) IsSmall
wanted_small nm None = tt
wanted_small nm (Some w) = number_small nm (decimal_of (text_of w))

or_nothing : (o : Option ℕ) → IfSome o IsSmall → IsSmall (unwrap_or o 0)
or_nothing None h = omega arith
or_nothing (Some n) h = h

-- a width or clearance, whether it is refused or not
pub extent_small : (nm : ℕ) (t : Tree) (i : ℕ) → IsSmall (extent_at nm t i)
extent_small nm t i = or_nothing (option_map_or (word_extent nm) (nth_word t i) None) (wanted_small nm (nth_word t i))

-- ---- layers
one_more : (b : Bool) (m n : ℕ) → m < 2 ^ n → cond b 1 0 + 2 * m < 2 ^ suc n
one_more true m n h = let p : 2 ^ suc n ≡ 2 ^ n * 2 = pow-suc 2 n in omega arith
one_more false m n h = let p : 2 ^ suc n ≡ 2 ^ n * 2 = pow-suc 2 n in omega arith

mask_few : (test : Layer → Bool) (layers : List Layer) → mask test layers < 2 ^ length layers
mask_few test [] = omega arith
mask_few test (l ∷ layers) = one_more (test l) (mask test layers) (length layers) (mask_few test layers)

-- the layers of a word are below their number
pub layers_few : (layers : List Layer) (word : List ℕ) → layers_of layers word < 2 ^ length layers
unfolding layers_of
layers_few layers word =
    let few = mask_few (stands_for (named_by layers word) word) (take 32 layers) in
    let l : length (take 32 layers) ≤ length layers = omega (arith, length-take 32 layers) in
    let p : 2 ^ length (take 32 layers) ≤ 2 ^ length layers = pow-le-pow_right {n = 2} (omega arith) l in
    omega arith

-- ---- forms
width_small : (nm : ℕ) (form : Form) (t : Tree) → IsSmall (width_of nm form t)
width_small nm Circle t = extent_small nm t 2
width_small nm Rect t = omega arith
width_small nm Polygon t = extent_small nm t 2
width_small nm Path t = extent_small nm t 2

outline_if : (b : Bool) (o p : Outline) → IsSmall o.width → IsSmall p.width → IsSmall (cond b o p).width
outline_if true o p h k = h
outline_if false o p h k = k

outline_small : (nm : ℕ) (layers : List Layer) (form : Form) (t : Tree) → IsSmall (outline_of nm layers form t).width
unfolding outline_of
outline_small nm layers form t =
    let read : Outline =
    record {
      layers = layers_of layers (name_of t 1);
      width = width_of nm form t;
      coords = vertices_of form (map (word_coord nm) (coord_words form t));
    } in
    let none : Outline = record { layers = 0; width = 0; coords = [] } in
    outline_if (has_count form (length (words_of t))) read none (width_small nm form t) (omega arith)

-- the words are as many as the form wants
counted : (nm : ℕ) (layers : List Layer) (form : Form) (t : Tree) → outline_refusals nm layers form t ≡ []
    → has_count form (length (words_of t)) ≡ true
unfolding outline_refusals
counted nm layers form t e = test_holds (has_count form (length (words_of t))) (refused 22 (at_of t)) []
    (layer_refusal layers t ++ (width_refusal nm form t ++ flat_map (word_coord_refusal nm) (coord_words form t))) e

coords_if : (b : Bool) (o p : Outline) → b ≡ true → (cond b o p).coords ≡ o.coords
coords_if true o p e = refl
coords_if false o p e = cc

coords_read : (nm : ℕ) (layers : List Layer) (form : Form) (t : Tree) → has_count form (length (words_of t)) ≡ true
    → (outline_of nm layers form t).coords ≡ vertices_of form (map (word_coord nm) (coord_words form t))
unfolding outline_of
coords_read nm layers form t e =
    let read : Outline =
    record {
      layers = layers_of layers (name_of t 1);
      width = width_of nm form t;
      coords = vertices_of form (map (word_coord nm) (coord_words form t));
    } in
    let none : Outline = record { layers = 0; width = 0; coords = [] } in
    coords_if (has_count form (length (words_of t))) read none e

coords_count : (nm : ℕ) (form : Form) (t : Tree) → length (map (word_coord nm) (coord_words form t))
    ≡ length (words_of t) - first_coord form
coords_count nm form t = length-map (coord_words form t) (word_coord nm) ∙ length-drop (first_coord form) (words_of t)

some_point : (cs : List (Option ℤ)) → 2 ≤ length cs → 0 < length (points_of cs)
some_point [] h = absurd (omega arith)
some_point (x ∷ []) h = absurd (omega arith)
some_point (x ∷ y ∷ cs) h = omega arith

circle_point : (cs : List (Option ℤ)) (n : ℕ) → length cs ≡ n - 3 → (n ≡ 3) ⊎ (n ≡ 5)
    → 0 < length (points_of (vertices_of Circle cs))
circle_point [] n l h = omega arith
circle_point (x ∷ []) n l (inl e) = absurd (omega arith)
circle_point (x ∷ []) n l (inr e) = absurd (omega arith)
circle_point (x ∷ y ∷ cs) n l h = omega arith

circle_count : (n : ℕ) → (n == 3 || n == 5) ≡ true → (n ≡ 3) ⊎ (n ≡ 5)
circle_count n e = ⊎_elim (λ h. inl (eqb-true n 3 h)) (λ h. inr (eqb-true n 5 h)) (or_cases (n == 3) (n == 5) e)

path_count : (n : ℕ) → (nat_le 5 n && n % 2 == 1) ≡ true → 5 ≤ n
path_count n e = leb-true 5 n (and_parts (nat_le 5 n) (n % 2 == 1) e).0

-- ---- spines
ring_closed : (form : Form) (t : Tree) (points : List Point) → ring_refusals form t (length points) ≡ []
    → 3 ≤ length points
ring_closed form t points e =
    ltb-false (length points) 3
    (test_fails (nat_lt (length points) 3) (refused 22 (at_of t)) []
    (front_nil _ (vertex_limit form t (length points)) e))

loop_formed : (points : List Point) → 3 ≤ length points → IsWellFormed (Area (points ∷ []))
loop_formed points h = (
  omega arith,
  All-cons (λ (loop : List Point). 3 ≤ length loop) points [] h (All-nil (λ (loop : List Point). 3 ≤ length loop)),
)

spine_formed : (nm : ℕ) (layers : List Layer) (form : Form) (t : Tree) → outline_refusals nm layers form t ≡ []
    → spine_refusals form t (outline_of nm layers form t) ≡ []
    → IsWellFormed (spine_of form (outline_of nm layers form t))
spine_formed nm layers Circle t e f =
    let n = counted nm layers Circle t e in
    subst (λ cs. 0 < length (points_of cs)) (sym (coords_read nm layers Circle t n))
    (circle_point (map (word_coord nm) (coord_words Circle t)) (length (words_of t)) (coords_count nm Circle t)
    (circle_count (length (words_of t)) n))
spine_formed nm layers Rect t e f = loop_formed _ (ring_closed Rect t _ f)
spine_formed nm layers Polygon t e f = loop_formed _ (ring_closed Polygon t _ f)
spine_formed nm layers Path t e f =
    let n = counted nm layers Path t e in
    let five = path_count (length (words_of t)) n in
    let l = coords_count nm Path t in
    subst (λ cs. 0 < length (points_of cs)) (sym (coords_read nm layers Path t n))
    (some_point (map (word_coord nm) (coord_words Path t)) (omega arith))

-- ---- shapes
abbrev IsShaped : LayerShape → Type 0
IsShaped s = IsWellFormed s.spine × IsSmall s.width

pub no_form_left : (b : Bool) (x y : Refusal) → cond b (x ∷ []) (y ∷ []) ≡ [] → ⊥
no_form_left true x y e = cc
no_form_left false x y e = cc

shape_at : (nm : ℕ) (layers : List Layer) (t : Tree) (o : Option Form)
    → option_map_or (λ form. outline_refusals nm layers form t ++ spine_refusals form t (outline_of nm layers form t)) o
    (no_form t) ≡ [] → IsShaped (option_map_or (λ form. shaped form (outline_of nm layers form t)) o empty_shape)
shape_at nm layers t None e = absurd (no_form_left _ _ _ e)
shape_at nm layers t (Some form) e = (
  spine_formed nm layers form t (front_nil (outline_refusals nm layers form t) _ e)
      (back_nil (outline_refusals nm layers form t) _ e),
  outline_small nm layers form t,
)

shape_shaped : (nm : ℕ) (layers : List Layer) (t : Tree) → shape_refusals nm layers t ≡ []
    → IsShaped (shape_of nm layers t)
unfolding shape_of shape_refusals
shape_shaped nm layers t e = shape_at nm layers t (form_of t) e

pub shape_fit : (nm : ℕ) (layers : List Layer) (t : Tree) → shape_refusals nm layers t ≡ []
    → IsShapeFit (shape_of nm layers t)
shape_fit nm layers t e = let s = shape_shaped nm layers t e in
    record { well_formed = s.0; within = shape_near nm layers t; width_within = s.1 }

form_plain : (form : Form) (o : Outline) → IsPlainShape (shaped form o)
form_plain Circle o = tt
form_plain Rect o = tt
form_plain Polygon o = tt
form_plain Path o = tt

plain_at_form : (nm : ℕ) (layers : List Layer) (t : Tree) (o : Option Form)
    → IsPlainShape (option_map_or (λ form. shaped form (outline_of nm layers form t)) o empty_shape)
plain_at_form nm layers t None = tt
plain_at_form nm layers t (Some form) = form_plain form (outline_of nm layers form t)

pub shape_plain : (nm : ℕ) (layers : List Layer) (t : Tree) → IsPlainShape (shape_of nm layers t)
unfolding shape_of
shape_plain nm layers t = plain_at_form nm layers t (form_of t)

held_at : (nm : ℕ) (layers : List Layer) (t : Tree) (o : Option Tree)
    → option_map_or (shape_refusals nm layers) o (refused 22 (at_of t) ∷ []) ≡ []
    → IsShaped (option_map_or (shape_of nm layers) o empty_shape)
held_at nm layers t None e = cc
held_at nm layers t (Some form) e = shape_shaped nm layers form e

held_shaped : (nm : ℕ) (layers : List Layer) (t : Tree) → refusals_in (shape_refusals nm layers) t ≡ []
    → IsShaped (held_shape nm layers t)
unfolding held_shape refusals_in
held_shaped nm layers t e = held_at nm layers t (form_in t) e

-- the shape in a list
pub held_fit : (nm : ℕ) (layers : List Layer) (t : Tree) → refusals_in (shape_refusals nm layers) t ≡ []
    → IsShapeFit (held_shape nm layers t)
held_fit nm layers t e = let s = held_shaped nm layers t e in
    record { well_formed = s.0; within = held_near nm layers t; width_within = s.1 }

held_plain_at : (nm : ℕ) (layers : List Layer) (o : Option Tree)
    → IsPlainShape (option_map_or (shape_of nm layers) o empty_shape)
held_plain_at nm layers None = tt
held_plain_at nm layers (Some form) = shape_plain nm layers form

pub held_plain : (nm : ℕ) (layers : List Layer) (t : Tree) → IsPlainShape (held_shape nm layers t)
unfolding held_shape
held_plain nm layers t = held_plain_at nm layers (form_in t)

-- ---- loops of areas
abbrev IsRimShaped : Rim → Type 0
IsRimShaped r = (3 ≤ length r.points) × IsSmall r.width

ring_shaped : (nm : ℕ) (layers : List Layer) (form : Form) (t : Tree) → outline_refusals nm layers form t
    ++ ring_refusals form t (length (points_of (ring_of (outline_of nm layers form t).coords))) ≡ []
    → IsRimShaped (rim (outline_of nm layers form t))
ring_shaped nm layers form t e =
    (ring_closed form t _ (back_nil (outline_refusals nm layers form t) _ e), outline_small nm layers form t)

rim_shaped : (nm : ℕ) (layers : List Layer) (form : Form) (t : Tree) → rim_refusals nm layers form t ≡ []
    → IsRimShaped (rim_of nm layers form t)
rim_shaped nm layers Circle t e = cc
rim_shaped nm layers Rect t e = ring_shaped nm layers Rect t e
rim_shaped nm layers Polygon t e = ring_shaped nm layers Polygon t e
rim_shaped nm layers Path t e = ring_shaped nm layers Path t e

loop_at : (nm : ℕ) (layers : List Layer) (t : Tree) (o : Option Form)
    → option_map_or (λ form. rim_refusals nm layers form t) o (no_form t) ≡ []
    → IsRimShaped (option_map_or (λ form. rim_of nm layers form t) o empty_rim)
loop_at nm layers t None e = absurd (no_form_left _ _ _ e)
loop_at nm layers t (Some form) e = rim_shaped nm layers form t e

loop_shaped : (nm : ℕ) (layers : List Layer) (t : Tree) → loop_refusals nm layers t ≡ []
    → IsRimShaped (loop_of nm layers t)
unfolding loop_of loop_refusals
loop_shaped nm layers t e = loop_at nm layers t (form_of t) e

held_loop_at : (nm : ℕ) (layers : List Layer) (t : Tree) (o : Option Tree)
    → option_map_or (loop_refusals nm layers) o (refused 22 (at_of t) ∷ []) ≡ []
    → IsRimShaped (option_map_or (loop_of nm layers) o empty_rim)
held_loop_at nm layers t None e = cc
held_loop_at nm layers t (Some form) e = loop_shaped nm layers form e

held_loop_shaped : (nm : ℕ) (layers : List Layer) (t : Tree) → refusals_in (loop_refusals nm layers) t ≡ []
    → IsRimShaped (held_loop nm layers t)
unfolding held_loop refusals_in
held_loop_shaped nm layers t e = held_loop_at nm layers t (form_in t) e

widest : (w : ℕ) (rs : List Rim) → IsSmall w → All IsRimShaped rs → IsSmall (fold (λ v (r : Rim). max v r.width) w rs)
widest w [] h k = h
widest w (r ∷ rs) h k =
    let first : IsSmall r.width = (All-head IsRimShaped r rs k).1 in
    widest (max w r.width) rs (omega arith) (All-tail IsRimShaped r rs k)

area_shaped : (rs : List Rim) → 0 < length rs → All IsRimShaped rs → IsShaped (area_of rs)
unfolding area_of
area_shaped rs some h =
    let l : length (map (λ (r : Rim). r.points) rs) ≡ length rs = length-map rs (λ (r : Rim). r.points) in
    let closed = All-map (λ (loop : List Point). 3 ≤ length loop) (λ (r : Rim). r.points) rs
    (All-weaker IsRimShaped (λ (r : Rim). 3 ≤ length r.points) (λ r k. k.0) rs h) in
    ((omega arith, closed), widest 0 rs (omega arith) h)

area_is_area : (rs : List Rim) → IsArea (area_of rs).spine
unfolding area_of
area_is_area rs = tt

-- ---- keepouts
ban_if : (b : Bool) (rs ss : List Refusal) (s u : LayerShape) → (rs ≡ [] → IsShaped s) → (ss ≡ [] → IsShaped u)
    → cond b rs ss ≡ [] → IsShaped (cond b s u)
ban_if true rs ss s u h k e = h e
ban_if false rs ss s u h k e = k e

ban_shaped : (nm : ℕ) (layers : List Layer) (t : Tree) → ban_refusals nm layers t ≡ []
    → IsShaped (ban_shape nm layers t)
unfolding ban_refusals ban_shape
ban_shaped nm layers t e =
    let all = t ∷ windows_of t in
    ban_if (length (windows_of t) == 0) (refusals_in (shape_refusals nm layers) t)
    (flat_map (refusals_in (loop_refusals nm layers)) all) (held_shape nm layers t)
    (area_of (map (held_loop nm layers) all))
    (held_shaped nm layers t)
    (λ f. area_shaped (map (held_loop nm layers) all) (omega (arith, length-map all (held_loop nm layers)))
    (each_fit IsRimShaped (refusals_in (loop_refusals nm layers)) (held_loop nm layers)
    (held_loop_shaped nm layers) all f))
    e

pub ban_fit : (nm : ℕ) (layers : List Layer) (t : Tree) → ban_refusals nm layers t ≡ []
    → IsShapeFit (ban_of nm layers t).shape
unfolding ban_of
ban_fit nm layers t e = let s = ban_shaped nm layers t e in
    record { well_formed = s.0; within = ban_near nm layers t; width_within = s.1 }

-- ---- boundaries
bound_shaped : (nm : ℕ) (layers : List Layer) (t : Tree) → bound_refusals nm layers t ≡ []
    → IsShaped (bound_of nm layers t)
unfolding bound_of bound_refusals
bound_shaped nm layers t e =
    let forms = bound_forms t in
    let one : length forms ≡ 0
    → ⊥ = eqb-false (length forms) 0
    (test_fails (length forms == 0) (refused 22 (at_of t)) []
    (front_nil _ (flat_map (loop_refusals nm layers) forms) e)) in
    let l : length (map (loop_of nm layers) forms) ≡ length forms = length-map forms (loop_of nm layers) in
    area_shaped (map (loop_of nm layers) forms) (omega arith)
    (each_fit IsRimShaped (loop_refusals nm layers) (loop_of nm layers) (loop_shaped nm layers) forms
    (back_nil (cond (length forms == 0) (refused 22 (at_of t) ∷ []) []) (flat_map (loop_refusals nm layers) forms)
    e))

bound_is_area : (nm : ℕ) (layers : List Layer) (t : Tree) → IsArea (bound_of nm layers t).spine
unfolding bound_of
bound_is_area nm layers t = area_is_area (map (loop_of nm layers) (bound_forms t))

pub bound_fit : (nm : ℕ) (layers : List Layer) (t : Tree) → bound_refusals nm layers t ≡ []
    → IsBoundShape (bound_of nm layers t)
bound_fit nm layers t e = let s = bound_shaped nm layers t e in
    record {
      fits = record { well_formed = s.0; within = bound_near nm layers t; width_within = s.1 };
      area = bound_is_area nm layers t;
    }

-- ---- rules
abbrev IsWidth : ℕ → Type 0
IsWidth w = (0 < w) × IsSmall w

limit_some : (at : ℕ) (o : Option ℕ) → limit_refusal at o ≡ [] → is_zero o ≡ false → 0 < unwrap_or o 0
limit_some at None e z = cc
limit_some at (Some n) e z = let h : n ≡ 0 → ⊥ = eqb-false n 0 z in omega arith

read_some : (nm at : ℕ) (o : Option Decimal) → refusal_by (λ d. extent_of d nm) at o ≡ []
    → is_zero (number_by (λ d. extent_of d nm) o) ≡ false → 0 < unwrap_or (number_by (λ d. extent_of d nm) o) 0
read_some nm at None e z = cc
read_some nm at (Some d) e z = limit_some at (extent_of d nm) e z

wanted_some : (nm at : ℕ) (o : Option Tree) → option_map_or (word_extent_refusal nm) o (refused 9 at ∷ []) ≡ []
    → is_zero (option_map_or (word_extent nm) o None) ≡ false → 0 < unwrap_or (option_map_or (word_extent nm) o None) 0
wanted_some nm at None e z = cc
wanted_some nm at (Some w) e z = read_some nm (at_of w) (decimal_of (text_of w)) e z

width_fit : (nm : ℕ) (t : Tree) → width_refusals nm t ≡ [] → IsWidth (extent_at nm t 1)
width_fit nm t e =
    let zero_is = is_zero (option_map_or (word_extent nm) (nth_word t 1) None) in (
      wanted_some nm (at_of t) (nth_word t 1) (front_nil (extent_refusal nm t 1) (zero_width nm t) e)
          (test_fails zero_is (refused 9 (place_of t 1)) [] (back_nil (extent_refusal nm t 1) (zero_width nm t) e)),
      extent_small nm t 1,
    )

found_fit : (P : ℕ → Type 0) (vs : List ℕ) (i : ℕ) → All P vs → IfSome (slice_get vs i) P
found_fit P [] i h = tt
found_fit P (v ∷ vs) zero h = All-head P v vs h
found_fit P (v ∷ vs) (suc i) h = found_fit P vs i (All-tail P v vs h)

plain_if : (b : Bool) (n : ℕ) → IsSmall n → All IsSmall (cond b (n ∷ []) [])
plain_if true n h = All-cons IsSmall n [] h (All-nil IsSmall)
plain_if false n h = All-nil IsSmall

abbrev IsTypedSmall : Typed → Type 0
IsTypedSmall t = IsSmall t.value

typed_small : (value : ℕ) (p : Pairing) → IsSmall value → All IsTypedSmall (typed_by value p)
typed_small value Plain h = All-nil IsTypedSmall
typed_small value Unknown h = All-nil IsTypedSmall
typed_small value (Known a b) h =
    All-cons IsTypedSmall (record { a = a; b = b; value = value }) [] h (All-nil IsTypedSmall)

set_fit : (nm : ℕ) (widths clearances : List Tree) → set_refusals nm widths clearances ≡ []
    → IsRuleSetFit (set_of nm widths clearances)
unfolding set_of set_refusals
set_fit nm widths clearances e = record {
  width_within =
      found_fit IsWidth (map (λ t. extent_at nm t 1) widths) _
      (each_fit IsWidth (width_refusals nm) (λ t. extent_at nm t 1) (width_fit nm) widths
      (front_nil (flat_map (width_refusals nm) widths) _ e));
  clearances_within = record {
    plain_within =
        found_fit IsSmall (flat_map (plain_at nm) clearances) _
        (all_joined IsSmall (plain_at nm)
        (λ t. plain_if (is_plain (pairing_of t)) (extent_at nm t 1) (extent_small nm t 1)) clearances);
    typed_within =
        all_joined IsTypedSmall (typed_at nm) (λ t. typed_small (extent_at nm t 1) (pairing_of t) (extent_small nm t 1))
        clearances;
  };
}

pub rules_fit : (nm : ℕ) (rules : List Tree) → rule_refusals nm rules ≡ [] → IsRuleSetFit (rule_set nm rules)
rules_fit nm rules e =
    set_fit nm (widths_in rules) (clearances_in rules) (back_nil (rules_left_out rules (clearances_in rules)) _ e)

pub pair_rules_fit : (nm : ℕ) (rules : List Tree) → pair_rule_refusals nm rules ≡ []
    → IsRuleSetFit (pair_rule_set nm rules)
unfolding pair_rule_refusals
pair_rules_fit nm rules e =
    set_fit nm [] (clearances_in rules) (back_nil (rules_left_out rules (clearances_in rules)) _
    (back_nil (flat_map width_left_out (widths_in rules)) _ e))
