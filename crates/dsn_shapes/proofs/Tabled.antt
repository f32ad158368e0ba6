-- Each refusal of the shared parts is one of the table.
use Rattle.std.proofs.Common.{◌≡◌, ◌≢◌, ◌++◌, ◌+◌, ◌-◌, ◌*◌, ℕ, Bool, true, false, cond, ◌&&◌, ◌||◌, List, []}
use Rattle.std.proofs.Common.{◌∷◌, Option, Some, None, length, refl, subst, arith}
use Rattle.std.specs.Prelude.{◌==◌, nat_le, nat_lt, not, All, codes, slice_get}
use Rattle.std.specs.List.{flat_map}
use Rattle.std.specs.Option.{option_map_or}
use Rattle.std.proofs.lemmas.Bool.Decides.{nat_tests}
use Rattle.std.proofs.lemmas.List.Elements.{All-append, All-cons, All-nil}
use Rattle.dsn_tree.specs.declared.tree.Tree.{Tree}
use Rattle.dsn_tree.specs.Heads.{is_headed, items_of}
use Rattle.dsn_units.specs.declared.number.Decimal.{Decimal}
use Rattle.dsn_units.specs.Length.{angle_of, coord_of, extent_of}
use Rattle.dsn_units.specs.Reading.{decimal_of}
use Rattle.pcb_model.specs.declared.limits.TheConstants.{MOST_VERTICES}
use Rattle.dsn_shapes.specs.declared.refusal.Refusal.{Refusal}
use Rattle.dsn_shapes.specs.declared.refusal.What.{What}
use Rattle.dsn_shapes.specs.declared.refusal.What.TheVariants.{Nothing, Vertices}
use Rattle.dsn_shapes.specs.declared.form.Form.{Form}
use Rattle.dsn_shapes.specs.declared.form.Form.TheVariants.{Circle, Rect, Polygon, Path}
use Rattle.dsn_shapes.specs.declared.form.Outline.{Outline}
use Rattle.dsn_shapes.specs.declared.parts.Layer.{Layer}
use Rattle.dsn_shapes.specs.Refusals.{least, refused}
use Rattle.dsn_shapes.specs.Limits.{most_of, past_limit, too_many}
use Rattle.dsn_shapes.specs.Tabled.{IsTabled}
use Rattle.dsn_shapes.specs.declared.table.TheConstants.{NO_BOARD, PAST_LIMIT, BAD_PAIR}
use Rattle.dsn_shapes.specs.Lists.{at_of, has_quote, is_left_out, left_out, left_out_in, name_of, nth_word, place_of}
use Rattle.dsn_shapes.specs.Lists.{quoted_name, text_of, words_of}
use Rattle.dsn_shapes.specs.Names.{first_place, given_again, is_at, names_at, same_names}
use Rattle.dsn_shapes.specs.Numbers.{coord_refusal, extent_refusal, limit_refusal, refusal_by, word_coord_refusal}
use Rattle.dsn_shapes.specs.Numbers.{word_extent, word_extent_refusal}
use Rattle.dsn_shapes.specs.Angles.{word_angle_refusal}
use Rattle.dsn_shapes.specs.Layers.{names_some}
use Rattle.dsn_shapes.specs.Forms.{coord_words, first_coord, form_of, has_count, outline_of, outline_refusals}
use Rattle.dsn_shapes.specs.Forms.{points_of, ring_of, ring_refusals, vertex_limit, width_refusal}
use Rattle.dsn_shapes.specs.Shapes.{ban_refusals, bound_forms, bound_refusals, form_in, is_circle, loop_refusals}
use Rattle.dsn_shapes.specs.Shapes.{no_form, refusals_in, rim_refusals, shape_refusals, spine_refusals, windows_of}
use Rattle.dsn_shapes.specs.Rules.{clearances_in, is_zero, pair_rule_refusals, refusals_with, rule_refusals}
use Rattle.dsn_shapes.specs.Rules.{rules_left_out, set_refusals, width_left_out, width_refusals, widths_in}
use Rattle.dsn_shapes.proofs.First.{first_of}
use Rattle.dsn_shapes.proofs.Fits.{all_joined}

abbrev pub AreTabled : List Refusal → Type 0
AreTabled rs = All IsTabled rs

-- ---- one refusal
-- a number of no limit
abbrev pub is_plain : ℕ → Bool
is_plain n = nat_le NO_BOARD n && (nat_le n BAD_PAIR && not (n == PAST_LIMIT))

plain : (n at : ℕ) → is_plain n ≡ true → IsTabled (refused n at)
plain n at e = record {
  from = grind (arith, nat_tests);
  to = grind (arith, nat_tests);
  counts = ((λ h. absurd (grind (arith, nat_tests))), (λ h. absurd (h refl)));
  limit = refl;
}

over : (what : What) (at : ℕ) → what ≢ Nothing
    → IsTabled (past_limit what at)
over what at some = record { from = omega arith; to = omega arith; counts = ((λ _. some), (λ _. refl)); limit = refl }

pub none : AreTabled []
none = All-nil IsTabled

pub one : (n at : ℕ) → is_plain n ≡ true → AreTabled (refused n at ∷ [])
one n at e = All-cons IsTabled (refused n at) [] (plain n at e) none

pub passed : (what : What) (at : ℕ) → what ≢ Nothing
    → AreTabled (past_limit what at ∷ [])
passed what at some =
    All-cons IsTabled (past_limit what at) [] (over what at some) none

-- ---- lists of them
pub both : (rs ss : List Refusal) → AreTabled rs → AreTabled ss → AreTabled (rs ++ ss)
both rs ss h k = All-append IsTabled rs ss h k

pub each : {X : Type 0} (f : X → List Refusal) → ((x : X) → AreTabled (f x)) → (xs : List X) → AreTabled (flat_map f xs)
each f h xs = all_joined IsTabled f h xs

pub either : (b : Bool) (rs ss : List Refusal) → AreTabled rs → AreTabled ss → AreTabled (cond b rs ss)
either true rs ss h k = h
either false rs ss h k = k

-- one under a test, or one unless the test holds
pub where_holds : (b : Bool) (n at : ℕ) → is_plain n ≡ true → AreTabled (cond b (refused n at ∷ []) [])
where_holds b n at e = either b (refused n at ∷ []) [] (one n at e) none

pub where_fails : (b : Bool) (n at : ℕ) → is_plain n ≡ true → AreTabled (cond b [] (refused n at ∷ []))
where_fails b n at e = either b [] (refused n at ∷ []) none (one n at e)

pub of_some : {X : Type 0} (f : X → List Refusal) (o : Option X) (rs : List Refusal) → ((x : X) → AreTabled (f x))
    → AreTabled rs → AreTabled (option_map_or f o rs)
of_some f None rs h k = k
of_some f (Some x) rs h k = h x

-- the first list that is one too many
pub many_tabled : (what : What) → what ≢ Nothing → (before : ℕ) (ts : List Tree) → AreTabled (too_many what before ts)
many_tabled what some before ts =
    of_some (λ t. past_limit what (at_of t) ∷ []) (slice_get ts (most_of what - before)) []
    (λ t. passed what (at_of t) some) none

-- the refusal that counts is one of the table
pub least_tabled : (rs : List Refusal) (r : Refusal) → AreTabled rs → least rs ≡ Some r → IsTabled r
least_tabled rs r all e =
    let among = (first_of rs r e).among in
    subst IsTabled among.2 (all among.0 r among.1)

-- ---- lists and names
pub quoted_tabled : (t : Tree) (i : ℕ) → AreTabled (quoted_name t i)
quoted_tabled t i = where_holds (has_quote (name_of t i)) 21 (place_of t i) refl

left_out_tabled : (t : Tree) → AreTabled (left_out t)
left_out_tabled t = where_holds (is_left_out t) 21 (place_of t 0) refl

pub all_left_out_tabled : (ts : List Tree) → AreTabled (left_out_in ts)
unfolding left_out_in
all_left_out_tabled ts = each (λ t. flat_map left_out (items_of t)) (λ t. each left_out left_out_tabled (items_of t)) ts

again_tabled : (i : ℕ) (names : List (List ℕ)) (k : ℕ) (ts : List Tree) → AreTabled (given_again i names k ts)
again_tabled i names k [] = none
again_tabled i names k (t ∷ ts) =
    both _ (given_again i names (k + 1) ts)
    (where_fails (is_at k (first_place (name_of t i) names)) 13 (place_of t i) refl) (again_tabled i names (k + 1) ts)

pub names_tabled : (i : ℕ) (ts : List Tree) → AreTabled (same_names i ts)
names_tabled i ts = again_tabled i (names_at i ts) 0 ts

-- ---- numbers
limit_tabled : {V : Type 0} (at : ℕ) (o : Option V) → AreTabled (limit_refusal at o)
limit_tabled at None = one 10 at refl
limit_tabled at (Some v) = none

pub number_tabled : {V : Type 0} (rule : Decimal → Option V) (at : ℕ) (o : Option Decimal)
    → AreTabled (refusal_by rule at o)
number_tabled rule at None = one 9 at refl
number_tabled rule at (Some d) = limit_tabled at (rule d)

word_tabled : (nm : ℕ) (w : Tree) → AreTabled (word_coord_refusal nm w)
word_tabled nm w = number_tabled (λ d. coord_of d nm) (at_of w) (decimal_of (text_of w))

pub coord_tabled : (nm : ℕ) (t : Tree) (i : ℕ) → AreTabled (coord_refusal nm t i)
coord_tabled nm t i = of_some (word_coord_refusal nm) (nth_word t i) _ (word_tabled nm) (one 9 (at_of t) refl)

pub extent_tabled : (nm : ℕ) (t : Tree) (i : ℕ) → AreTabled (extent_refusal nm t i)
extent_tabled nm t i =
    of_some (word_extent_refusal nm) (nth_word t i) _
    (λ w. number_tabled (λ d. extent_of d nm) (at_of w) (decimal_of (text_of w))) (one 9 (at_of t) refl)

pub angle_tabled : (w : Tree) → AreTabled (word_angle_refusal w)
angle_tabled w = number_tabled angle_of (at_of w) (decimal_of (text_of w))

-- ---- forms
width_tabled : (nm : ℕ) (form : Form) (t : Tree) → AreTabled (width_refusal nm form t)
width_tabled nm Circle t = extent_tabled nm t 2
width_tabled nm Rect t = none
width_tabled nm Polygon t = extent_tabled nm t 2
width_tabled nm Path t = extent_tabled nm t 2

outline_tabled : (nm : ℕ) (layers : List Layer) (form : Form) (t : Tree) → AreTabled (outline_refusals nm layers form t)
unfolding outline_refusals
outline_tabled nm layers form t = either (has_count form (length (words_of t))) _ _
    (both _ _ (where_fails (names_some layers (name_of t 1)) 12 (place_of t 1) refl)
    (both _ _ (width_tabled nm form t) (each (word_coord_refusal nm) (word_tabled nm) (coord_words form t))))
    (one 22 (at_of t) refl)

limit_of_vertices : (form : Form) (t : Tree) (n : ℕ) → AreTabled (vertex_limit form t n)
limit_of_vertices form t n =
    either (nat_lt MOST_VERTICES n) _ []
    (passed Vertices (place_of t (first_coord form + 2 * MOST_VERTICES)) (λ e. cc)) none

ring_tabled : (form : Form) (t : Tree) (n : ℕ) → AreTabled (ring_refusals form t n)
ring_tabled form t n = both _ _ (where_holds (nat_lt n 3) 22 (at_of t) refl) (limit_of_vertices form t n)

no_form_tabled : (t : Tree) → AreTabled (no_form t)
no_form_tabled t =
    either (is_headed (codes "qarc") t || is_headed (codes "polyline_path") t) _ _ (one 21 (place_of t 0) refl)
    (one 22 (at_of t) refl)

-- ---- shapes
spine_tabled : (form : Form) (t : Tree) (o : Outline) → AreTabled (spine_refusals form t o)
spine_tabled Circle t o = none
spine_tabled Rect t o = ring_tabled Rect t (length (points_of (ring_of o.coords)))
spine_tabled Polygon t o = ring_tabled Polygon t (length (points_of (ring_of o.coords)))
spine_tabled Path t o = limit_of_vertices Path t (length (points_of o.coords))

pub shape_tabled : (nm : ℕ) (layers : List Layer) (t : Tree) → AreTabled (shape_refusals nm layers t)
unfolding shape_refusals
shape_tabled nm layers t =
    of_some (λ form. outline_refusals nm layers form t ++ spine_refusals form t (outline_of nm layers form t))
    (form_of t) (no_form t)
    (λ form. both _ _ (outline_tabled nm layers form t) (spine_tabled form t (outline_of nm layers form t)))
    (no_form_tabled t)

rim_tabled : (nm : ℕ) (layers : List Layer) (form : Form) (t : Tree) → AreTabled (rim_refusals nm layers form t)
rim_tabled nm layers form t = either (is_circle form) _ _ (one 22 (at_of t) refl)
    (both _ _ (outline_tabled nm layers form t)
    (ring_tabled form t (length (points_of (ring_of (outline_of nm layers form t).coords)))))

loop_tabled : (nm : ℕ) (layers : List Layer) (t : Tree) → AreTabled (loop_refusals nm layers t)
unfolding loop_refusals
loop_tabled nm layers t =
    of_some (λ form. rim_refusals nm layers form t) (form_of t) (no_form t) (λ form. rim_tabled nm layers form t)
    (no_form_tabled t)

pub held_tabled : (refusals : Tree → List Refusal) → ((t : Tree) → AreTabled (refusals t)) → (t : Tree)
    → AreTabled (refusals_in refusals t)
unfolding refusals_in
held_tabled refusals h t = of_some refusals (form_in t) _ h (one 22 (at_of t) refl)

-- ---- keepouts and boundaries
pub ban_tabled : (nm : ℕ) (layers : List Layer) (t : Tree) → AreTabled (ban_refusals nm layers t)
unfolding ban_refusals
ban_tabled nm layers t = either (length (windows_of t) == 0) _ _
    (held_tabled (shape_refusals nm layers) (shape_tabled nm layers) t)
    (each (refusals_in (loop_refusals nm layers)) (held_tabled (loop_refusals nm layers) (loop_tabled nm layers))
    (t ∷ windows_of t))

pub bound_tabled : (nm : ℕ) (layers : List Layer) (t : Tree) → AreTabled (bound_refusals nm layers t)
unfolding bound_refusals
bound_tabled nm layers t =
    both _ _ (where_holds (length (bound_forms t) == 0) 22 (at_of t) refl)
    (each (loop_refusals nm layers) (loop_tabled nm layers) (bound_forms t))

-- ---- rules
widths_tabled : (nm : ℕ) (t : Tree) → AreTabled (width_refusals nm t)
widths_tabled nm t =
    both _ _ (extent_tabled nm t 1)
    (where_holds (is_zero (option_map_or (word_extent nm) (nth_word t 1) None)) 9 (place_of t 1) refl)

with_tabled : (nm : ℕ) (rules widths : List Tree) → AreTabled (refusals_with nm rules widths)
unfolding rules_left_out set_refusals
with_tabled nm rules widths = both (rules_left_out rules (clearances_in rules)) _
    (both _ _ (all_left_out_tabled rules) (all_left_out_tabled (clearances_in rules)))
    (both _ _ (each (width_refusals nm) (widths_tabled nm) widths)
    (each (λ t. extent_refusal nm t 1) (λ t. extent_tabled nm t 1) (clearances_in rules)))

pub rules_tabled : (nm : ℕ) (rules : List Tree) → AreTabled (rule_refusals nm rules)
rules_tabled nm rules = with_tabled nm rules (widths_in rules)

pub pair_rules_tabled : (nm : ℕ) (rules : List Tree) → AreTabled (pair_rule_refusals nm rules)
unfolding pair_rule_refusals
pair_rules_tabled nm rules =
    both _ _ (each width_left_out (λ t. one 21 (place_of t 0) refl) (widths_in rules)) (with_tabled nm rules [])
