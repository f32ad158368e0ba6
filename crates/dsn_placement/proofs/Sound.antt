-- Where no refusal of a placement stands, it is sound.
use Rattle.std.proofs.Common.{◌≡◌, ◌≢◌, ◌<◌, ◌≤◌, ◌+◌, ◌^◌, ◌++◌, ◌∙◌, ap, sym, subst, ℕ, ℤ, zero, suc, cond, Bool}
use Rattle.std.proofs.Common.{true, false, List, [], ◌∷◌, Option, Some, None, length, map, fold, refl, arith}
use Rattle.std.specs.Prelude.{All, AllPairs, IfSome, is_some, nat_lt, slice_get, sum_by}
use Rattle.std.specs.List.{flat_map}
use Rattle.std.specs.Option.{IsSomeAnd, option_map_or}
use Rattle.std.proofs.lemmas.Bool.{ltb-false}
use Rattle.std.proofs.lemmas.List.{append-nil, length-map, map-append}
use Rattle.std.proofs.lemmas.List.Elements.{All-append, All-head, All-map, All-nil, All-tail, All-weaker}
use Rattle.pcb_model.specs.Sound.{IsPrintable}
use Rattle.pcb_model.specs.declared.limits.TheConstants.{MOST_PINS}
use Rattle.dsn_tree.specs.declared.tree.Tree.{Tree}
use Rattle.dsn_units.specs.declared.angle.Angle.{Angle}
use Rattle.dsn_units.specs.declared.number.Decimal.{Decimal}
use Rattle.dsn_units.specs.Length.{angle_of, coord_of}
use Rattle.dsn_units.specs.Reading.{decimal_of}
use Rattle.dsn_shapes.specs.declared.refusal.Refusal.{Refusal}
use Rattle.dsn_shapes.specs.declared.refusal.What.{What}
use Rattle.dsn_shapes.specs.declared.refusal.What.TheVariants.{Pins}
use Rattle.dsn_shapes.specs.declared.parts.Image.{Image}
use Rattle.dsn_shapes.specs.declared.parts.Library.{Library}
use Rattle.dsn_shapes.specs.declared.parts.Place.{Place}
use Rattle.dsn_shapes.specs.declared.parts.Stack.{Stack}
use Rattle.dsn_shapes.specs.declared.parts.Structure.{Structure}
use Rattle.dsn_shapes.specs.Refusals.{least, refused}
use Rattle.dsn_shapes.specs.Lists.{at_of, lists, name_of, nth_word, place_of, quoted_name, text_of}
use Rattle.dsn_shapes.specs.Names.{names_at, same_names}
use Rattle.dsn_shapes.specs.Numbers.{limit_refusal, number_by, refusal_by, word_coord, word_coord_refusal}
use Rattle.dsn_shapes.specs.Angles.{word_angle, word_angle_refusal}
use Rattle.dsn_shapes.proofs.Within.{IsNearIfRead, IsReduced, wanted_near, word_reduced}
use Rattle.dsn_shapes.proofs.Fits.{back_nil, each_fit, each_nil, first_below, front_nil, name_printable, names_differ}
use Rattle.dsn_shapes.proofs.Fits.{none_left, pairs_of_map, pairs_to_map, test_holds}
use Rattle.dsn_shapes.specs.Limits.{most_of}
use Rattle.dsn_placement.specs.declared.place.Laid.{Laid}
use Rattle.dsn_placement.specs.declared.seat.Stand.{Stand}
use Rattle.dsn_placement.specs.Copper.{IsStandWithin, is_image_placed}
use Rattle.dsn_placement.specs.Places.{angle_in, angle_refusal, component_laid, component_refusals, coord_word}
use Rattle.dsn_placement.specs.Places.{counted_by, far_refusal, has_coordinates, image_names, image_place, index_of}
use Rattle.dsn_placement.specs.Places.{laid_of, pins_of, place_by, place_refusals, places_in, point_by, point_refusals}
use Rattle.dsn_placement.specs.Places.{side_in, side_refusal, stand_by, stand_in, stand_refusals, unknown_at}
use Rattle.dsn_placement.specs.Places.{words_refusals, words_stand}
use Rattle.dsn_placement.specs.Placing.{adds, all_laid, components, items_before, limit_refusals, lists_left_out}
use Rattle.dsn_placement.specs.Placing.{first_past, placement_refusals, placements, placing_of}
use Rattle.dsn_placement.specs.Sound.{HasFewImages, IsPlaceSound, IsPlacingSound, placed_pins}

-- ---- words that are read
within_limit : {V : Type 0} (at : ℕ) (o : Option V) → limit_refusal at o ≡ [] → is_some o ≡ true
within_limit at None e = absurd (cc)
within_limit at (Some v) e = refl

number_there : {V : Type 0} (rule : Decimal → Option V) (at : ℕ) (o : Option Decimal) → refusal_by rule at o ≡ []
    → is_some (number_by rule o) ≡ true
number_there rule at None e = absurd (cc)
number_there rule at (Some d) e = within_limit at (rule d) e

coord_there : (nm at : ℕ) (o : Option Tree) → option_map_or (word_coord_refusal nm) o (refused 9 at ∷ []) ≡ []
    → is_some (option_map_or (word_coord nm) o None) ≡ true
coord_there nm at None e = absurd (cc)
coord_there nm at (Some w) e = number_there (λ d. coord_of d nm) (at_of w) (decimal_of (text_of w)) e

angle_there : (at : ℕ) (o : Option Tree) → option_map_or word_angle_refusal o (refused 9 at ∷ []) ≡ []
    → is_some (option_map_or word_angle o None) ≡ true
angle_there at None e = absurd (cc)
angle_there at (Some w) e = number_there angle_of (at_of w) (decimal_of (text_of w)) e

angle_reduced : (o : Option Tree) → IfSome (option_map_or word_angle o None) IsReduced
angle_reduced None = tt
angle_reduced (Some w) = word_reduced w

-- ---- where a component stands
-- it stands somewhere where b says so, and only there
abbrev IsRead : Bool → Bool → Option Stand → Type 0
IsRead flip_last b None = b ≡ false
IsRead flip_last b (Some s) = (b ≡ true) × IsStandWithin s × (s.flip_last ≡ flip_last)

stand_read : (flip_last : Bool) (x y : Option ℤ) (back : Option Bool) (angle : Option Angle) → is_some x ≡ true
    → is_some y ≡ true → is_some back ≡ true → is_some angle ≡ true → IsNearIfRead x → IsNearIfRead y
    → IfSome angle IsReduced → IsRead flip_last true (stand_by flip_last (point_by x y) back angle)
stand_read flip_last None y back angle a b c d hx hy ha = absurd (cc)
stand_read flip_last (Some x) None back angle a b c d hx hy ha = absurd (cc)
stand_read flip_last (Some x) (Some y) None angle a b c d hx hy ha = absurd (cc)
stand_read flip_last (Some x) (Some y) (Some back) None a b c d hx hy ha = absurd (cc)
stand_read flip_last (Some x) (Some y) (Some back) (Some angle) a b c d hx hy ha =
    (refl, record { at = (hx, hy); angle = ha }, refl)

words_read : (nm : ℕ) (flip_last : Bool) (t : Tree) → words_refusals nm t ≡ []
    → IsRead flip_last true (words_stand nm flip_last t)
unfolding words_refusals words_stand
words_read nm flip_last t e =
    let points : point_refusals nm t ≡ [] = front_nil (point_refusals nm t) _ e in
    let more : side_refusal t ++ angle_refusal t ≡ [] = back_nil (point_refusals nm t) _ e in
    stand_read flip_last (coord_word nm t 2) (coord_word nm t 3) (side_in t) (angle_in t)
    (coord_there nm (at_of t) (nth_word t 2) (front_nil _ _ points))
    (coord_there nm (at_of t) (nth_word t 3)
    (back_nil (option_map_or (word_coord_refusal nm) (nth_word t 2) (refused 9 (at_of t) ∷ [])) _ points))
    (test_holds (is_some (side_in t)) (refused 22 (at_of t)) [] [] (front_nil (side_refusal t) _ more))
    (angle_there (at_of t) (nth_word t 5) (back_nil (side_refusal t) _ more))
    (wanted_near nm (nth_word t 2))
    (wanted_near nm (nth_word t 3))
    (angle_reduced (nth_word t 5))

read_if : (flip_last b : Bool) (o : Option Stand) (rs : List Refusal) → (rs ≡ [] → IsRead flip_last true o)
    → cond b rs [] ≡ [] → IsRead flip_last b (cond b o None)
read_if flip_last true o rs h e = h e
read_if flip_last false o rs h e = refl

stand_is_read : (nm : ℕ) (flip_last : Bool) (t : Tree) → stand_refusals nm t ≡ []
    → IsRead flip_last (has_coordinates t) (stand_in nm flip_last t)
unfolding stand_refusals stand_in
stand_is_read nm flip_last t e =
    read_if flip_last (has_coordinates t) (words_stand nm flip_last t) (words_refusals nm t) (words_read nm flip_last t)
    e

-- ---- a component of an image
-- what a component adds to the pins is what it has placed
record IsLaidSound (flip_last : Bool) (lib : Library) (l : Laid) : Type 0 where
  place : IsPlaceSound flip_last lib l.place
  pins : placed_pins lib l.place ≡ l.pins

there : {X : Type 0} (xs : List X) (i : ℕ) → i < length xs → is_some (slice_get xs i) ≡ true
there [] i h = absurd (omega arith)
there (x ∷ xs) zero h = refl
there (x ∷ xs) (suc i) h = there xs i (omega arith)

whole_at : (at : ℕ) (stacks : List Stack) (o : Option Image) (s : Stand) → is_some o ≡ true
    → far_refusal at stacks o (Some s) ≡ [] → IsSomeAnd o (λ (i : Image). is_image_placed s stacks i ≡ true)
whole_at at stacks None s h e = absurd (cc)
whole_at at stacks (Some i) s h e = test_holds (is_image_placed s stacks i) (refused 10 at) [] [] e

record IsPlaceRead (flip_last : Bool) (lib : Library) (image : ℕ) (b : Bool) (p : Place) : Type 0 where
  sound : IsPlaceSound flip_last lib p
  pins : placed_pins lib p ≡ counted_by b (pins_of (slice_get lib.images image))

place_read : (flip_last : Bool) (lib : Library) (name : List ℕ) (image at : ℕ) (b : Bool) (o : Option Stand)
    → IsPrintable name → image < length lib.images → IsRead flip_last b o
    → far_refusal at lib.stacks (slice_get lib.images image) o ≡ []
    → IsPlaceRead flip_last lib image b (place_by name image o)
place_read flip_last lib name image at b None p h r e = record {
  sound = record { name = p; image = h; at = tt; angle = omega arith; whole = tt };
  pins = ap (λ c. counted_by c (pins_of (slice_get lib.images image))) (sym r);
}
place_read flip_last lib name image at b (Some s) p h r e = record {
  sound = record {
    name = p;
    image = h;
    at = r.1.at;
    angle = r.1.angle;
    whole = subst
        (λ f. IsSomeAnd (slice_get lib.images image)
        (λ (i : Image). is_image_placed (record { at = s.at; back = s.back; flip_last = f; angle = s.angle })
        lib.stacks i ≡ true)) r.2
        (whole_at at lib.stacks (slice_get lib.images image) s (there lib.images image h) e);
  };
  pins = ap (λ c. counted_by c (pins_of (slice_get lib.images image))) (sym r.0);
}

-- the index of a component's image is the image's place, where images are few
index_is : (n len : ℕ) → len ≤ 2 ^ 32 → n < len → n ≡ index_of (Some n)
index_is n len few h = omega arith

laid_sound : (nm : ℕ) (flip_last : Bool) (lib : Library) (n : ℕ) (t : Tree) → HasFewImages lib → n < length lib.images
    → place_refusals nm flip_last lib (Some n) t ≡ [] → IsLaidSound flip_last lib (laid_of nm flip_last lib (Some n) t)
unfolding place_refusals laid_of
laid_sound nm flip_last lib n t few h e =
    let i : n ≡ index_of (Some n) = index_is n (length lib.images) few.images h in
    let o = stand_in nm flip_last t in
    let more : stand_refusals nm t ++ far_refusal (at_of t) lib.stacks (slice_get lib.images n) o ≡ [] =
    back_nil (quoted_name t 1) _ e in
    let far : far_refusal (at_of t) lib.stacks (slice_get lib.images n) o ≡ [] =
    back_nil (stand_refusals nm t) _ more in
    let r : IsPlaceRead flip_last lib (index_of (Some n)) (has_coordinates t)
    (place_by (name_of t 1) (index_of (Some n)) o) =
    place_read flip_last lib (name_of t 1) (index_of (Some n)) (at_of t) (has_coordinates t) o
    (name_printable t 1 (front_nil (quoted_name t 1) _ e))
    (subst (λ k. k < length lib.images) i h) (stand_is_read nm flip_last t (front_nil (stand_refusals nm t) _ more))
    (subst (λ k. far_refusal (at_of t) lib.stacks (slice_get lib.images k) o ≡ []) i far) in
    record {
      place = r.sound;
      pins = r.pins ∙ ap (λ k. counted_by (has_coordinates t) (pins_of (slice_get lib.images k))) (sym i);
    }

-- ---- the components of a list
components_sound : (nm : ℕ) (flip_last : Bool) (lib : Library) (at : ℕ) (o : Option ℕ) (ts : List Tree)
    → HasFewImages lib → ((n : ℕ) → o ≡ Some n → n < length lib.images)
    → unknown_at at o ++ flat_map (place_refusals nm flip_last lib o) ts ≡ []
    → All (IsLaidSound flip_last lib) (map (laid_of nm flip_last lib o) ts)
components_sound nm flip_last lib at None ts few below e = absurd (cc)
components_sound nm flip_last lib at (Some n) ts few below e =
    each_fit (IsLaidSound flip_last lib) (place_refusals nm flip_last lib (Some n)) (laid_of nm flip_last lib (Some n))
    (λ t f. laid_sound nm flip_last lib n t few (below n refl) f) ts e

image_below : (lib : Library) (c : Tree) (n : ℕ) → image_place lib c ≡ Some n → n < length lib.images
image_below lib c n e =
    subst (λ len. n < len) (length-map lib.images (λ (i : Image). i.name))
    (first_below (name_of c 1) (image_names lib) n e)

component_sound : (nm : ℕ) (flip_last : Bool) (lib : Library) → HasFewImages lib → (c : Tree)
    → component_refusals nm flip_last lib c ≡ [] → All (IsLaidSound flip_last lib) (component_laid nm flip_last lib c)
unfolding component_refusals component_laid
component_sound nm flip_last lib few c e =
    components_sound nm flip_last lib (place_of c 1) (image_place lib c) (places_in (c ∷ [])) few (image_below lib c) e

all_joined : {X Y : Type 0} (P : Y → Type 0) (f : X → List Y) (xs : List X) → All (λ x. All P (f x)) xs
    → All P (flat_map f xs)
all_joined P f [] h = All-nil P
all_joined P f (x ∷ xs) h =
    All-append P (f x) (flat_map f xs) (All-head (λ x. All P (f x)) x xs h)
    (all_joined P f xs (All-tail (λ x. All P (f x)) x xs h))

all_sound : (nm : ℕ) (flip_last : Bool) (lib : Library) → HasFewImages lib → (cs : List Tree)
    → flat_map (component_refusals nm flip_last lib) cs ≡ []
    → All (IsLaidSound flip_last lib) (flat_map (component_laid nm flip_last lib) cs)
all_sound nm flip_last lib few cs e =
    all_joined (IsLaidSound flip_last lib) (component_laid nm flip_last lib) cs
    (All-weaker (λ c. component_refusals nm flip_last lib c ≡ [])
    (λ c. All (IsLaidSound flip_last lib) (component_laid nm flip_last lib c))
    (component_sound nm flip_last lib few) cs (each_nil (component_refusals nm flip_last lib) cs e))

abbrev place_in : Laid → Place
place_in l = l.place

-- ---- names
abbrev laid_name : Laid → List ℕ
laid_name l = l.place.name

named_by : (name : List ℕ) (image : ℕ) (o : Option Stand) → (place_by name image o).name ≡ name
named_by name image None = refl
named_by name image (Some s) = refl

laid_named : (nm : ℕ) (flip_last : Bool) (lib : Library) (o : Option ℕ) (t : Tree)
    → laid_name (laid_of nm flip_last lib o t) ≡ name_of t 1
unfolding laid_of
laid_named nm flip_last lib o t = named_by (name_of t 1) (index_of o) (stand_in nm flip_last t)

list_named : (nm : ℕ) (flip_last : Bool) (lib : Library) (o : Option ℕ) (ts : List Tree)
    → map laid_name (map (laid_of nm flip_last lib o) ts) ≡ names_at 1 ts
list_named nm flip_last lib o [] = refl
list_named nm flip_last lib o (t ∷ ts) =
    ap (λ n. n ∷ map laid_name (map (laid_of nm flip_last lib o) ts)) (laid_named nm flip_last lib o t)
    ∙ ap (λ ns. name_of t 1 ∷ ns) (list_named nm flip_last lib o ts)

component_named : (nm : ℕ) (flip_last : Bool) (lib : Library) (c : Tree)
    → map laid_name (component_laid nm flip_last lib c) ≡ names_at 1 (places_in (c ∷ []))
unfolding component_laid
component_named nm flip_last lib c = list_named nm flip_last lib (image_place lib c) (places_in (c ∷ []))

places_split : (c : Tree) (cs : List Tree) → places_in (c ∷ cs) ≡ places_in (c ∷ []) ++ places_in cs
unfolding lists
places_split c cs = simp append-nil

all_named : (nm : ℕ) (flip_last : Bool) (lib : Library) (cs : List Tree)
    → map laid_name (flat_map (component_laid nm flip_last lib) cs) ≡ names_at 1 (places_in cs)
unfolding lists
all_named nm flip_last lib [] = refl
all_named nm flip_last lib (c ∷ cs) =
    map-append laid_name (component_laid nm flip_last lib c) (flat_map (component_laid nm flip_last lib) cs)
    ∙ ap (λ ns. ns ++ map laid_name (flat_map (component_laid nm flip_last lib) cs))
    (component_named nm flip_last lib c)
    ∙ ap (λ ns. names_at 1 (places_in (c ∷ [])) ++ ns) (all_named nm flip_last lib cs)
    ∙ sym (map-append (λ t. name_of t 1) (places_in (c ∷ [])) (places_in cs))
    ∙ ap (names_at 1) (sym (places_split c cs))

-- each list of a component gives one
pub places_count : (nm : ℕ) (st : Structure) (lib : Library) (pcb : Tree) → length (placing_of nm st lib pcb).places
    ≡ length (places_in (components pcb))
unfolding all_laid
places_count nm st lib pcb =
    let laid = flat_map (component_laid nm st.flip_last lib) (components pcb) in
    length-map laid place_in ∙ sym (length-map laid laid_name)
    ∙ ap length (all_named nm st.flip_last lib (components pcb)) ∙ length-map (places_in (components pcb))
    (λ t. name_of t 1)

-- ---- pins that are placed
limit_kept : (b : Bool) (r : Refusal) (rs : List Refusal) → cond b (r ∷ []) rs ≡ [] → (b ≡ false) × (rs ≡ [])
limit_kept true r rs e = absurd (cc)
limit_kept false r rs e = (refl, e)

sum_within : (what : What) (n : ℕ) (ls : List Laid) → n ≤ most_of what → first_past what n ls ≡ []
    → fold (λ a (l : Laid). a + adds what l) n ls ≤ most_of what
sum_within what n [] h e = h
sum_within what n (l ∷ ls) h e =
    let k = limit_kept (nat_lt (most_of what) (n + adds what l)) _ (first_past what (n + adds what l) ls) e in
    sum_within what (n + adds what l) ls (ltb-false (most_of what) (n + adds what l) k.0) k.1

sums_agree : {X Y : Type 0} (f : Y → ℕ) (p : X → Y) (g : X → ℕ) (n : ℕ) (xs : List X) → All (λ x. f (p x) ≡ g x) xs
    → fold (λ a x. a + g x) n xs ≡ fold (λ a y. a + f y) n (map p xs)
sums_agree f p g n [] h = refl
sums_agree f p g n (x ∷ xs) h = sums_agree f p g (n + g x) xs (All-tail (λ x. f (p x) ≡ g x) x xs h)
    ∙ ap (λ k. fold (λ a y. a + f y) (n + k) (map p xs)) (sym (All-head (λ x. f (p x) ≡ g x) x xs h))

pins_within : (lib : Library) (before : ℕ) (flip_last : Bool) (ls : List Laid) → All (IsLaidSound flip_last lib) ls
    → limit_refusals before ls ≡ [] → sum_by (placed_pins lib) (map place_in ls) ≤ MOST_PINS
unfolding limit_refusals
pins_within lib before flip_last ls h e =
    let s : sum_by (λ (l : Laid). l.pins) ls ≤ MOST_PINS =
    sum_within Pins 0 ls (omega arith) (front_nil (first_past Pins 0 ls) _ e) in
    let same : sum_by (λ (l : Laid). l.pins) ls ≡ sum_by (placed_pins lib) (map place_in ls) =
    sums_agree (placed_pins lib) place_in (λ (l : Laid). l.pins) 0 ls
    (All-weaker (IsLaidSound flip_last lib) (λ (l : Laid). placed_pins lib l.place ≡ l.pins) (λ l k. k.pins) ls
    h) in
    subst (λ n. n ≤ MOST_PINS) same s

-- ---- the whole
pub placing_sound : (nm : ℕ) (st : Structure) (lib : Library) (pcb : Tree) → HasFewImages lib
    → least (placement_refusals nm st lib pcb) ≡ None → IsPlacingSound st lib (placing_of nm st lib pcb)
unfolding all_laid
placing_sound nm st lib pcb few h =
    let cs = components pcb in
    let laid = flat_map (component_laid nm st.flip_last lib) cs in
    let left = lists_left_out (placements pcb) cs (places_in cs) in
    let all = none_left (placement_refusals nm st lib pcb) h in
    let some : same_names 1 (places_in cs)
    ++ (flat_map (component_refusals nm st.flip_last lib) cs ++ limit_refusals (items_before st) laid) ≡ [] =
    back_nil left _ all in
    let more : flat_map (component_refusals nm st.flip_last lib) cs ++ limit_refusals (items_before st) laid ≡ [] =
    back_nil (same_names 1 (places_in cs)) _ some in
    let each = all_sound nm st.flip_last lib few cs
    (front_nil (flat_map (component_refusals nm st.flip_last lib) cs) _ more) in
    let names : AllPairs (λ a b. a ≢ b) (map laid_name laid) =
    subst (AllPairs (λ a b. a ≢ b)) (sym (all_named nm st.flip_last lib cs))
    (names_differ 1 (places_in cs) (front_nil (same_names 1 (places_in cs)) _ some)) in
    record {
      places = All-map (IsPlaceSound st.flip_last lib) place_in laid
          (All-weaker (IsLaidSound st.flip_last lib) (λ (l : Laid). IsPlaceSound st.flip_last lib l.place)
          (λ l k. k.place) laid each);
      names = pairs_to_map (λ (a b : Place). a.name ≢ b.name) place_in laid
          (pairs_of_map (λ a b. a ≢ b) laid_name laid names);
      few_pins = pins_within lib (items_before st) st.flip_last laid each
          (back_nil (flat_map (component_refusals nm st.flip_last lib) cs) _ more);
    }
