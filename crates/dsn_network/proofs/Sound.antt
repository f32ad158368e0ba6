-- Where no refusal of a network stands, it is sound.
use Rattle.std.proofs.Common.{◌≡◌, ◌≢◌, ◌<◌, ◌≤◌, ◌+◌, ◌++◌, ◌^◌, ◌∙◌, ap, sym, subst, ℕ, zero, suc, cond, Bool, true}
use Rattle.std.proofs.Common.{false, List, [], ◌∷◌, Option, Some, None, length, get_or, map, fold, refl, arith}
use Rattle.std.specs.Prelude.{◌==◌, All, AllPairs, Contains, IfSome, filter, is_some, slice_get}
use Rattle.std.specs.List.{flat_map}
use Rattle.std.specs.Option.{IsSomeAnd, option_map, option_map_or, option_or, option_to_list}
use Rattle.std.proofs.lemmas.Bool.{and_from, eq-eqb, eqb-true, false≢true}
use Rattle.std.proofs.lemmas.List.{length-map}
use Rattle.std.specs.Str.{bytes_eq}
use Rattle.std.proofs.lemmas.List.Elements.{All-append, All-cons, All-contains, All-head, All-map, All-nil, All-push}
use Rattle.std.proofs.lemmas.List.Elements.{All-tail, All-weaker}
use Rattle.std.proofs.lemmas.List.Folds.{list_any_at}
use Rattle.std.proofs.lemmas.List.Quantifiers.{all_pairs_push}
use Rattle.std.proofs.lemmas.Option.{same_Some, slice_get_within}
use Rattle.dsn_tree.specs.declared.tree.Tree.{Tree}
use Rattle.dsn_shapes.specs.declared.parts.Image.{Image}
use Rattle.dsn_shapes.specs.declared.parts.ImagePin.{ImagePin}
use Rattle.dsn_shapes.specs.declared.parts.Library.{Library}
use Rattle.dsn_shapes.specs.declared.parts.PinRef.{PinRef}
use Rattle.dsn_shapes.specs.declared.parts.Place.{Place}
use Rattle.dsn_shapes.specs.declared.parts.Placing.{Placing}
use Rattle.dsn_shapes.specs.declared.parts.ReadNet.{ReadNet}
use Rattle.dsn_shapes.specs.declared.parts.Split.{Split}
use Rattle.dsn_shapes.specs.declared.parts.Split.TheVariants.{Unknown, One, Many}
use Rattle.dsn_shapes.specs.declared.parts.Stack.{Stack}
use Rattle.dsn_shapes.specs.Refusals.{least, refused}
use Rattle.dsn_shapes.specs.declared.refusal.What.TheVariants.{Nets}
use Rattle.dsn_shapes.specs.Limits.{too_many}
use Rattle.dsn_shapes.specs.Lists.{at_of, name_of, quoted_name, text_of}
use Rattle.dsn_shapes.proofs.Few.{few_kept}
use Rattle.dsn_shapes.specs.Fits.{IsRuleSetFit}
use Rattle.dsn_shapes.specs.Names.{first_place, is_at, names_at, place_index, same_names, stack_names}
use Rattle.dsn_shapes.specs.Rules.{pair_rule_set, rule_refusals}
use Rattle.dsn_shapes.proofs.Fits.{back_nil, each_fit, each_nil, first_below, front_nil, name_printable, named_differ}
use Rattle.dsn_shapes.proofs.Fits.{none_left, pair_rules_fit, pairs_to_map, rules_fit, test_holds}
use Rattle.dsn_network.specs.Words.{rules_in, words_in}
use Rattle.dsn_network.specs.Splits.{fits_from, pin_among, pin_at, pin_names, pin_named, pin_of_image, pin_of_place}
use Rattle.dsn_network.specs.Splits.{pin_ref, place_names, split_by, split_of, split_with}
use Rattle.dsn_network.specs.Classes.{class_of, class_refusals, last_naming, names_net, read_class_of, stack_at}
use Rattle.dsn_network.specs.Classes.{unknown_via, via_lists, via_refusals, via_stack, vias_of}
use Rattle.dsn_network.specs.Nets.{each_once, first_net, has_pin, is_pin, is_placed, net_of, net_pins}
use Rattle.dsn_network.specs.Nets.{net_refusals, nets_refusals, pins_taken, ref_pins, ref_refusals, ref_taken, refs_of}
use Rattle.dsn_network.specs.Nets.{split_pins, split_refusals, split_taken, taken_from, with_pin}
use Rattle.dsn_network.specs.Pairs.{counts_with, couples, couples_of, couples_with, name_refusals, pair_by, pair_names}
use Rattle.dsn_network.specs.Pairs.{pair_refusals, pairs_of, places_from, places_named}
use Rattle.dsn_network.specs.Whole.{class_lists, net_lists, network_left_out, network_of, network_refusals, networks}
use Rattle.dsn_network.specs.Whole.{pair_lists, refusals_of, value_of}
use Rattle.dsn_network.specs.Sound.{HasFewPlaces, IsImagePin, IsNetworkSound, IsPlacedPin, IsReadClassSound}
use Rattle.dsn_network.specs.Sound.{IsReadNetSound, IsReadPairSound}

-- ---- pins that are named once
push_if : (b : Bool) (P : PinRef → Type 0) (ps : List PinRef) (p : PinRef) → All P ps → P p
    → All P (cond b ps (ps ++ p ∷ []))
push_if true P ps p h k = h
push_if false P ps p h k = All-push P ps p h k

all_folded : (P : PinRef → Type 0) (kept ps : List PinRef) → All P kept → All P ps → All P (fold with_pin kept ps)
all_folded P kept [] h k = h
all_folded P kept (p ∷ ps) h k =
    all_folded P (with_pin kept p) ps (push_if (has_pin p kept) P kept p h (All-head P p ps k)) (All-tail P p ps k)

all_once : (P : PinRef → Type 0) (ps : List PinRef) → All P ps → All P (each_once ps)
unfolding each_once
all_once P ps h = all_folded P [] ps (All-nil P) h

is_itself : (p : PinRef) → is_pin p p ≡ true
is_itself p = and_from (p.place == p.place) (p.pin == p.pin) (eq-eqb p.place p.place refl) (eq-eqb p.pin p.pin refl)

new_if : (b : Bool) (kept : List PinRef) (p : PinRef) → has_pin p kept ≡ b → AllPairs (λ (a c : PinRef). a ≢ c) kept
    → AllPairs (λ (a c : PinRef). a ≢ c) (cond b kept (kept ++ p ∷ []))
new_if true kept p e h = h
new_if false kept p e h =
    all_pairs_push (λ (a c : PinRef). a ≢ c) kept p h
    (λ k d l same.
    false≢true (sym e ∙ list_any_at (is_pin p) kept k d l (subst (λ q. is_pin p q ≡ true) (sym same) (is_itself p))))

folded_differ : (kept ps : List PinRef) → AllPairs (λ (a c : PinRef). a ≢ c) kept
    → AllPairs (λ (a c : PinRef). a ≢ c) (fold with_pin kept ps)
folded_differ kept [] h = h
folded_differ kept (p ∷ ps) h = folded_differ (with_pin kept p) ps (new_if (has_pin p kept) kept p refl h)

no_pairs : AllPairs (λ (a c : PinRef). a ≢ c) []
no_pairs i j d l m = absurd (omega arith)

once_differ : (ps : List PinRef) → AllPairs (λ (a c : PinRef). a ≢ c) (each_once ps)
unfolding each_once
once_differ ps = folded_differ [] ps no_pairs

-- ---- the pin that a split names
abbrev IsOfImage : Library → Placing → PinRef → Type 0
IsOfImage lib placing r = IsSomeAnd (slice_get placing.places r.place) (IsImagePin lib r)

among_of : (lib : Library) (places : List Place) (k : ℕ) (pl : Place) (i : Image) (o : Option ℕ) (r : PinRef)
    → length places ≤ 2 ^ 32 → slice_get places k ≡ Some pl → slice_get lib.images pl.image ≡ Some i
    → ((j : ℕ) → o ≡ Some j → j < length i.pins) → pin_among k o ≡ Some r
    → IsSomeAnd (slice_get places r.place) (IsImagePin lib r)
among_of lib places k pl i None r few e f below h = absurd (cc)
among_of lib places k pl i (Some j) r few e f below h =
    let is : pin_ref k j ≡ r = same_Some (pin_ref k j) r h in
    let within = slice_get_within places k pl e in
    let place : k ≡ place_index k = omega arith in
    let small : j < length i.pins = below j refl in
    let pin : place_index j < length i.pins = omega arith in
    let there : IsSomeAnd (Some i) (λ (m : Image). place_index j < length m.pins) = pin in
    let at_image : IsImagePin lib (pin_ref k j) pl =
    subst (λ o. IsSomeAnd o (λ (m : Image). place_index j < length m.pins)) (sym f) there in
    let at_place : IsSomeAnd (Some pl) (IsImagePin lib (pin_ref k j)) = at_image in
    subst (λ (q : PinRef). IsSomeAnd (slice_get places q.place) (IsImagePin lib q)) is
    (subst (λ o. IsSomeAnd o (IsImagePin lib (pin_ref k j))) (sym e ∙ ap (slice_get places) place) at_place)

image_pin : (lib : Library) (places : List Place) (k : ℕ) (pl : Place) (name : List ℕ) (o : Option Image) (r : PinRef)
    → length places ≤ 2 ^ 32 → slice_get places k ≡ Some pl → slice_get lib.images pl.image ≡ o
    → pin_of_image k name o ≡ Some r → IsSomeAnd (slice_get places r.place) (IsImagePin lib r)
image_pin lib places k pl name None r few e f h = absurd (cc)
image_pin lib places k pl name (Some i) r few e f h =
    among_of lib places k pl i (first_place name (pin_names i.pins)) r few e f
    (λ j g. omega (arith, first_below name (pin_names i.pins) j g, length-map i.pins (λ (p : ImagePin). p.name))) h

place_pin : (lib : Library) (places : List Place) (k : ℕ) (name : List ℕ) (o : Option Place) (r : PinRef)
    → length places ≤ 2 ^ 32 → slice_get places k ≡ o → pin_of_place lib k name o ≡ Some r
    → IsSomeAnd (slice_get places r.place) (IsImagePin lib r)
place_pin lib places k name None r few e h = absurd (cc)
place_pin lib places k name (Some pl) r few e h =
    image_pin lib places k pl name (slice_get lib.images pl.image) r few e refl h

pin_at_of : (lib : Library) (places : List Place) (name : List ℕ) (o : Option ℕ) (r : PinRef) → length places ≤ 2 ^ 32
    → pin_at lib places name o ≡ Some r → IsSomeAnd (slice_get places r.place) (IsImagePin lib r)
pin_at_of lib places name None r few h = absurd (cc)
pin_at_of lib places name (Some k) r few h = place_pin lib places k name (slice_get places k) r few refl h

named_of : (lib : Library) (placing : Placing) → HasFewPlaces placing → (component name : List ℕ) (r : PinRef)
    → pin_named lib placing component name ≡ Some r → IsOfImage lib placing r
unfolding pin_named
named_of lib placing few component name r h =
    pin_at_of lib placing.places name (first_place component (place_names placing.places)) r few.places h

split_if : (b : Bool) (P : PinRef → Type 0) (o : Option PinRef) → ((r : PinRef) → o ≡ Some r → P r)
    → All P (cond b (option_to_list o) [])
split_if true P None h = All-nil P
split_if true P (Some r) h = All-cons P r [] (h r refl) (All-nil P)
split_if false P o h = All-nil P

all_fits : (P : PinRef → Type 0) (named : List ℕ → List ℕ → Option PinRef)
    → ((c n : List ℕ) (r : PinRef) → named c n ≡ Some r → P r) → (front text : List ℕ)
    → All P (fits_from named front text)
all_fits P named h front [] = All-nil P
all_fits P named h front (b ∷ text) =
    All-append P (cond (b == 45) (option_to_list (named front text)) []) (fits_from named (front ++ b ∷ []) text)
    (split_if (b == 45) P (named front text) (h front text)) (all_fits P named h (front ++ b ∷ []) text)

-- what holds of each split that fits holds of the one that is named
split_all : (P : PinRef → Type 0) (ps : List PinRef) → All P ps → All P (split_pins (split_by ps))
split_all P [] h = All-nil P
split_all P (p ∷ []) h = h
split_all P (p ∷ q ∷ ps) h = All-nil P

named_pins : (lib : Library) (placing : Placing) → HasFewPlaces placing → (text : List ℕ)
    → All (IsOfImage lib placing) (split_pins (split_of lib placing text))
unfolding split_with
named_pins lib placing few text =
    split_all (IsOfImage lib placing) (fits_from (pin_named lib placing) [] text)
    (all_fits (IsOfImage lib placing) (pin_named lib placing) (named_of lib placing few) [] text)

both_at : (lib : Library) (r : PinRef) (o : Option Place) → IsSomeAnd o (IsImagePin lib r)
    → option_map_or (λ (place : Place). is_some place.at) o false ≡ true
    → IsSomeAnd o (λ (p : Place). (is_some p.at ≡ true) × IsImagePin lib r p)
both_at lib r None h e = absurd h
both_at lib r (Some p) h e = (e, h)

split_placed : (lib : Library) (placing : Placing) (at : ℕ) (s : Split) → All (IsOfImage lib placing) (split_pins s)
    → split_refusals placing at s ≡ [] → All (IsPlacedPin lib placing) (split_pins s)
split_placed lib placing at Unknown h e = All-nil (IsPlacedPin lib placing)
split_placed lib placing at Many h e = All-nil (IsPlacedPin lib placing)
split_placed lib placing at (One p) h e =
    All-cons (IsPlacedPin lib placing) p []
    (both_at lib p (slice_get placing.places p.place) (All-head (IsOfImage lib placing) p [] h)
    (test_holds (is_placed placing p) (refused 19 at) [] [] e)) (All-nil (IsPlacedPin lib placing))

ref_placed : (lib : Library) (placing : Placing) → HasFewPlaces placing → (w : Tree) → ref_refusals lib placing w ≡ []
    → All (IsPlacedPin lib placing) (ref_pins lib placing w)
unfolding ref_refusals ref_pins
ref_placed lib placing few w e =
    split_placed lib placing (at_of w) (split_of lib placing (text_of w)) (named_pins lib placing few (text_of w)) e

all_joined : {X Y : Type 0} (P : Y → Type 0) (f : X → List Y) (xs : List X) → All (λ x. All P (f x)) xs
    → All P (flat_map f xs)
all_joined P f [] h = All-nil P
all_joined P f (x ∷ xs) h =
    All-append P (f x) (flat_map f xs) (All-head (λ x. All P (f x)) x xs h)
    (all_joined P f xs (All-tail (λ x. All P (f x)) x xs h))

net_placed : (lib : Library) (placing : Placing) → HasFewPlaces placing → (t : Tree)
    → flat_map (ref_refusals lib placing) (refs_of t) ≡ [] → All (IsPlacedPin lib placing) (net_pins lib placing t)
unfolding net_pins
net_placed lib placing few t e =
    all_once (IsPlacedPin lib placing) (flat_map (ref_pins lib placing) (refs_of t))
    (all_joined (IsPlacedPin lib placing) (ref_pins lib placing) (refs_of t)
    (All-weaker (λ w. ref_refusals lib placing w ≡ []) (λ w. All (IsPlacedPin lib placing) (ref_pins lib placing w))
    (ref_placed lib placing few) (refs_of t) (each_nil (ref_refusals lib placing) (refs_of t) e)))

-- ---- pins of one net alone
at_some : (k : ℕ) (o : Option ℕ) → is_at k o ≡ true → o ≡ Some k
at_some k None e = absurd (cc)
at_some k (Some n) e = ap (λ (m : ℕ). Some m) (sym (eqb-true k n e))

split_owned : (nets : List (List PinRef)) (k at : ℕ) (s : Split) → split_taken nets k at s ≡ []
    → All (λ p. first_net p nets ≡ Some k) (split_pins s)
split_owned nets k at Unknown e = All-nil (λ p. first_net p nets ≡ Some k)
split_owned nets k at Many e = All-nil (λ p. first_net p nets ≡ Some k)
split_owned nets k at (One p) e =
    All-cons (λ p. first_net p nets ≡ Some k) p []
    (at_some k (first_net p nets) (test_holds (is_at k (first_net p nets)) (refused 18 at) [] [] e))
    (All-nil (λ p. first_net p nets ≡ Some k))

ref_owned : (lib : Library) (placing : Placing) (nets : List (List PinRef)) (k : ℕ) (w : Tree)
    → ref_taken lib placing nets k w ≡ [] → All (λ p. first_net p nets ≡ Some k) (ref_pins lib placing w)
unfolding ref_taken ref_pins
ref_owned lib placing nets k w e = split_owned nets k (at_of w) (split_of lib placing (text_of w)) e

net_owned : (lib : Library) (placing : Placing) (nets : List (List PinRef)) (k : ℕ) (t : Tree)
    → flat_map (ref_taken lib placing nets k) (refs_of t) ≡ []
    → All (λ p. first_net p nets ≡ Some k) (net_pins lib placing t)
unfolding net_pins
net_owned lib placing nets k t e =
    all_once (λ p. first_net p nets ≡ Some k) (flat_map (ref_pins lib placing) (refs_of t))
    (all_joined (λ p. first_net p nets ≡ Some k) (ref_pins lib placing) (refs_of t)
    (All-weaker (λ w. ref_taken lib placing nets k w ≡ [])
    (λ w. All (λ p. first_net p nets ≡ Some k) (ref_pins lib placing w)) (ref_owned lib placing nets k)
    (refs_of t) (each_nil (ref_taken lib placing nets k) (refs_of t) e)))

nets_owned : (lib : Library) (placing : Placing) (nets : List (List PinRef)) (k : ℕ) (ts : List Tree)
    → taken_from lib placing nets k ts ≡ [] → (i n : ℕ) (d : Tree) → i < length ts → n ≡ k + i
    → All (λ p. first_net p nets ≡ Some n) (net_pins lib placing (get_or ts i d))
nets_owned lib placing nets k [] e i n d l f = absurd (omega arith)
nets_owned lib placing nets k (t ∷ ts) e zero n d l f =
    let s : k ≡ n = omega arith in
    subst (λ m. All (λ p. first_net p nets ≡ Some m) (net_pins lib placing t)) s
    (net_owned lib placing nets k t (front_nil (flat_map (ref_taken lib placing nets k) (refs_of t)) _ e))
nets_owned lib placing nets k (t ∷ ts) e (suc i) n d l f =
    nets_owned lib placing nets (k + 1) ts (back_nil (flat_map (ref_taken lib placing nets k) (refs_of t)) _ e) i n d
    (omega arith) (omega arith)

apart_at : (lib : Library) (placing : Placing) (ts : List Tree) → pins_taken lib placing ts ≡ []
    → AllPairs (λ (t u : Tree). (r : PinRef) → Contains (net_pins lib placing t) r → Contains (net_pins lib placing u) r
    → ⊥) ts
unfolding pins_taken
apart_at lib placing ts e i j d below within r a b =
    let nets = map (net_pins lib placing) ts in
    let one = All-contains (λ p. first_net p nets ≡ Some i) (net_pins lib placing (get_or ts i d)) r
    (nets_owned lib placing nets 0 ts e i i d (omega arith) (omega arith)) a in
    let two = All-contains (λ p. first_net p nets ≡ Some j) (net_pins lib placing (get_or ts j d)) r
    (nets_owned lib placing nets 0 ts e j j d within (omega arith)) b in
    let same : i ≡ j = same_Some i j (sym one ∙ two) in
    absurd (omega arith)

-- ---- classes
last_below : (name : List ℕ) (k : ℕ) (ts : List Tree) (c : ℕ) → last_naming name k ts ≡ Some c → c < k + length ts
last_below name k [] c e = absurd (cc)
last_below name k (t ∷ ts) c e =
    last_of (names_net name t) k (length ts) c (last_naming name (k + 1) ts) (last_below name (k + 1) ts c) e
  where
    last_of : (b : Bool) (k n c : ℕ) (o : Option ℕ) → (o ≡ Some c → c < k + 1 + n) → option_or o (cond b (Some k) None)
        ≡ Some c → c < k + suc n
    last_of b k n c (Some m) h e = let f : c < k + 1 + n = h e in omega arith
    last_of true k n c None h e = let f : k ≡ c = same_Some k c e in omega arith
    last_of false k n c None h e = absurd (cc)

index_below : (o : Option ℕ) (n : ℕ) → ((k : ℕ) → o ≡ Some k → k < n) → IfSome (option_map place_index o) (λ m. m < n)
index_below None n h = tt
index_below (Some k) n h = let f : k < n = h k refl in omega arith

class_below : (name : List ℕ) (classes : List Tree) → IfSome (class_of name classes) (λ c. c < length classes)
unfolding class_of
class_below name classes =
    index_below (last_naming name 0 classes) (length classes) (λ k e. omega (arith, last_below name 0 classes k e))

stack_below : (o : Option ℕ) (n : ℕ) → is_some o ≡ true → ((k : ℕ) → o ≡ Some k → k < n) → stack_at o < n
stack_below None n s h = absurd (cc)
stack_below (Some k) n s h = let f : k < n = h k refl in omega arith

via_below : (stacks : List (List ℕ)) (w : Tree) → unknown_via stacks w ≡ [] → via_stack stacks w < length stacks
via_below stacks w e =
    stack_below (first_place (text_of w) stacks) (length stacks)
    (test_holds (is_some (first_place (text_of w) stacks)) (refused 14 (at_of w)) [] [] e)
    (first_below (text_of w) stacks)

some_below : (b : Bool) (vs : List ℕ) (n : ℕ) → All (λ v. v < n) vs
    → IfSome (cond b None (Some vs)) (λ us. All (λ v. v < n) us)
some_below true vs n h = tt
some_below false vs n h = h

class_sound : (nm : ℕ) (stacks : List (List ℕ)) (t : Tree) → class_refusals nm stacks t ≡ []
    → IsReadClassSound (length stacks) (read_class_of nm stacks t)
unfolding class_refusals read_class_of via_refusals vias_of
class_sound nm stacks t e =
    let vias = via_lists (t ∷ []) in
    record {
      vias = some_below (length vias == 0) (map (via_stack stacks) (words_in 1 vias)) (length stacks)
          (each_fit (λ v. v < length stacks) (unknown_via stacks) (via_stack stacks) (via_below stacks)
          (words_in 1 vias) (front_nil (flat_map (unknown_via stacks) (words_in 1 vias)) _ e));
      rules = rules_fit nm (rules_in (t ∷ [])) (back_nil (flat_map (unknown_via stacks) (words_in 1 vias)) _ e);
    }

-- ---- class pairs
places_below : (k m : ℕ) (name : List ℕ) (names : List (List ℕ)) → k + length names ≤ m
    → All (λ p. p < m) (places_from k name names)
places_below k m name [] h = All-nil (λ p. p < m)
places_below k m name (n ∷ ns) h =
    All-append (λ p. p < m) (cond (bytes_eq n name) (place_index k ∷ []) []) (places_from (k + 1) name ns)
    (here (bytes_eq n name)) (places_below (k + 1) m name ns (omega arith))
  where
    here : (b : Bool) → All (λ p. p < m) (cond b (place_index k ∷ []) [])
    here true = All-cons (λ p. p < m) (place_index k) [] (omega arith) (All-nil (λ p. p < m))
    here false = All-nil (λ p. p < m)

named_below : (name : List ℕ) (names : List (List ℕ)) → All (λ p. p < length names) (places_named name names)
unfolding places_named
named_below name names = places_below 0 (length names) name names (omega arith)

abbrev IsCoupleBelow : ℕ → ℕ × ℕ → Type 0
IsCoupleBelow m c = (c.0 < m) × (c.1 < m)

those_with : (same : Bool) (m a : ℕ) (ys : List ℕ) → a < m → All (λ p. p < m) ys
    → All (IsCoupleBelow m) (couples_with same ys a)
those_with same m a [] l h = All-nil (IsCoupleBelow m)
those_with same m a (b ∷ ys) l h =
    kept (counts_with same a b) (All-head (λ p. p < m) b ys h) (those_with same m a ys l (All-tail (λ p. p < m) b ys h))
  where
    kept : (t : Bool) → b < m → All (IsCoupleBelow m) (couples_with same ys a)
        → All (IsCoupleBelow m) (map (λ b. (a, b)) (cond t (b ∷ filter (counts_with same a) ys)
        (filter (counts_with same a) ys)))
    kept true k r = All-cons (IsCoupleBelow m) (a, b) (couples_with same ys a) (l, k) r
    kept false k r = r

couples_below : (same : Bool) (m : ℕ) (xs ys : List ℕ) → All (λ p. p < m) xs → All (λ p. p < m) ys
    → All (IsCoupleBelow m) (couples same xs ys)
unfolding couples
couples_below same m [] ys h k = All-nil (IsCoupleBelow m)
couples_below same m (x ∷ xs) ys h k =
    All-append (IsCoupleBelow m) (couples_with same ys x) (flat_map (couples_with same ys) xs)
    (those_with same m x ys (All-head (λ p. p < m) x xs h) k)
    (couples_below same m xs ys (All-tail (λ p. p < m) x xs h) k)

named_couples : (names : List (List ℕ)) (ws : List Tree) → All (IsCoupleBelow (length names)) (couples_of names ws)
named_couples names [] = All-nil (IsCoupleBelow (length names))
named_couples names (v ∷ []) = All-nil (IsCoupleBelow (length names))
named_couples names (v ∷ (w ∷ [])) =
    couples_below (bytes_eq (text_of v) (text_of w)) (length names) (places_named (text_of v) names)
    (places_named (text_of w) names) (named_below (text_of v) names) (named_below (text_of w) names)
named_couples names (v ∷ (w ∷ (u ∷ ws))) = All-nil (IsCoupleBelow (length names))

pairs_sound : (nm : ℕ) (names : List (List ℕ)) (t : Tree) → pair_refusals nm names t ≡ []
    → All (IsReadPairSound (length names)) (pairs_of nm names t)
unfolding pair_refusals pairs_of
pairs_sound nm names t e =
    let rules = pair_rule_set nm (rules_in (t ∷ [])) in
    let fit : IsRuleSetFit rules = pair_rules_fit nm (rules_in (t ∷ [])) (back_nil (name_refusals names t) _ e) in
    All-map (IsReadPairSound (length names)) (pair_by rules) (couples_of names (pair_names t))
    (All-weaker (IsCoupleBelow (length names)) (λ c. IsReadPairSound (length names) (pair_by rules c))
    (λ c h. record { a_in_range = h.0; b_in_range = h.1; rules = fit }) (couples_of names (pair_names t))
    (named_couples names (pair_names t)))

-- ---- nets
net_sound : (nm : ℕ) (lib : Library) (placing : Placing) (classes : List Tree) → HasFewPlaces placing → (t : Tree)
    → net_refusals nm lib placing t ≡ [] → IsReadNetSound lib placing (length classes) (net_of nm lib placing classes t)
unfolding net_refusals net_of net_pins
net_sound nm lib placing classes few t e =
    let more : flat_map (ref_refusals lib placing) (refs_of t) ++ rule_refusals nm (rules_in (t ∷ [])) ≡ [] =
    back_nil (quoted_name t 1) _ e in
    record {
      name = name_printable t 1 (front_nil (quoted_name t 1) _ e);
      pins = net_placed lib placing few t (front_nil (flat_map (ref_refusals lib placing) (refs_of t)) _ more);
      once = once_differ (flat_map (ref_pins lib placing) (refs_of t));
      class = class_below (name_of t 1) classes;
      rules = rules_fit nm (rules_in (t ∷ [])) (back_nil (flat_map (ref_refusals lib placing) (refs_of t)) _ more);
    }

net_named : (nm : ℕ) (lib : Library) (placing : Placing) (classes : List Tree) (t : Tree)
    → (net_of nm lib placing classes t).name ≡ name_of t 1
unfolding net_of
net_named nm lib placing classes t = refl

nets_apart : (nm : ℕ) (lib : Library) (placing : Placing) (classes ts : List Tree) → pins_taken lib placing ts ≡ []
    → AllPairs (λ (a b : ReadNet). (r : PinRef) → Contains a.pins r → Contains b.pins r → ⊥)
    (map (net_of nm lib placing classes) ts)
unfolding net_of
nets_apart nm lib placing classes ts e =
    pairs_to_map (λ (a b : ReadNet). (r : PinRef) → Contains a.pins r → Contains b.pins r → ⊥)
    (net_of nm lib placing classes) ts (apart_at lib placing ts e)

-- ---- the whole
pub network_sound : (nm : ℕ) (lib : Library) (placing : Placing) (pcb : Tree) → HasFewPlaces placing
    → least (network_refusals nm lib placing pcb) ≡ None → IsNetworkSound lib placing (network_of nm lib placing pcb)
unfolding refusals_of nets_refusals value_of
network_sound nm lib placing pcb few h =
    let ts = net_lists pcb in
    let cs = class_lists pcb in
    let names = stack_names lib.stacks in
    let all = none_left (network_refusals nm lib placing pcb) h in
    let parts : nets_refusals nm lib placing ts
    ++ (flat_map (class_refusals nm names) cs ++ flat_map (pair_refusals nm (names_at 1 cs)) (pair_lists pcb)) ≡ [] =
    back_nil (network_left_out (networks pcb) ts cs (pair_lists pcb)) _ all in
    let in_nets : same_names 1 ts
    ++ (too_many Nets 0 ts
    ++ (flat_map (net_refusals nm lib placing) ts ++ pins_taken lib placing ts)) ≡ [] =
    front_nil (nets_refusals nm lib placing ts) _ parts in
    let more : too_many Nets 0 ts
    ++ (flat_map (net_refusals nm lib placing) ts ++ pins_taken lib placing ts) ≡ [] =
    back_nil (same_names 1 ts) _ in_nets in
    let each : flat_map (net_refusals nm lib placing) ts ++ pins_taken lib placing ts ≡ [] =
    back_nil (too_many Nets 0 ts) _ more in
    let of_classes : flat_map (class_refusals nm names) cs
    ++ flat_map (pair_refusals nm (names_at 1 cs)) (pair_lists pcb) ≡ [] =
    back_nil (nets_refusals nm lib placing ts) _ parts in
    let class_count : length cs ≡ length (map (read_class_of nm names) cs) =
    sym (length-map cs (read_class_of nm names)) in
    let stack_count : length names ≡ length lib.stacks = length-map lib.stacks (λ (s : Stack). s.name) in
    record {
      nets = subst (λ n. All (IsReadNetSound lib placing n) (map (net_of nm lib placing cs) ts)) class_count
          (each_fit (IsReadNetSound lib placing (length cs)) (net_refusals nm lib placing) (net_of nm lib placing cs)
          (net_sound nm lib placing cs few) ts (front_nil (flat_map (net_refusals nm lib placing) ts) _ each));
      names = named_differ (net_of nm lib placing cs) (λ (n : ReadNet). n.name) 1 (net_named nm lib placing cs) ts
          (front_nil (same_names 1 ts) _ in_nets);
      few = omega (
        arith,
        length-map ts (net_of nm lib placing cs),
        few_kept Nets 0 ts (front_nil (too_many Nets 0 ts) _ more),
      );
      apart = nets_apart nm lib placing cs ts (back_nil (flat_map (net_refusals nm lib placing) ts) _ each);
      classes = subst (λ n. All (IsReadClassSound n) (map (read_class_of nm names) cs)) stack_count
          (each_fit (IsReadClassSound (length names)) (class_refusals nm names) (read_class_of nm names)
          (class_sound nm names) cs (front_nil (flat_map (class_refusals nm names) cs) _ of_classes));
      pairs = subst (λ n. All (IsReadPairSound n) (flat_map (pairs_of nm (names_at 1 cs)) (pair_lists pcb)))
          (length-map cs (λ t. name_of t 1) ∙ class_count)
          (all_joined (IsReadPairSound (length (names_at 1 cs))) (pairs_of nm (names_at 1 cs)) (pair_lists pcb)
          (All-weaker (λ t. pair_refusals nm (names_at 1 cs) t ≡ [])
          (λ t. All (IsReadPairSound (length (names_at 1 cs))) (pairs_of nm (names_at 1 cs) t))
          (pairs_sound nm (names_at 1 cs)) (pair_lists pcb)
          (each_nil (pair_refusals nm (names_at 1 cs)) (pair_lists pcb)
          (back_nil (flat_map (class_refusals nm names) cs) _ of_classes))));
    }
