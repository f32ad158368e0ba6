-- Maps of pins, with one more pin, or the pins of one more net.
use Rattle.std.proofs.Common.{◌≡◌, ◌+◌, ◌<◌, ◌∙◌, ap, sym, ℕ, List, [], ◌∷◌, ◌++◌, length, take, get_or, Bool, true}
use Rattle.std.proofs.Common.{false, cond, Ordering, refl, arith}
use Rattle.std.specs.Prelude.{Option, Some, None, is_some, map, ◌&&◌, ◌||◌, ◌==◌, if◌then◌else◌}
use Rattle.std.specs.Option.{option_or}
use Rattle.std.specs.Ordering.{is_eq, nat_cmp, ordering_then}
use Rattle.std.specs.BTreeMap.{BTreeMap, Updates, get_by}
use Rattle.std.proofs.lemmas.Bool.Decides.{nat_tests}
use Rattle.std.proofs.lemmas.List.{take_more, map-append, length-map, length-take-le}
use Rattle.std.proofs.lemmas.List.Folds.{list_any-append}
use Rattle.std.proofs.lemmas.List.Sums.{fold-append}
use Rattle.dsn_shapes.proofs.Again.{push_place}
use Rattle.dsn_tree.specs.declared.tree.Tree.{Tree}
use Rattle.dsn_shapes.specs.declared.parts.Library.{Library}
use Rattle.dsn_shapes.specs.declared.parts.PinRef.{PinRef}
use Rattle.dsn_shapes.specs.declared.parts.Placing.{Placing}
use Rattle.dsn_network.specs.Nets.{each_once, first_net, has_pin, is_pin, net_of, net_pins, with_pin}
use Rattle.dsn_network.specs.Owners.{net_by, pins_of}

or_false : (b : Bool) → (b || false) ≡ b
or_false true = refl
or_false false = refl

-- the keys of two pins are equal where the pins are
pub same_keys : (a b c d : ℕ) → is_eq (ordering_then (nat_cmp a c) (nat_cmp b d)) ≡ (c == a && d == b)
same_keys a b c d = grind (arith, nat_tests)

-- equal pins have one net
pub same_net : (m : BTreeMap (ℕ × ℕ) ℕ) (p q : PinRef) → is_pin q p ≡ true → net_by m q ≡ net_by m p
same_net m p q e =
    let a : q.place ≡ p.place = grind (arith, nat_tests) in
    let b : q.pin ≡ p.pin = grind (arith, nat_tests) in
    ap (λ (n : ℕ). get_by (λ (k : ℕ × ℕ). ordering_then (nat_cmp n k.0) (nat_cmp q.pin k.1)) m) a
    ∙ ap (λ (n : ℕ). get_by (λ (k : ℕ × ℕ). ordering_then (nat_cmp p.place k.0) (nat_cmp n k.1)) m) b

abbrev pub key_cmp : ℕ × ℕ → ℕ × ℕ → Ordering
key_cmp x y = ordering_then (nat_cmp x.0 y.0) (nat_cmp x.1 y.1)

-- what a map has for a pin after it was given a net for one
pub given : (m n : BTreeMap (ℕ × ℕ) ℕ) (p q : PinRef) (net : ℕ) → Updates key_cmp m n (p.place, p.pin) (Some net)
    → net_by n q ≡ cond (is_pin q p) (Some net) (net_by m q)
given m n p q net h =
    h.0 (q.place, q.pin) ∙ ap (λ b. cond b (Some net) (net_by m q)) (same_keys p.place p.pin q.place q.pin)

-- a pin that has none gets it
pub gets : (a b new : Option ℕ) (net : ℕ) (same : Bool) → (same ≡ true → a ≡ b) → b ≡ None
    → new ≡ cond same (Some net) a → new ≡ option_or a (if same then Some net else None)
gets None b new net true h e f = f
gets None b new net false h e f = f
gets (Some x) b new net true h e f = cc (h refl)
gets (Some x) b new net false h e f = f

-- one more of a net's pins
pub one_more : (a : Option ℕ) (net : ℕ) (has is : Bool)
    → option_or (option_or a (if has then Some net else None)) (if is then Some net else None)
    ≡ option_or a (if has || is then Some net else None)
one_more None net true is = refl
one_more None net false is = refl
one_more (Some x) net has is = refl

-- the first net with a pin, with one more net behind
pub next_net : (q : PinRef) (nets : List (List PinRef)) (pins : List PinRef)
    → first_net q (nets ++ pins ∷ [])
    ≡ option_or (first_net q nets) (if has_pin q pins then Some (length nets) else None)
unfolding first_net
next_net q nets pins =
    push_place (has_pin q) nets pins 0
    ∙ (let s : 0 + length nets ≡ length nets = omega arith in
    ap (λ m. option_or (first_net q nets) (cond (has_pin q pins) (Some m) None)) s)

-- the pins that a map has, with one more
pub seen_more : (a : Option ℕ) (net : ℕ) (is : Bool) → is_some (option_or a (if is then Some net else None))
    ≡ (is_some a || is)
seen_more None net true = refl
seen_more None net false = refl
seen_more (Some x) net is = refl

once_more : (ps : List PinRef) (p : PinRef) → each_once (ps ++ p ∷ []) ≡ with_pin (each_once ps) p
unfolding each_once
once_more ps p = fold-append with_pin [] ps (p ∷ [])

has_more : (q p : PinRef) (ps : List PinRef) → has_pin q (ps ++ p ∷ []) ≡ (has_pin q ps || is_pin q p)
has_more q p ps = list_any-append (is_pin q) ps (p ∷ []) ∙ ap (λ b. has_pin q ps || b) (or_false (is_pin q p))

left_of : (has : Bool) (once more : List PinRef) → has ≡ false → more ≡ (if has then once else more)
left_of true once more e = absurd (cc)
left_of false once more e = refl

kept_of : (has : Bool) (once more : List PinRef) → has ≡ true → once ≡ (if has then once else more)
kept_of true once more e = refl
kept_of false once more e = absurd (cc)

-- one more pin of a list, which isn't there yet
pub new_pin : (pins once more : List PinRef) (i : ℕ) (d : PinRef) → i < length pins → once ≡ each_once (take i pins)
    → has_pin (get_or pins i d) once ≡ false → more ≡ once ++ get_or pins i d ∷ []
    → more ≡ each_once (take (i + 1) pins)
new_pin pins once more i d h e f g =
    g
    ∙ left_of (has_pin (get_or pins i d) once) once (once ++ get_or pins i d ∷ []) f
    ∙ ap (λ o. with_pin o (get_or pins i d)) e
    ∙ sym (once_more (take i pins) (get_or pins i d))
    ∙ sym (ap each_once (take_more pins i d h))

-- one that is there
pub old_pin : (pins once : List PinRef) (i : ℕ) (d : PinRef) → i < length pins → once ≡ each_once (take i pins)
    → has_pin (get_or pins i d) once ≡ true → once ≡ each_once (take (i + 1) pins)
old_pin pins once i d h e f =
    kept_of (has_pin (get_or pins i d) once) once (once ++ get_or pins i d ∷ []) f
    ∙ ap (λ o. with_pin o (get_or pins i d)) e
    ∙ sym (once_more (take i pins) (get_or pins i d))
    ∙ sym (ap each_once (take_more pins i d h))

-- what a set has with one more pin
pub has_next : (q p : PinRef) (once more : List PinRef) (old new : Option ℕ) (net : ℕ) → is_some old ≡ has_pin q once
    → new ≡ option_or old (if is_pin q p then Some net else None) → more ≡ once ++ p ∷ [] → is_some new ≡ has_pin q more
has_next q p once more old new net e f g = ap is_some f ∙ seen_more old net (is_pin q p) ∙ ap (λ b. b || is_pin q p) e
    ∙ sym (has_more q p once) ∙ sym (ap (has_pin q) g)

-- one more net of a list
pub net_behind : {N : Type 0} (f : N → List PinRef) (nets : List N) (k : ℕ) (x : N) (pins : List PinRef) (q : PinRef)
    (old new : Option ℕ) → k < length nets → x ≡ get_or nets k x → pins ≡ f x → old ≡ first_net q (map f (take k nets))
    → new ≡ option_or old (if has_pin q pins then Some k else None) → new ≡ first_net q (map f (take (k + 1) nets))
net_behind f nets k x pins q old new h is e o n =
    let n_is : k ≡ length (map f (take k nets)) =
    sym (length-map (take k nets) f ∙ length-take-le k nets (omega arith)) in
    n
    ∙ ap (λ a. option_or a (if has_pin q pins then Some k else None)) o
    ∙ ap (λ m. option_or (first_net q (map f (take k nets))) (if has_pin q pins then Some m else None)) n_is
    ∙ ap (λ ps. option_or (first_net q (map f (take k nets))) (if has_pin q ps then Some (length (map f (take k nets)))
    else None)) e
    ∙ sym (next_net q (map f (take k nets)) (f x))
    ∙ ap (first_net q) (sym (map-append f (take k nets) (x ∷ [])) ∙ ap (λ y. map f (take k nets ++ y ∷ [])) is
    ∙ sym (ap (map f) (take_more nets k x h)))

-- the pins of nets that were read
pub read_pins : (nm : ℕ) (lib : Library) (placing : Placing) (classes ts : List Tree)
    → pins_of (map (net_of nm lib placing classes) ts) ≡ map (net_pins lib placing) ts
unfolding net_of
read_pins nm lib placing classes [] = refl
read_pins nm lib placing classes (t ∷ ts) =
    ap (λ rest. net_pins lib placing t ∷ rest) (read_pins nm lib placing classes ts)
