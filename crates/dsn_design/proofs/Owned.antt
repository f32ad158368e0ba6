-- A pin of a design has a net exactly where the net names it.
use Rattle.std.proofs.Common.{◌≡◌, ◌≢◌, ◌<◌, ◌≤◌, ◌+◌, ◌-◌, ◌^◌, ◌∙◌, ap, sym, subst, ℕ, zero, suc, cond, Bool, true}
use Rattle.std.proofs.Common.{false, List, [], ◌∷◌, Option, Some, None, length, get_or, map, refl, arith}
use Rattle.std.specs.Prelude.{◌==◌, ◌↔◌, All, AllPairs, Contains, slice_get}
use Rattle.std.specs.List.{position_from}
use Rattle.std.specs.Option.{IsSomeAnd, option_map, option_map_or}
use Rattle.std.proofs.lemmas.Bool.{and_from, and_parts, cond-false, cond-true, eq-eqb, eqb-true, false_from_ne_true}
use Rattle.std.proofs.lemmas.List.{get_or-map, get_or_default, length-map}
use Rattle.std.proofs.lemmas.List.Elements.{All-contains, All-weaker}
use Rattle.std.proofs.lemmas.List.Folds.{Any-from_list_any, list_any_at}
use Rattle.std.proofs.lemmas.Option.{get_or_from_slice_get, same_Some, slice_get-map, slice_get_within}
use Rattle.pcb_model.specs.declared.design.Padstack.{Padstack}
use Rattle.pcb_model.specs.declared.design.Pin.{Pin}
use Rattle.dsn_shapes.specs.declared.parts.Image.{Image}
use Rattle.dsn_shapes.specs.declared.parts.Library.{Library}
use Rattle.dsn_shapes.specs.declared.parts.Network.{Network}
use Rattle.dsn_shapes.specs.declared.parts.Place.{Place}
use Rattle.dsn_shapes.specs.declared.parts.PinRef.{PinRef}
use Rattle.dsn_shapes.specs.declared.parts.Placing.{Placing}
use Rattle.dsn_shapes.specs.declared.parts.ReadNet.{ReadNet}
use Rattle.dsn_shapes.proofs.Fits.{pairs_to_map}
use Rattle.dsn_network.specs.Nets.{first_net, has_pin, is_pin}
use Rattle.dsn_network.specs.Owners.{pins_of}
use Rattle.dsn_network.specs.Sound.{IsImagePin, IsNetworkSound, IsPlacedPin, IsReadNetSound}
use Rattle.dsn_shapes.specs.Names.{place_index}
use Rattle.dsn_design.specs.declared.parts.Parts.{Parts}
use Rattle.dsn_design.specs.Counts.{counted_number, counted_pins, first_pins}
use Rattle.dsn_design.specs.Pins.{image_pins, is_placed, net_of_pin, pin_ref}
use Rattle.dsn_design.proofs.Numbered.{nets_are, number_is, ref_is_there, refs_from}

-- ---- the first place at which a test passes
record Found {X : Type 0} (test : X → Bool) (xs : List X) (i n : ℕ) : Type 0 where
  k : ℕ
  at : n ≡ i + k
  x : X
  there : slice_get xs k ≡ Some x
  passes : test x ≡ true

found_if : {X : Type 0} (b : Bool) (test : X → Bool) (x : X) (xs : List X) (i n : ℕ) → test x ≡ b
    → (position_from test (i + 1) xs ≡ Some n → Found test xs (i + 1) n)
    → cond b (Some i) (position_from test (i + 1) xs) ≡ Some n → Found test (x ∷ xs) i n
found_if true test x xs i n t behind e = let f : i ≡ n = same_Some i n e in
    record { k = 0; at = omega arith; x = x; there = refl; passes = t }
found_if false test x xs i n t behind e =
    let f = behind e in record { k = suc f.k; at = omega (arith, f.at); x = f.x; there = f.there; passes = f.passes }

found_at : {X : Type 0} (test : X → Bool) (xs : List X) (i n : ℕ) → position_from test i xs ≡ Some n → Found test xs i n
found_at test [] i n e = absurd (cc)
found_at test (x ∷ xs) i n e = found_if (test x) test x xs i n refl (found_at test xs (i + 1) n) e

pub first_here : {X : Type 0} (test : X → Bool) (xs : List X) (i k : ℕ) (x : X) → slice_get xs k ≡ Some x
    → test x ≡ true → ((j : ℕ) (y : X) → j < k → slice_get xs j ≡ Some y → test y ≡ false)
    → position_from test i xs ≡ Some (i + k)
first_here test [] i k x e p before = absurd (cc)
first_here test (y ∷ ys) i zero x e p before =
    let s : y ≡ x = same_Some y x e in
    let n : i ≡ i + 0 = omega arith in
    cond-true (test y) (Some i) (position_from test (i + 1) ys) (ap test s ∙ p) ∙ ap (λ (m : ℕ). Some m) n
first_here test (y ∷ ys) i (suc k) x e p before =
    let n : i + 1 + k ≡ i + suc k = omega arith in
    cond-false (test y) (Some i) (position_from test (i + 1) ys) (before 0 y (omega arith) refl)
    ∙ first_here test ys (i + 1) k x e p (λ j z l f. before (suc j) z (omega arith) f)
    ∙ ap (λ (m : ℕ). Some m) n

-- ---- pins among pins
pub same_pin : (p q : PinRef) → is_pin p q ≡ true → p ≡ q
same_pin p q e =
    let b = and_parts (p.place == q.place) (p.pin == q.pin) e in
    ap (λ k. pin_ref k p.pin) (eqb-true p.place q.place b.0) ∙ ap (λ k. pin_ref q.place k) (eqb-true p.pin q.pin b.1)

pub is_itself : (p : PinRef) → is_pin p p ≡ true
is_itself p = and_from (p.place == p.place) (p.pin == p.pin) (eq-eqb p.place p.place refl) (eq-eqb p.pin p.pin refl)

has_from : (p : PinRef) (ps : List PinRef) → Contains ps p → has_pin p ps ≡ true
has_from p ps c = list_any_at (is_pin p) ps c.0 p c.1 (subst (λ q. is_pin p q ≡ true) (sym c.2) (is_itself p))

has_then : (p : PinRef) (ps : List PinRef) → has_pin p ps ≡ true → Contains ps p
has_then p ps h =
    let a = Any-from_list_any (is_pin p) ps h in
    (a.0, a.2, get_or_default ps a.0 p a.1 a.2 ∙ a.3 ∙ sym (same_pin p a.1 a.4))

has_none : (p : PinRef) (ps : List PinRef) → (Contains ps p → ⊥) → has_pin p ps ≡ false
has_none p ps absent = false_from_ne_true (has_pin p ps) (λ h. absent (has_then p ps h))

-- ---- what is made of an option
pub record Mapped {X Y : Type 0} (f : X → Y) (o : Option X) (y : Y) : Type 0 where
  pub from : X
  pub from_is : o ≡ Some from
  pub to_is : f from ≡ y

pub mapped : {X Y : Type 0} (f : X → Y) (o : Option X) (y : Y) → option_map f o ≡ Some y → Mapped f o y
mapped f None y e = absurd (cc)
mapped f (Some x) y e = record { from = x; from_is = refl; to_is = same_Some (f x) y e }

pair_at : {X : Type 0} (R : X → X → Type 0) (xs : List X) (i j : ℕ) (x y : X) → AllPairs R xs → i < j
    → slice_get xs i ≡ Some x → slice_get xs j ≡ Some y → R x y
pair_at R xs i j x y h l e f =
    subst (λ u. R u y) (get_or_from_slice_get xs i x x e)
    (subst (λ v. R (get_or xs i x) v) (get_or_from_slice_get xs j y x f) (h i j x l (slice_get_within xs j y f)))

-- ---- nets and their pins
-- the pin is one of a placed component
abbrev pub IsPinThere : Library → List Place → PinRef → Type 0
IsPinThere lib places r =
    IsSomeAnd (slice_get places r.place) (λ (p : Place). (is_placed p ≡ true) × (r.pin < length (image_pins lib p)))

-- pins of placed components, which differ, and of which no two nets have one
pub record OwnPins (lib : Library) (places : List Place) (nets : List ReadNet) : Type 0 where
  pub few : length nets ≤ 2 ^ 32
  pub there : All (λ (n : ReadNet). All (IsPinThere lib places) n.pins) nets
  pub once : All (λ (n : ReadNet). AllPairs (λ (a b : PinRef). a ≢ b) n.pins) nets
  pub apart : AllPairs (λ (a b : ReadNet). (r : PinRef) → Contains a.pins r → Contains b.pins r → ⊥) nets

abbrev net_pins : ReadNet → List PinRef
net_pins n = n.pins

pub all_at : {X : Type 0} (P : X → Type 0) (xs : List X) (i : ℕ) (x : X) → All P xs → slice_get xs i ≡ Some x → P x
all_at P xs i x h e = subst P (get_or_from_slice_get xs i x x e) (h i x (slice_get_within xs i x e))

-- the net of a pin is the one that names it
owner_is : (nets : List ReadNet) (n : ℕ) (net : ReadNet) (r : PinRef) → length nets ≤ 2 ^ 32
    → AllPairs (λ (a b : ReadNet). (r : PinRef) → Contains a.pins r → Contains b.pins r → ⊥) nets
    → slice_get nets n ≡ Some net → Contains net.pins r → net_of_pin nets r ≡ Some n
unfolding net_of_pin first_net
owner_is nets n net r few apart e c =
    let here : slice_get (pins_of nets) n ≡ Some net.pins =
    slice_get-map net_pins nets n ∙ ap (option_map net_pins) e in
    let place : position_from (has_pin r) 0 (pins_of nets) ≡ Some (0 + n) =
    first_here (has_pin r) (pins_of nets) 0 n net.pins here (has_from r net.pins c)
    (λ j ps l f. let m = mapped net_pins (slice_get nets j) ps (sym (slice_get-map net_pins nets j) ∙ f) in
    has_none r ps
    (λ d. pair_at (λ (a b : ReadNet). (r : PinRef) → Contains a.pins r → Contains b.pins r → ⊥) nets j n m.from net
    apart l m.from_is e r (subst (λ qs. Contains qs r) (sym m.to_is) d) c)) in
    let below = slice_get_within nets n net e in
    let same : place_index (0 + n) ≡ n = omega arith in
    ap (option_map place_index) place ∙ ap (λ (m : ℕ). Some m) same

owner_then : (nets : List ReadNet) (n : ℕ) (net : ReadNet) (r : PinRef) → length nets ≤ 2 ^ 32
    → slice_get nets n ≡ Some net → net_of_pin nets r ≡ Some n → Contains net.pins r
unfolding net_of_pin first_net
owner_then nets n net r few e h =
    let m = mapped place_index (first_net r (pins_of nets)) n h in
    let f = found_at (has_pin r) (pins_of nets) 0 m.from m.from_is in
    let g = mapped net_pins (slice_get nets f.k) f.x (sym (slice_get-map net_pins nets f.k) ∙ f.there) in
    let below = slice_get_within nets f.k g.from g.from_is in
    let same : f.k ≡ n = omega (arith, f.at, m.to_is) in
    let net_is : g.from ≡ net = same_Some g.from net (sym g.from_is ∙ ap (slice_get nets) same ∙ e) in
    subst (λ (k : ReadNet). Contains k.pins r) net_is
    (subst (λ qs. Contains qs r) (sym g.to_is) (has_then r f.x f.passes))

-- ---- pins by number
pub there_at : (lib : Library) (places : List Place) (r : PinRef) (o : Option Place) → slice_get places r.place ≡ o
    → IsSomeAnd o (λ (p : Place). (is_placed p ≡ true) × (r.pin < length (image_pins lib p)))
    → (i : ℕ) × (slice_get (refs_from lib 0 places) i ≡ Some r)
there_at lib places r None e h = absurd h
there_at lib places r (Some p) e h = ref_is_there lib 0 places r.place p r e h.0 (omega arith) h.1

ref_number : (lib : Library) (places : List Place) (r : PinRef) → length (refs_from lib 0 places) ≤ 2 ^ 32 - 1
    → IsPinThere lib places r → slice_get (refs_from lib 0 places) (counted_number (first_pins lib places) r) ≡ Some r
ref_number lib places r few h =
    let w = there_at lib places r (slice_get places r.place) refl h in
    ap (slice_get (refs_from lib 0 places)) (number_is lib places w.0 r few w.1) ∙ w.1

same_number : (lib : Library) (places : List Place) (r s : PinRef) → length (refs_from lib 0 places) ≤ 2 ^ 32 - 1
    → IsPinThere lib places r → IsPinThere lib places s → counted_number (first_pins lib places) r
    ≡ counted_number (first_pins lib places) s → r ≡ s
same_number lib places r s few h k e =
    same_Some r s (sym (ref_number lib places r few h) ∙ ap (slice_get (refs_from lib 0 places)) e
    ∙ ref_number lib places s few k)

pub numbers_differ : (lib : Library) (places : List Place) (pins : List PinRef)
    → length (refs_from lib 0 places) ≤ 2 ^ 32 - 1 → All (IsPinThere lib places) pins
    → AllPairs (λ (a b : PinRef). a ≢ b) pins
    → AllPairs (λ (i j : ℕ). i ≢ j) (map (counted_number (first_pins lib places)) pins)
numbers_differ lib places pins few there once =
    pairs_to_map (λ (i j : ℕ). i ≢ j) (counted_number (first_pins lib places)) pins
    (λ i j d l m e.
    once i j d l m
    (same_number lib places (get_or pins i d) (get_or pins j d) few (there i d (omega arith)) (there j d m) e))

some_net : (o : Option Pin) (m : Option ℕ) → option_map (λ (p : Pin). p.net) o ≡ Some m
    → IsSomeAnd o (λ (p : Pin). p.net ≡ m)
some_net None m e = absurd (cc)
some_net (Some p) m e = same_Some p.net m e

net_some : (o : Option Pin) (m : Option ℕ) → IsSomeAnd o (λ (p : Pin). p.net ≡ m) → option_map (λ (p : Pin). p.net) o
    ≡ Some m
net_some None m h = absurd h
net_some (Some p) m h = ap (λ (k : Option ℕ). Some k) h

contains_made : {X : Type 0} (f : X → ℕ) (xs : List X) (x : X) → Contains xs x → Contains (map f xs) (f x)
contains_made f xs x c = (c.0, omega (arith, c.1, length-map xs f), get_or-map f xs c.0 x (f x) c.1 ∙ ap f c.2)

record Made {X : Type 0} (f : X → ℕ) (xs : List X) (i : ℕ) : Type 0 where
  x : X
  there : Contains xs x
  made : f x ≡ i

made_of : {X : Type 0} (f : X → ℕ) (xs : List X) (d : X) (i : ℕ) → Contains (map f xs) i → Made f xs i
made_of f xs d i c =
    let l : c.0 < length xs = omega (arith, c.1, length-map xs f) in
    record {
      x = get_or xs c.0 d;
      there = (c.0, l, get_or_default xs c.0 (get_or xs c.0 d) d l);
      made = sym (get_or-map f xs c.0 d i l) ∙ c.2;
    }

-- the pins of net n by number: just those that have the net
pub net_pins_exact : (parts : Parts) (stacks : List Padstack) → length parts.placing.places ≤ 2 ^ 32 - 1
    → length (refs_from parts.library 0 parts.placing.places) ≤ 2 ^ 32 - 1
    → OwnPins parts.library parts.placing.places parts.network.nets → (n : ℕ) (net : ReadNet)
    → slice_get parts.network.nets n ≡ Some net → (i : ℕ)
    → Contains (map (counted_number (first_pins parts.library parts.placing.places)) net.pins) i
    ↔ IsSomeAnd (slice_get (counted_pins parts stacks) i) (λ (p : Pin). p.net ≡ Some n)
net_pins_exact parts stacks few_places few own n net e i =
    let lib = parts.library in
    let places = parts.placing.places in
    let nets = parts.network.nets in
    let refs = refs_from lib 0 places in
    let number = counted_number (first_pins lib places) in
    let same : option_map (λ (p : Pin). p.net) (slice_get (counted_pins parts stacks) i)
    ≡ option_map (net_of_pin nets) (slice_get refs i) =
    sym (slice_get-map (λ (p : Pin). p.net) (counted_pins parts stacks) i)
    ∙ ap (λ (ns : List (Option ℕ)). slice_get ns i) (nets_are parts stacks few_places few)
    ∙ slice_get-map (net_of_pin nets) refs i in
    let valid : All (IsPinThere lib places) net.pins =
    all_at (λ (k : ReadNet). All (IsPinThere lib places) k.pins) nets n net own.there e in (
      (λ c. let m = made_of number net.pins (pin_ref 0 0) i c in
          let there : IsPinThere lib places m.x = All-contains (IsPinThere lib places) net.pins m.x valid m.there in
          let at : slice_get refs i ≡ Some m.x =
          ap (slice_get refs) (sym m.made) ∙ ref_number lib places m.x few there in
          some_net (slice_get (counted_pins parts stacks) i) (Some n)
          (same ∙ ap (option_map (net_of_pin nets)) at ∙ ap (λ (k : Option ℕ). Some k)
          (owner_is nets n net m.x own.few own.apart e m.there))),
      (λ h. let m =
          mapped (net_of_pin nets) (slice_get refs i) (Some n)
          (sym same ∙ net_some (slice_get (counted_pins parts stacks) i) (Some n) h) in
          let named : Contains net.pins m.from = owner_then nets n net m.from own.few e m.to_is in
          subst (Contains (map number net.pins)) (number_is lib places i m.from few m.from_is)
          (contains_made number net.pins m.from named)),
    )

-- ---- what a sound network gives
pins_below : (n : ℕ) (o : Option Image) → IsSomeAnd o (λ (i : Image). n < length i.pins)
    → n < length (option_map_or (λ (i : Image). i.pins) o [])
pins_below n None h = absurd h
pins_below n (Some i) h = h

pin_there : (lib : Library) (r : PinRef) (o : Option Place)
    → IsSomeAnd o (λ (p : Place). (is_placed p ≡ true) × IsImagePin lib r p)
    → IsSomeAnd o (λ (p : Place). (is_placed p ≡ true) × (r.pin < length (image_pins lib p)))
pin_there lib r None h = absurd h
pin_there lib r (Some p) h = (h.0, pins_below r.pin (slice_get lib.images p.image) h.1)

pub own_pins : (lib : Library) (placing : Placing) (network : Network) → IsNetworkSound lib placing network
    → OwnPins lib placing.places network.nets
own_pins lib placing network h = record {
  few = omega (arith, h.few);
  there = All-weaker (IsReadNetSound lib placing (length network.classes))
      (λ (n : ReadNet). All (IsPinThere lib placing.places) n.pins)
      (λ n k. All-weaker (IsPlacedPin lib placing) (IsPinThere lib placing.places)
      (λ r t. pin_there lib r (slice_get placing.places r.place) t) n.pins k.pins) network.nets h.nets;
  once = All-weaker (IsReadNetSound lib placing (length network.classes))
      (λ (n : ReadNet). AllPairs (λ (a b : PinRef). a ≢ b) n.pins) (λ n k. k.once) network.nets h.nets;
  apart = h.apart;
}
