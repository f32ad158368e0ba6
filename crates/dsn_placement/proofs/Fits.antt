-- Placed copper fits where the copper of the library does.
use Rattle.std.proofs.Common.{◌≡◌, ◌≤◌, ◌^◌, ◌∙◌, ap, sym, subst, ℕ, suc, cond, true, List, [], ◌∷◌, Option, Some, None}
use Rattle.std.proofs.Common.{length, refl, arith}
use Rattle.std.specs.Prelude.{All, IfSome, is_some, nat_le, slice_get, unsigned_abs}
use Rattle.std.specs.Option.{IsSomeAnd, option_map, option_map_or}
use Rattle.std.proofs.lemmas.Bool.{and_parts, leb-true}
use Rattle.std.proofs.lemmas.Option.{cond_some, same_Some}
use Rattle.std.proofs.lemmas.List.Elements.{All-nil, All-cons, All-head, All-tail}
use Rattle.geo_kernel.specs.declared.point.Point.{Point}
use Rattle.geo_kernel.specs.declared.spine.Spine.{Spine}
use Rattle.geo_kernel.specs.declared.spine.Spine.TheVariants.{Chain, Area}
use Rattle.geo_kernel.specs.Moved.{moved}
use Rattle.geo_kernel.specs.Plane.{IsWithin}
use Rattle.geo_kernel.specs.Spine.{IsSpineWithin, IsWellFormed}
use Rattle.geo_kernel.specs.Solid.{IsSimple}
use Rattle.dsn_shapes.specs.declared.parts.LayerShape.{LayerShape}
use Rattle.dsn_shapes.specs.declared.parts.BanShape.{BanShape}
use Rattle.dsn_shapes.specs.declared.parts.ImagePin.{ImagePin}
use Rattle.dsn_shapes.specs.declared.parts.Stack.{Stack}
use Rattle.dsn_shapes.specs.Fits.{IsPlainShape, IsShapeFit}
use Rattle.dsn_placement.specs.declared.seat.Seat.{Seat}
use Rattle.dsn_placement.specs.declared.seat.Stand.{Stand}
use Rattle.dsn_placement.specs.Placed.{flipped, is_near}
use Rattle.dsn_placement.specs.Copper.{all_or_none, ban_copper, bare_seat, in_image}
use Rattle.dsn_placement.specs.Copper.{layers_at, on_layers, pin_centre, pin_copper, pin_seat}
use Rattle.dsn_placement.specs.Copper.{placed_shape, placed_spine, seat_point, stack_shapes, with_first}
use Rattle.pcb_model.proofs.Within.{All-at}

-- ---- lists of what is there for each
record Firsts {X : Type 0} (o : Option X) (os : Option (List X)) (xs : List X) : Type 0 where
  head : X
  rest : List X
  head_is : o ≡ Some head
  rest_is : os ≡ Some rest
  whole_is : head ∷ rest ≡ xs

firsts : {X : Type 0} (o : Option X) (os : Option (List X)) (xs : List X) → with_first o os ≡ Some xs → Firsts o os xs
firsts None os xs e = absurd (cc)
firsts (Some x) None xs e = absurd (cc)
firsts (Some x) (Some rest) xs e =
    record { head = x; rest = rest; head_is = refl; rest_is = refl; whole_is = same_Some (x ∷ rest) xs e }

-- what holds of each of some, and what it gives for each that is placed
each_placed : {X Y : Type 0} (f : X → Option Y) (P : X → Type 0) (Q : Y → Type 0)
    → ((x : X) (y : Y) → P x → f x ≡ Some y → Q y) → (xs : List X) (ys : List Y) → All P xs → all_or_none f xs ≡ Some ys
    → All Q ys
each_placed f P Q h [] ys a e = subst (All Q) (same_Some [] ys e) (All-nil Q)
each_placed f P Q h (x ∷ xs) ys a e =
    let s = firsts (f x) (all_or_none f xs) ys e in
    subst (All Q) s.whole_is
    (All-cons Q s.head s.rest (h x s.head (All-head P x xs a) s.head_is)
    (each_placed f P Q h xs s.rest (All-tail P x xs a) s.rest_is))

same_count : {X Y : Type 0} (f : X → Option Y) (xs : List X) (ys : List Y) → all_or_none f xs ≡ Some ys
    → length ys ≡ length xs
same_count f [] ys e = ap length (sym (same_Some [] ys e))
same_count f (x ∷ xs) ys e =
    let s = firsts (f x) (all_or_none f xs) ys e in
    ap length (sym s.whole_is) ∙ ap suc (same_count f xs s.rest s.rest_is)

-- ---- points
near_within : (q p : Point) → cond (is_near q) (Some q) None ≡ Some p → IsWithin (2 ^ 29) p
near_within q p e =
    let c = cond_some (is_near q) q p e in
    let n = and_parts (nat_le (unsigned_abs q.x) (2 ^ 29)) (nat_le (unsigned_abs q.y) (2 ^ 29)) c.0 in
    subst (IsWithin (2 ^ 29)) c.1 (leb-true (unsigned_abs q.x) (2 ^ 29) n.0, leb-true (unsigned_abs q.y) (2 ^ 29) n.1)

pub point_within : (seat : Seat) (p q : Point) → seat_point seat p ≡ Some q → IsWithin (2 ^ 29) q
unfolding seat_point
point_within seat p q e =
    near_within (moved seat.stand.at
    (flipped seat.stand.back seat.stand.flip_last seat.stand.angle (in_image seat.pin p))) q e

-- the place of a pin is within the plane
pub centre_within : (stand : Stand) (pin : ImagePin) (q : Point) → pin_centre stand pin ≡ Some q → IsWithin (2 ^ 29) q
unfolding pin_centre
centre_within stand pin q e = point_within (bare_seat stand) pin.at q e

abbrev IsAny : {X : Type 0} → X → Type 0
IsAny x = Unit {0}

any_all : {X : Type 0} (xs : List X) → All IsAny xs
any_all xs = λ k d l. tt

points_within : (seat : Seat) (ps qs : List Point) → all_or_none (seat_point seat) ps ≡ Some qs
    → All (IsWithin (2 ^ 29)) qs
points_within seat ps qs e =
    each_placed (seat_point seat) IsAny (IsWithin (2 ^ 29)) (λ p q h f. point_within seat p q f) ps qs (any_all ps) e

-- ---- spines
record IsSpineFit (s : Spine) : Type 0 where
  well_formed : IsWellFormed s
  within : IsSpineWithin (2 ^ 29) s

record Mapped {X Y : Type 0} (f : X → Y) (o : Option X) (y : Y) : Type 0 where
  from : X
  from_is : o ≡ Some from
  to_is : f from ≡ y

mapped : {X Y : Type 0} (f : X → Y) (o : Option X) (y : Y) → option_map f o ≡ Some y → Mapped f o y
mapped f None y e = absurd (cc)
mapped f (Some x) y e = record { from = x; from_is = refl; to_is = same_Some (f x) y e }

chain_fit : (seat : Seat) (ps qs : List Point) → IsWellFormed (Chain ps) → all_or_none (seat_point seat) ps ≡ Some qs
    → IsSpineFit (Chain qs)
chain_fit seat ps qs w e = let n = same_count (seat_point seat) ps qs e in
    record { well_formed = omega arith; within = points_within seat ps qs e }

loop_fit : (seat : Seat) (ps qs : List Point) → 3 ≤ length ps → all_or_none (seat_point seat) ps ≡ Some qs
    → 3 ≤ length qs
loop_fit seat ps qs w e = let n = same_count (seat_point seat) ps qs e in omega arith

area_fit : (seat : Seat) (loops placed : List (List Point)) → IsWellFormed (Area loops)
    → all_or_none (all_or_none (seat_point seat)) loops ≡ Some placed → IsSpineFit (Area placed)
area_fit seat loops placed w e =
    let n = same_count (all_or_none (seat_point seat)) loops placed e in
    record {
      well_formed = (
        omega arith,
        each_placed (all_or_none (seat_point seat)) (λ loop. 3 ≤ length loop) (λ loop. 3 ≤ length loop)
            (λ ps qs h f. loop_fit seat ps qs h f) loops placed w.1 e,
      );
      within = each_placed (all_or_none (seat_point seat)) IsAny (All (IsWithin (2 ^ 29)))
          (λ ps qs h f. points_within seat ps qs f) loops placed (any_all loops) e;
    }

spine_fit : (seat : Seat) (s t : Spine) → IsWellFormed s → placed_spine seat s ≡ Some t → IsSpineFit t
unfolding placed_spine
spine_fit seat (Chain ps) t w e = let m = mapped Chain (all_or_none (seat_point seat) ps) t e in
    subst IsSpineFit m.to_is (chain_fit seat ps m.from w m.from_is)
spine_fit seat (Area loops) t w e = let m = mapped Area (all_or_none (all_or_none (seat_point seat)) loops) t e in
    subst IsSpineFit m.to_is (area_fit seat loops m.from w m.from_is)

one_loop : (loops placed : List (List Point)) → length placed ≡ length loops → IsSimple (Area loops)
    → IsSimple (Area placed)
one_loop [] placed n h = absurd h
one_loop (a ∷ b ∷ loops) placed n h = absurd h
one_loop (a ∷ []) [] n h = absurd (omega arith)
one_loop (a ∷ []) (b ∷ []) n h = tt
one_loop (a ∷ []) (b ∷ c ∷ placed) n h = absurd (omega arith)

spine_simple : (seat : Seat) (s t : Spine) → IsSimple s → placed_spine seat s ≡ Some t → IsSimple t
unfolding placed_spine
spine_simple seat (Chain ps) t h e = let m = mapped Chain (all_or_none (seat_point seat) ps) t e in
    subst IsSimple m.to_is tt
spine_simple seat (Area loops) t h e =
    let m = mapped Area (all_or_none (all_or_none (seat_point seat)) loops) t e in
    subst IsSimple m.to_is (one_loop loops m.from (same_count (all_or_none (seat_point seat)) loops m.from m.from_is) h)

-- ---- shapes
pub shape_fit : (n : ℕ) (seat : Seat) (s t : LayerShape) → IsShapeFit s → placed_shape n seat s ≡ Some t → IsShapeFit t
unfolding placed_shape
shape_fit n seat s t h e =
    let m = mapped (on_layers (layers_at n seat.stand.back s.layers) s.width) (placed_spine seat s.spine) t e in
    let f = spine_fit seat s.spine m.from h.well_formed m.from_is in
    subst IsShapeFit m.to_is (record { well_formed = f.well_formed; within = f.within; width_within = h.width_within })

pub shape_plain : (n : ℕ) (seat : Seat) (s t : LayerShape) → IsPlainShape s → placed_shape n seat s ≡ Some t
    → IsPlainShape t
unfolding placed_shape
shape_plain n seat s t h e =
    let m = mapped (on_layers (layers_at n seat.stand.back s.layers) s.width) (placed_spine seat s.spine) t e in
    subst IsPlainShape m.to_is (spine_simple seat s.spine m.from h m.from_is)

-- ---- pins and keepouts
pub pin_fit : (n : ℕ) (stand : Stand) (stacks : List Stack) (pin : ImagePin) (shapes : List LayerShape)
    → All IsShapeFit (stack_shapes stacks pin) → pin_copper n stand stacks pin ≡ Some shapes → All IsShapeFit shapes
unfolding pin_copper
pin_fit n stand stacks pin shapes a e =
    each_placed (placed_shape n (pin_seat stand pin)) IsShapeFit IsShapeFit
    (λ s t h f. shape_fit n (pin_seat stand pin) s t h f) (stack_shapes stacks pin) shapes a e

pub pin_plain : (n : ℕ) (stand : Stand) (stacks : List Stack) (pin : ImagePin) (shapes : List LayerShape)
    → All IsPlainShape (stack_shapes stacks pin) → pin_copper n stand stacks pin ≡ Some shapes → All IsPlainShape shapes
unfolding pin_copper
pin_plain n stand stacks pin shapes a e =
    each_placed (placed_shape n (pin_seat stand pin)) IsPlainShape IsPlainShape
    (λ s t h f. shape_plain n (pin_seat stand pin) s t h f) (stack_shapes stacks pin) shapes a e

pub ban_fit : (n : ℕ) (stand : Stand) (ban : BanShape) (shape : LayerShape) → IsShapeFit ban.shape
    → ban_copper n stand ban ≡ Some shape → IsShapeFit shape
unfolding ban_copper
ban_fit n stand ban shape h e = shape_fit n (bare_seat stand) ban.shape shape h e

-- what holds of the shapes of all padstacks holds of a pin's
shapes_at : (P : LayerShape → Type 0) (o : Option Stack) → IfSome o (λ (s : Stack). All P s.shapes)
    → All P (option_map_or (λ (s : Stack). s.shapes) o [])
shapes_at P None h = All-nil P
shapes_at P (Some s) h = h

pub stack_shapes_all : (P : LayerShape → Type 0) (stacks : List Stack) (pin : ImagePin)
    → All (λ (s : Stack). All P s.shapes) stacks → All P (stack_shapes stacks pin)
stack_shapes_all P stacks pin a =
    shapes_at P (slice_get stacks pin.stack) (All-at (λ (s : Stack). All P s.shapes) stacks pin.stack a)

-- ---- images that have their place on the board
some_and : {X : Type 0} (o : Option X) (P : X → Type 0) → is_some o ≡ true → ((x : X) → o ≡ Some x → P x)
    → IsSomeAnd o P
some_and None P h k = absurd (cc)
some_and (Some x) P h k = k x refl

-- a pin has its place within the plane, and copper that fits, each shape a chain or an area of one loop
pub record IsPinLaid (n : ℕ) (stand : Stand) (stacks : List Stack) (pin : ImagePin) : Type 0 where
  pub centre : IsSomeAnd (pin_centre stand pin) (IsWithin (2 ^ 29))
  pub copper : IsSomeAnd (pin_copper n stand stacks pin) (All IsShapeFit)
  pub plain : IsSomeAnd (pin_copper n stand stacks pin) (All IsPlainShape)
