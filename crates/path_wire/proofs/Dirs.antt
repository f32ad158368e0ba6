-- Steps lead straight to the next line, on one layer.
use Rattle.std.proofs.Common.{◌≡◌, ℕ, ℤ, pos, negsuc, ◌+◌, ◌-◌, ◌*◌, ◌/◌, ◌%◌, ◌<◌, ◌+ℤ◌, ◌-ℤ◌, ◌*ℤ◌, ◌<ℤ◌, Bool, true}
use Rattle.std.proofs.Common.{false, cond, ◌==◌, nat_lt, Option, Some, None, List, [], ◌∷◌, length, Ordering, refl, sym}
use Rattle.std.proofs.Common.{ap, ◌∙◌, subst, arith, inl, inr, ◌⊎◌, unsigned_abs, true≢false}
use Rattle.std.specs.Prelude.{slice_index, slice_index_or}
use Rattle.std.specs.Ordering.{int_cmp, MatchOrdering}
use Rattle.std.specs.Cmp.{int_ranks}
use Rattle.std.specs.declared.cmp.Ordering.TheVariants.{Less}
use Rattle.std.specs.List.Sorted.{IsStrictlySortedBy}
use Rattle.std.proofs.lemmas.Int.{ints}
use Rattle.std.proofs.lemmas.Nat.{div-mul-add, mod-mul-add, mod_below}
use Rattle.std.proofs.lemmas.Map.Keys.{Less-from_sorted}
use Rattle.geo_kernel.specs.declared.point.Point.{Point}
use Rattle.geo_kernel.proofs.Ring.{ring, ◌⊕◌, ◌⊗◌, x0, x1, x2, x3}
use Rattle.pcb_model.specs.declared.design.Design.{Design}
use Rattle.route_lattice.specs.declared.moves.Move.{Move}
use Rattle.route_lattice.specs.declared.moves.Move.TheVariants as move
use Rattle.route_lattice.specs.Mesh.{Mesh, node_count, node_at, column, row, level, point_of, layer_of}
use Rattle.route_lattice.specs.Fits.{FitsDesign}
use Rattle.route_lattice.specs.Ways.{step_at}
use Rattle.route_lattice.proofs.Places.{width_positive, row_below}
use Rattle.path_wire.proofs.Bends.{IsBetween}
use Rattle.std.proofs.lemmas.Bool.{ltb-true}

-- ---- directions
abbrev pub along_x : ℕ → ℤ
along_x dir =
    cond (dir == 0) (pos 1) (cond (dir == 1) (negsuc 0) (cond (dir == 2) (pos 0) (cond (dir == 3) (pos 0)
    (cond (dir == 4) (pos 1) (cond (dir == 7) (pos 1) (negsuc 0))))))

abbrev pub along_y : ℕ → ℤ
along_y dir =
    cond (dir == 0) (pos 0) (cond (dir == 1) (pos 0) (cond (dir == 2) (pos 1) (cond (dir == 3) (negsuc 0)
    (cond (dir == 4) (pos 1) (cond (dir == 5) (pos 1) (negsuc 0))))))

-- q lies in the direction from p
pub record IsAhead (dir : ℕ) (p q : Point) : Type 0 where
  pub gap : ℕ
  pub some : 0 < gap
  pub x_is : q.x ≡ p.x +ℤ pos gap *ℤ along_x dir
  pub y_is : q.y ≡ p.y +ℤ pos gap *ℤ along_y dir

further : (a b c g h u : ℤ) → b ≡ a +ℤ g *ℤ u → c ≡ b +ℤ h *ℤ u → c ≡ a +ℤ (g +ℤ h) *ℤ u
further a b c g h u e f =
    f ∙ ap (λ (z : ℤ). z +ℤ h *ℤ u) e ∙ ring (a ∷ g ∷ h ∷ u ∷ []) ((x0 ⊕ x1 ⊗ x3) ⊕ x2 ⊗ x3) (x0 ⊕ (x1 ⊕ x2) ⊗ x3) tt

parted : (a b c g h u : ℤ) → b ≡ a +ℤ g *ℤ u → c ≡ b +ℤ h *ℤ u → (g +ℤ h) *ℤ b ≡ h *ℤ a +ℤ g *ℤ c
parted a b c g h u e f =
    ap (λ (z : ℤ). (g +ℤ h) *ℤ z) e
    ∙ ring (a ∷ g ∷ h ∷ u ∷ []) ((x1 ⊕ x2) ⊗ (x0 ⊕ x1 ⊗ x3)) (x2 ⊗ x0 ⊕ x1 ⊗ (x0 ⊕ (x1 ⊕ x2) ⊗ x3)) tt
    ∙ sym (ap (λ (z : ℤ). h *ℤ a +ℤ g *ℤ z) (further a b c g h u e f))

pub ahead_further : (dir : ℕ) (a b c : Point) → IsAhead dir a b → IsAhead dir b c → IsAhead dir a c
ahead_further dir a b c f g = record {
  gap = f.gap + g.gap;
  some = let h = f.some in omega arith;
  x_is = further a.x b.x c.x (pos f.gap) (pos g.gap) (along_x dir) f.x_is g.x_is;
  y_is = further a.y b.y c.y (pos f.gap) (pos g.gap) (along_y dir) f.y_is g.y_is;
}

pub ahead_between : (dir : ℕ) (a b c : Point) (f : IsAhead dir a b) (g : IsAhead dir b c) → IsBetween f.gap g.gap a b c
ahead_between dir a b c f g = record {
  some_p = f.some;
  some_r = g.some;
  x_is = parted a.x b.x c.x (pos f.gap) (pos g.gap) (along_x dir) f.x_is g.x_is;
  y_is = parted a.y b.y c.y (pos f.gap) (pos g.gap) (along_y dir) f.y_is g.y_is;
}

-- ---- lines ascend
less : (x y : ℤ) → int_cmp x y ≡ Less → x <ℤ y
less x y e = subst (λ (o : Ordering). MatchOrdering o (x <ℤ y) (x ≡ y) (y <ℤ x)) e (int_ranks x y)

line_above : (xs : List ℤ) (i j : ℕ) → IsStrictlySortedBy int_cmp xs → i < j → j < length xs
    → slice_index_or xs i (pos 0) <ℤ slice_index_or xs j (pos 0)
line_above xs i j s h k = less _ _ (Less-from_sorted int_cmp xs i j (pos 0) s h k)

gap_up : (a b : ℤ) → a <ℤ b → (g : ℕ) × (0 < g) × (b ≡ a +ℤ pos g *ℤ pos 1)
gap_up a b h = (unsigned_abs (b -ℤ a), omega (arith, ints), omega (arith, ints))

gap_down : (a b : ℤ) → b <ℤ a → (g : ℕ) × (0 < g) × (b ≡ a +ℤ pos g *ℤ negsuc 0)
gap_down a b h = (unsigned_abs (b -ℤ a), omega (arith, ints), omega (arith, ints))

gap_none : (a : ℤ) (g : ℕ) → a ≡ a +ℤ pos g *ℤ pos 0
gap_none a g = omega (arith, ints)

-- ---- the places of a node made of places
module _ (m : Mesh) (l j i : ℕ) (hj : j < length m.ys) (hi : i < length m.xs) where
  pub column_at : column m (node_at m l j i) ≡ i
  column_at = mod-mul-add (l * length m.ys + j) (length m.xs) i hi

  rows_at : node_at m l j i / length m.xs ≡ l * length m.ys + j
  rows_at = div-mul-add (l * length m.ys + j) (length m.xs) i hi

  pub row_at : row m (node_at m l j i) ≡ j
  row_at = ap (λ (n : ℕ). n % length m.ys) rows_at ∙ mod-mul-add l (length m.ys) j hj

  pub level_at : level m (node_at m l j i) ≡ l
  level_at = ap (λ (n : ℕ). n / length m.ys) rows_at ∙ div-mul-add l (length m.ys) j hj

  pub x_at : (point_of m (node_at m l j i)).x ≡ slice_index_or m.xs i (pos 0)
  x_at = ap (λ (n : ℕ). slice_index_or m.xs n (pos 0)) column_at

  pub y_at : (point_of m (node_at m l j i)).y ≡ slice_index_or m.ys j (pos 0)
  y_at = ap (λ (n : ℕ). slice_index_or m.ys n (pos 0)) row_at

  pub layer_at : layer_of m (node_at m l j i) ≡ slice_index m.layers l
  layer_at = ap (slice_index m.layers) level_at

-- ---- what a choice gives
pub chosen : {X : Type 0} (b : Bool) (x y z : X) → cond b x y ≡ z → ((b ≡ true) × (x ≡ z)) ⊎ ((b ≡ false) × (y ≡ z))
chosen true x y z e = inl (refl, e)
chosen false x y z e = inr (refl, e)

abbrev pub dir_in : Option (Move × ℕ) → ℕ
dir_in (Some (move.Step dir, to)) = dir
dir_in _ = 0

abbrev pub node_in : Option (Move × ℕ) → ℕ
node_in (Some (a, to)) = to
node_in None = 0

abbrev is_some : Option (Move × ℕ) → Bool
is_some (Some x) = true
is_some None = false

pub some_not_none : (x : Move × ℕ) → None ≡ Some x → ⊥
some_not_none x e = true≢false (sym (ap is_some e))

is_below : (a b : ℕ) → nat_lt a b ≡ true → a < b
is_below a b e = ltb-true a b e

-- ---- a step
pub record IsStraight (m : Mesh) (dir v w : ℕ) : Type 0 where
  pub ahead : IsAhead dir (point_of m v) (point_of m w)
  pub one_layer : layer_of m w ≡ layer_of m v

module _ (d : Design) (m : Mesh) (v : ℕ) (fits : FitsDesign d m) (there : v < node_count m) where
  i : ℕ
  i = v % length m.xs

  column_below : column m v < length m.xs
  column_below = mod_below v (length m.xs) (width_positive (length m.xs) (length m.layers * length m.ys) v there)

  height_below : row m v < length m.ys
  height_below = row_below (length m.xs) (length m.ys) (length m.layers) v there

  to_right : column m v + 1 < length m.xs → IsStraight m 0 v (node_at m (level m v) (row m v) (column m v + 1))
  to_right h =
      let g = gap_up _ _ (line_above m.xs (column m v) (column m v + 1) fits.xs_ascend (omega arith) h) in record {
        ahead = record {
          gap = g.0;
          some = g.1;
          x_is = x_at m (level m v) (row m v) (column m v + 1) height_below h
              ∙ g.2;
          y_is = y_at m (level m v) (row m v) (column m v + 1) height_below h ∙ gap_none _ g.0;
        };
        one_layer = layer_at m (level m v) (row m v) (column m v + 1) height_below h;
      }

  to_left : 0 < column m v → IsStraight m 1 v (node_at m (level m v) (row m v) (column m v - 1))
  to_left h =
      let b = column_below in
      let k : column m v - 1 < length m.xs = omega arith in
      let g = gap_down _ _ (line_above m.xs (column m v - 1) (column m v) fits.xs_ascend (omega arith) b) in record {
        ahead = record {
          gap = g.0;
          some = g.1;
          x_is = x_at m (level m v) (row m v) (column m v - 1) height_below k
              ∙ g.2;
          y_is = y_at m (level m v) (row m v) (column m v - 1) height_below k ∙ gap_none _ g.0;
        };
        one_layer = layer_at m (level m v) (row m v) (column m v - 1) height_below k;
      }

  to_upper : row m v + 1 < length m.ys → IsStraight m 2 v (node_at m (level m v) (row m v + 1) (column m v))
  to_upper h =
      let g = gap_up _ _ (line_above m.ys (row m v) (row m v + 1) fits.ys_ascend (omega arith) h) in record {
        ahead = record {
          gap = g.0;
          some = g.1;
          x_is = x_at m (level m v) (row m v + 1) (column m v) h column_below
              ∙ gap_none _ g.0;
          y_is = y_at m (level m v) (row m v + 1) (column m v) h column_below ∙ g.2;
        };
        one_layer = layer_at m (level m v) (row m v + 1) (column m v) h column_below;
      }

  to_lower : 0 < row m v → IsStraight m 3 v (node_at m (level m v) (row m v - 1) (column m v))
  to_lower h =
      let b = height_below in
      let k : row m v - 1 < length m.ys = omega arith in
      let g = gap_down _ _ (line_above m.ys (row m v - 1) (row m v) fits.ys_ascend (omega arith) b) in record {
        ahead = record {
          gap = g.0;
          some = g.1;
          x_is = x_at m (level m v) (row m v - 1) (column m v) k column_below
              ∙ gap_none _ g.0;
          y_is = y_at m (level m v) (row m v - 1) (column m v) k column_below ∙ g.2;
        };
        one_layer = layer_at m (level m v) (row m v - 1) (column m v) k column_below;
      }

  -- one branch of the choice
  branch : (b : Bool) (from to dir w : ℕ) → (b ≡ true → IsStraight m from v to)
      → cond {A = Option (Move × ℕ)} b (Some (move.Step from, to)) None ≡ Some (move.Step dir, w) → IsStraight m dir v w
  branch b from to dir w f e = elim (chosen b (Some (move.Step from, to)) None (Some (move.Step dir, w)) e) [
    | inl h ↦ subst (λ (n : ℕ). IsStraight m n v w) (ap dir_in h.1)
        (subst (λ (n : ℕ). IsStraight m from v n) (ap node_in h.1) (f h.0))
    | inr h ↦ absurd (some_not_none (move.Step dir, w) h.1)
  ]

  pub step_straight : (k dir w : ℕ) → step_at m v k ≡ Some (move.Step dir, w) → IsStraight m dir v w
  step_straight k dir w e = elim (chosen (k == 0) _ _ _ e) [
    | inl a ↦ branch (nat_lt (column m v + 1) (length m.xs)) 0 _ dir w (λ t. to_right (is_below _ _ t)) a.1
    | inr a ↦ elim (chosen (k == 1) _ _ _ a.1) [
      | inl b ↦ branch (nat_lt 0 (column m v)) 1 _ dir w (λ t. to_left (is_below _ _ t)) b.1
      | inr b ↦ elim (chosen (k == 2) _ _ _ b.1) [
        | inl c ↦ branch (nat_lt (row m v + 1) (length m.ys)) 2 _ dir w (λ t. to_upper (is_below _ _ t)) c.1
        | inr c ↦ branch (nat_lt 0 (row m v)) 3 _ dir w (λ t. to_lower (is_below _ _ t)) c.1
      ]
    ]
  ]

  -- a leg of a direction
  leg : (b : Bool) (from to : ℕ) (s : Move × ℕ) → (b ≡ true → IsStraight m from v to)
      → cond {A = Option (Move × ℕ)} b (Some (move.Step from, to)) None ≡ Some s → IsStraight m from v s.1
  leg b from to s f e = elim (chosen b (Some (move.Step from, to)) None (Some s) e) [
    | inl h ↦ subst (λ (n : ℕ). IsStraight m from v n) (ap node_in h.1) (f h.0)
    | inr h ↦ absurd (some_not_none s h.1)
  ]

  pub right_leg : (s : Move × ℕ) → step_at m v 0 ≡ Some s → IsStraight m 0 v s.1
  right_leg s e = leg (nat_lt (column m v + 1) (length m.xs)) 0 _ s (λ t. to_right (is_below _ _ t)) e

  pub left_leg : (s : Move × ℕ) → step_at m v 1 ≡ Some s → IsStraight m 1 v s.1
  left_leg s e = leg (nat_lt 0 (column m v)) 1 _ s (λ t. to_left (is_below _ _ t)) e

  pub upper_leg : (s : Move × ℕ) → step_at m v 2 ≡ Some s → IsStraight m 2 v s.1
  upper_leg s e = leg (nat_lt (row m v + 1) (length m.ys)) 2 _ s (λ t. to_upper (is_below _ _ t)) e

  pub lower_leg : (s : Move × ℕ) → step_at m v 3 ≡ Some s → IsStraight m 3 v s.1
  lower_leg s e = leg (nat_lt 0 (row m v)) 3 _ s (λ t. to_lower (is_below _ _ t)) e
