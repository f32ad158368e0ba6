-- The box of two points or of two boxes, side by side, and sums as the code computes them.
use Rattle.std.proofs.Common.{◌≡◌, ℤ, ◌≤ℤ◌, ◌+ℤ◌, ◌≤◌, ◌^◌, unsigned_abs, w64, sym, subst, ap₂, ◌∙◌, arith}
use Rattle.std.proofs.Common.{ℕ, List, [], ◌∷◌, All}
use Rattle.std.proofs.lemmas.List.Elements.{All-cons, All-nil}
use Rattle.std.specs.Int.{int_min, int_max}
use Rattle.std.proofs.lemmas.Int.{ints, clamps, to_z-of_z, fits_signed_from_abs}
use mir.Val.{SFits}
use Rattle.geo_kernel.proofs.Bounds.{seen, unseen}
use Rattle.geo_kernel.specs.declared.point.Point.{Point}
use Rattle.geo_kernel.specs.declared.point.Rect4.{Rect4}
use Rattle.geo_kernel.specs.Boxes.{IsIn}
use Rattle.pcb_model.specs.declared.item.Piece.{Piece}
use Rattle.pcb_model.specs.Pieces.{wire_piece}
use Rattle.pcb_model.specs.Near.{EnclosesBox, IsPieceIn, IsExtentOf}

min_left : (x y z : ℤ) → z ≡ int_min x y → z ≤ℤ x
min_left x y z e = omega (arith, ints, clamps)

min_right : (x y z : ℤ) → z ≡ int_min x y → z ≤ℤ y
min_right x y z e = omega (arith, ints, clamps)

max_left : (x y z : ℤ) → z ≡ int_max x y → x ≤ℤ z
max_left x y z e = omega (arith, ints, clamps)

max_right : (x y z : ℤ) → z ≡ int_max x y → y ≤ℤ z
max_right x y z e = omega (arith, ints, clamps)

-- two points are in their box
module _ (r : Rect4) (a b : Point) (x0 : r.x0 ≡ int_min a.x b.x) (y0 : r.y0 ≡ int_min a.y b.y)
    (x1 : r.x1 ≡ int_max a.x b.x) (y1 : r.y1 ≡ int_max a.y b.y) where
  pub first_in : IsIn r a
  first_in = record {
    left = min_left a.x b.x r.x0 x0;
    right = max_left a.x b.x r.x1 x1;
    bottom = min_left a.y b.y r.y0 y0;
    top = max_left a.y b.y r.y1 y1;
  }

  pub second_in : IsIn r b
  second_in = record {
    left = min_right a.x b.x r.x0 x0;
    right = max_right a.x b.x r.x1 x1;
    bottom = min_right a.y b.y r.y0 y0;
    top = max_right a.y b.y r.y1 y1;
  }

-- and two boxes in theirs
module _ (r a b : Rect4) (x0 : r.x0 ≡ int_min a.x0 b.x0) (y0 : r.y0 ≡ int_min a.y0 b.y0)
    (x1 : r.x1 ≡ int_max a.x1 b.x1) (y1 : r.y1 ≡ int_max a.y1 b.y1) where
  pub first_enclosed : EnclosesBox r a
  first_enclosed = record {
    from_x = min_left a.x0 b.x0 r.x0 x0;
    to_x = max_left a.x1 b.x1 r.x1 x1;
    from_y = min_left a.y0 b.y0 r.y0 y0;
    to_y = max_left a.y1 b.y1 r.y1 y1;
  }

  pub second_enclosed : EnclosesBox r b
  second_enclosed = record {
    from_x = min_right a.x0 b.x0 r.x0 x0;
    to_x = max_right a.x1 b.x1 r.x1 x1;
    from_y = min_right a.y0 b.y0 r.y0 y0;
    to_y = max_right a.y1 b.y1 r.y1 y1;
  }

-- the extent of a wire of one point or two
module _ (box : Rect4) (layer width : ℕ) (w : width ≤ 2 ^ 28) where
  abbrev Holds : Piece → Type 0
  Holds p = IsPieceIn (record { bounds = box; width = width; first = layer; last = layer }) p

  of_points : (ps : List Point) → All (IsIn box) ps
      → IsExtentOf (wire_piece layer width ps ∷ [])
      (record { bounds = box; width = width; first = layer; last = layer })
  of_points ps h = record {
    each = All-cons Holds (wire_piece layer width ps) []
        (record { spine_in = h; width_in = omega arith; from_layer = omega arith; to_layer = omega arith })
        (All-nil Holds);
    width_within = w;
  }

  pub one_in : (a : Point) → IsIn box a → IsExtentOf (wire_piece layer width (a ∷ []) ∷ [])
      (record { bounds = box; width = width; first = layer; last = layer })
  one_in a h = of_points (a ∷ []) (All-cons (IsIn box) a [] h (All-nil (IsIn box)))

  pub two_in : (a b : Point) → IsIn box a → IsIn box b → IsExtentOf (wire_piece layer width (a ∷ b ∷ []) ∷ [])
      (record { bounds = box; width = width; first = layer; last = layer })
  two_in a b h k =
      of_points (a ∷ b ∷ []) (All-cons (IsIn box) a (b ∷ []) h
      (All-cons (IsIn box) b [] k (All-nil (IsIn box))))

-- ---- the sum of two numbers that stays small
module _ (a b : ℤ) (f : SFits w64 a) (g : SFits w64 b) (h : unsigned_abs (a +ℤ b) ≤ 2 ^ 29) where
  pub sum_value : seen (seen a +ℤ seen b) ≡ a +ℤ b
  sum_value =
      ap₂ (λ y z. seen (y +ℤ z)) (to_z-of_z w64 a f) (to_z-of_z w64 b g) ∙ unseen (a +ℤ b) (omega (arith, h))

  pub sum_fits : SFits w64 (seen a +ℤ seen b)
  sum_fits =
      subst (SFits w64) (sym (ap₂ (λ y z. y +ℤ z) (to_z-of_z w64 a f) (to_z-of_z w64 b g)))
      (fits_signed_from_abs w64 (a +ℤ b) (omega (arith, h)))
