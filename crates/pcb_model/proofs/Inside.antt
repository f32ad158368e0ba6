-- First vertices, of moved spines too.
use Rattle.std.proofs.Common.{◌≡◌, ℕ, ℤ, ◌^◌, Bool, List, [], ◌∷◌, map, All, ◌↔◌, IsTrue, refl, sym, ap, ◌∙◌}
use Rattle.std.proofs.Common.{subst}
use Rattle.std.proofs.lemmas.List.Elements.{All-head, All-tail, All-cons, All-nil}
use Rattle.geo_kernel.specs.declared.point.Point.{Point}
use Rattle.geo_kernel.specs.declared.spine.Spine.{Spine}
use Rattle.geo_kernel.specs.declared.spine.Spine.TheVariants.{Chain, Area}
use Rattle.geo_kernel.specs.Plane.{IsWithin}
use Rattle.geo_kernel.specs.Spine.{outline, IsFirst, IsSpineWithin, BeginInside}
use Rattle.geo_kernel.specs.Moved.{moved, moved_spine}
use Rattle.pcb_model.specs.declared.item.Piece.{Piece}
use Rattle.pcb_model.specs.Pieces.{wire_piece}
use Rattle.pcb_model.specs.Bounds.{IsFit}
use Rattle.pcb_model.specs.Board.{BeginsInEach, AreInside, IsInsideEach}

outline_moved : (by : Point) (s : Spine) → outline (moved_spine by s) ≡ map (moved by) (outline s)
outline_moved by (Chain ps) = refl
outline_moved by (Area []) = refl
outline_moved by (Area (l ∷ ls)) = refl

pub moved_is_first : (by : Point) (s : Spine) (p : Point) → IsFirst s p → IsFirst (moved_spine by s) (moved by p)
moved_is_first by s p f = record { rest = map (moved by) f.rest; is = outline_moved by s ∙ ap (map (moved by)) f.is }

outline_within : (m : ℕ) (s : Spine) → IsSpineWithin m s → All (IsWithin m) (outline s)
outline_within m (Chain ps) h = h
outline_within m (Area []) h = All-nil (IsWithin m)
outline_within m (Area (l ∷ ls)) h = All-head (All (IsWithin m)) l ls h

pub first_within : (m : ℕ) (s : Spine) (p : Point) → IsFirst s p → IsSpineWithin m s → IsWithin m p
first_within m s p f h = All-head (IsWithin m) p f.rest (subst (All (IsWithin m)) f.is (outline_within m s h))

pub wire_within : (layer width : ℕ) (p : Point) (qs : List Point) → IsFit (wire_piece layer width (p ∷ qs))
    → IsWithin (2 ^ 29) p
wire_within layer width p qs h = All-head (IsWithin (2 ^ 29)) p qs h.within

pub wire_end_within : (layer width : ℕ) (p q : Point) → IsFit (wire_piece layer width (p ∷ q ∷ []))
    → IsWithin (2 ^ 29) q
wire_end_within layer width p q h = All-head (IsWithin (2 ^ 29)) q [] (All-tail (IsWithin (2 ^ 29)) p (q ∷ []) h.within)

pub wire_inside : (bounds : List (List (List Point))) (layer width : ℕ) (p : Point) (qs : List Point)
    → IsInsideEach bounds p ↔ AreInside bounds (wire_piece layer width (p ∷ qs) ∷ [])
wire_inside bounds layer width p qs =
    let w = wire_piece layer width (p ∷ qs) in (
      λ h. record {
        each = All-cons (BeginsInEach bounds) w [] (record { each = h.each })
            (All-nil (BeginsInEach bounds));
      },
      λ h. record { each = (All-head (BeginsInEach bounds) w [] h.each).each },
    )

pub point_is : (x y x' y' : ℤ) → x ≡ x' → y ≡ y' → (let p : Point = record { x = x; y = y } in p)
    ≡ record { x = x'; y = y' }
point_is x y x' y' e f = cc

-- what a test of the first vertex of a piece says of the piece
pub begins_inside : (bounds : List (List (List Point))) (p : Piece) (q : Point) (b : Bool) → IsFirst p.spine q
    → (IsTrue b ↔ IsInsideEach bounds q) → IsTrue b ↔ BeginsInEach bounds p
begins_inside bounds p q b f h =
    let F : List Point → Type 0 = λ ps. All (BeginInside ps) bounds in (
      λ t. record { each = subst F (sym f.is) (h.0 t).each },
      λ k. h.1 (record { each = subst F f.is k.each }),
    )
