-- How far items are told apart: by a box, a greatest width and the layers of all their pieces.
use Rattle.std.specs.Prelude.{◌≡◌, ℕ, ℤ, pos, neg_ℤ, max, min, ◌≤◌, ◌<◌, ◌+◌, ◌*◌, ◌⊎◌, ◌+ℤ◌, ◌≤ℤ◌, ◌^◌, unsigned_abs}
use Rattle.std.specs.Prelude.{List, [], ◌∷◌, flat_map, All, Option}
use Rattle.std.specs.Int.{int_min, int_max}
use Rattle.geo_kernel.specs.declared.point.Point.{Point}
use Rattle.geo_kernel.specs.declared.point.Rect4.{Rect4}
use Rattle.geo_kernel.specs.Boxes.{IsInBox, IsParted}
use Rattle.geo_kernel.specs.Spine.{vertices}
use Rattle.pcb_model.specs.declared.item.Kind.{Kind}
use Rattle.pcb_model.specs.declared.item.Kind.TheVariants.{Wire, Via, Pin, Smd, Area}
use Rattle.pcb_model.specs.declared.item.Piece.{Piece}
use Rattle.pcb_model.specs.declared.design.Design.{Design}
use Rattle.pcb_model.specs.declared.rules.Side.{Side}
use Rattle.pcb_model.specs.declared.near.Extent.{Extent}
use Rattle.pcb_model.specs.declared.near.Query.{Query}
use Rattle.pcb_model.specs.Rules.{value_of}
use Rattle.pcb_model.specs.Bounds.{IsFit, HasRulesWithin}
use Rattle.pcb_model.specs.Pairs.{PiecesKeep, PiecesTouch}

-- the piece's spine is in the box, and its width and layer are within the extent's
pub record IsPieceIn (e : Extent) (p : Piece) : Type 0 where
  pub spine_in : IsInBox e.bounds p.spine
  pub width_in : p.width ≤ e.width
  pub from_layer : e.first ≤ p.layer
  pub to_layer : p.layer ≤ e.last

-- a box moved by a vector
abbrev pub moved_box_by : Point → Rect4 → Rect4
moved_box_by by r = record { x0 = r.x0 +ℤ by.x; y0 = r.y0 +ℤ by.y; x1 = r.x1 +ℤ by.x; y1 = r.y1 +ℤ by.y }

-- the coordinates of its sides are at most m in absolute value
pub record IsBoxWithin (m : ℕ) (r : Rect4) : Type 0 where
  pub x0_within : unsigned_abs r.x0 ≤ m
  pub y0_within : unsigned_abs r.y0 ≤ m
  pub x1_within : unsigned_abs r.x1 ≤ m
  pub y1_within : unsigned_abs r.y1 ≤ m

-- the outer box holds the inner one
pub record EnclosesBox (outer inner : Rect4) : Type 0 where
  pub from_x : outer.x0 ≤ℤ inner.x0
  pub to_x : inner.x1 ≤ℤ outer.x1
  pub from_y : outer.y0 ≤ℤ inner.y0
  pub to_y : inner.y1 ≤ℤ outer.y1

pub record Encloses (outer inner : Extent) : Type 0 where
  pub bounds : EnclosesBox outer.bounds inner.bounds
  pub width : inner.width ≤ outer.width
  pub from_layer : outer.first ≤ inner.first
  pub to_layer : inner.last ≤ outer.last

-- the extent of pieces holds each of them
pub record IsExtentOf (ps : List Piece) (e : Extent) : Type 0 where
  pub each : All (IsPieceIn e) ps
  pub width_within : e.width ≤ 2 ^ 28

-- the least value at some points, or 2^29 where there are none
abbrev pub least : (Point → ℤ) → List Point → ℤ
least f [] = pos (2 ^ 29)
least f (p ∷ ps) = int_min (f p) (least f ps)

-- the greatest one, or -2^29
abbrev pub greatest : (Point → ℤ) → List Point → ℤ
greatest f [] = neg_ℤ (pos (2 ^ 29))
greatest f (p ∷ ps) = int_max (f p) (greatest f ps)

-- the least box that holds some points
abbrev pub box_of_points : List Point → Rect4
box_of_points ps =
    record {
      x0 = least (λ p. p.x) ps;
      y0 = least (λ p. p.y) ps;
      x1 = greatest (λ p. p.x) ps;
      y1 = greatest (λ p. p.y) ps;
    }

-- the vertices of all spines
abbrev pub vertices_of : List Piece → List Point
vertices_of ps = flat_map (λ (p : Piece). vertices p.spine) ps

abbrev pub greatest_width : List Piece → ℕ
greatest_width [] = 0
greatest_width (p ∷ ps) = max p.width (greatest_width ps)

abbrev pub first_layer : List Piece → ℕ
first_layer [] = 255
first_layer (p ∷ ps) = min p.layer (first_layer ps)

abbrev pub last_layer : List Piece → ℕ
last_layer [] = 0
last_layer (p ∷ ps) = max p.layer (last_layer ps)

-- the least extent of some pieces
abbrev pub extent_of : List Piece → Extent
extent_of ps =
    record {
      bounds = box_of_points (vertices_of ps);
      width = greatest_width ps;
      first = first_layer ps;
      last = last_layer ps;
    }

-- no layer is in both, or the boxes are parted by more than the reach and half of both widths
abbrev pub AreFar : ℕ → Extent → Extent → Type 0
AreFar reach e f =
    (e.last < f.first ⊎ f.last < e.first) ⊎ IsParted e.bounds f.bounds (2 * reach + e.width + f.width + 1)

-- the pieces keep each clearance up to reach, and don't touch
pub record AreApart (reach : ℕ) (ps rs : List Piece) : Type 0 where
  pub keep : PiecesKeep reach ps rs
  pub stay_off : ¬ (PiecesTouch ps rs)

-- whatever has these extents is apart
abbrev pub SeparatesAll : ℕ → Extent → Extent → Type 0
SeparatesAll reach e f = (ps rs : List Piece) → All IsFit ps → All IsFit rs → IsExtentOf ps e → IsExtentOf rs f
    → AreApart reach ps rs

abbrev pub side_value : Side → Kind → ℕ
side_value s Wire = s.wire
side_value s Via = s.via
side_value s Pin = s.pin
side_value s Smd = s.smd
side_value s Area = s.area

-- the values of a net, whose copper is of kind k, towards each kind
pub record IsSideOf (d : Design) (net : Option ℕ) (k : Kind) (s : Side) : Type 0 where
  pub wire_is : s.wire ≡ value_of d net k Wire
  pub via_is : s.via ≡ value_of d net k Via
  pub pin_is : s.pin ≡ value_of d net k Pin
  pub smd_is : s.smd ≡ value_of d net k Smd
  pub area_is : s.area ≡ value_of d net k Area

-- what a search keeps of the item that it asks about
pub record IsQueryOf (d : Design) (net : Option ℕ) (k : Kind) (ps : List Piece) (q : Query) : Type 0 where
  pub side_is : IsSideOf d net k q.side
  pub extent_is : IsExtentOf ps q.extent
  pub reach_within : q.reach ≤ 2 ^ 28
  pub reach_is : HasRulesWithin q.reach d
