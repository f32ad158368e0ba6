-- A step whose points lie beyond one side of a grown box is clear of what the box holds.
use Rattle.std.proofs.Common.{ℕ, ℤ, pos, ◌≤◌, ◌+◌, ◌*◌, ◌^◌, ◌-ℤ◌, ◌+ℤ◌, ◌≤ℤ◌, max, List, [], ◌∷◌}
use Rattle.std.proofs.Common.{arith, Some, inl, inr}
use Rattle.std.specs.Prelude.{unsigned_abs}
use Rattle.std.proofs.lemmas.Int.{ints}
use Rattle.std.proofs.lemmas.List.Elements.{All-nil, All-cons, All-weaker}
use Rattle.geo_kernel.specs.declared.point.Point.{Point}
use Rattle.geo_kernel.specs.declared.point.Rect4.{Rect4}
use Rattle.geo_kernel.specs.Boxes.{IsIn, IsGap, IsParted}
use Rattle.geo_kernel.specs.Plane.{IsWithin}
use Rattle.geo_kernel.proofs.Keeping.{keep_less_far}
use Rattle.pcb_model.specs.declared.item.Piece.{Piece}
use Rattle.pcb_model.specs.declared.item.Item.{Item}
use Rattle.pcb_model.specs.declared.item.Probe.{Probe}
use Rattle.pcb_model.specs.declared.item.Probe.TheVariants as probe
use Rattle.pcb_model.specs.declared.design.Design.{Design}
use Rattle.pcb_model.specs.declared.near.Extent.{Extent}
use Rattle.pcb_model.specs.Bounds.{HasRulesWithin}
use Rattle.pcb_model.specs.Rules.{clearance_of}
use Rattle.pcb_model.specs.Pieces.{pieces_of, metal_of, kind_of, wire_piece}
use Rattle.pcb_model.specs.Pairs.{PieceKeeps, KeepsFrom, PiecesKeep}
use Rattle.pcb_model.specs.Near.{IsPieceIn, IsExtentOf, AreApart}
use Rattle.pcb_model.proofs.Within.{clearance_within}
use Rattle.pcb_model.proofs.Far.{far_apart}
use Rattle.move_maps.specs.Clear.{IsClearOf}

-- a smaller clearance asks for no more than a greater one
less : (c reach p r : ℕ) → c ≤ reach → max 1 (2 * c + p + r) ≤ max 1 (2 * reach + p + r)
less c reach p r h = omega (arith, h)

-- pieces that keep a reach keep each clearance within it
keep_within : (c reach : ℕ) (ps rs : List Piece) → c ≤ reach → PiecesKeep reach ps rs → PiecesKeep c ps rs
keep_within c reach ps rs l h = record {
  each = All-weaker (KeepsFrom reach rs) (KeepsFrom c rs)
      (λ p k. record {
        each = All-weaker (PieceKeeps reach p) (PieceKeeps c p)
            (λ r g. record {
              keep = λ y. keep_less_far p.spine r.spine (max 1 (2 * reach + p.width + r.width))
                  (max 1 (2 * c + p.width + r.width)) (g.keep y) (less c reach p.width r.width l);
            }) rs k.each;
      }) ps h.each;
}

-- copper apart by the reach of all rules is clear
pub apart_clear : (reach : ℕ) (d : Design) (g : ℕ) (p : Probe) (b : Item) → HasRulesWithin reach d
    → AreApart reach (pieces_of d (metal_of p)) b.pieces → IsClearOf d g p b
apart_clear reach d g p b w h = record {
  keep = λ m. keep_within (clearance_of d (Some g) (kind_of (metal_of p)) b.net b.kind) reach
      (pieces_of d (metal_of p)) b.pieces
      (clearance_within reach d (Some g) (kind_of (metal_of p)) b.net b.kind w) h.keep;
  stay_off = λ v k o. h.stay_off;
}

-- the least coordinate
pub low : (x : ℤ) → unsigned_abs x ≤ 2 ^ 29 → (pos 0 -ℤ pos (2 ^ 29)) ≤ℤ x
low x h = omega (arith, ints)

-- the greatest coordinate
pub high : (x : ℤ) → unsigned_abs x ≤ 2 ^ 29 → x ≤ℤ pos (2 ^ 29)
high x h = omega (arith, ints)

-- a gap below
gap_down : (x : ℤ) (k grow : ℕ) → k ≤ 2 * grow → IsGap (x -ℤ pos grow) x k
gap_down x k grow h = omega (arith, ints)

-- a gap above
gap_up : (x : ℤ) (k grow : ℕ) → k ≤ 2 * grow → IsGap x (x +ℤ pos grow) k
gap_up x k grow h = omega (arith, ints)

-- a wire in a box that is parted from the item's
pub boxed_apart : (reach : ℕ) (b : Item) (f : Extent) → IsExtentOf b.pieces f → (layer width : ℕ) → width ≤ 2 ^ 28
    → (p q : Point) (r : Rect4) → IsIn r p → IsIn r q → IsParted r f.bounds (2 * reach + width + f.width + 1)
    → AreApart reach (wire_piece layer width (p ∷ q ∷ []) ∷ []) b.pieces
boxed_apart reach b f of_b layer width small p q r hp hq far =
    let e : Extent = record { bounds = r; width = width; first = layer; last = layer } in
    let piece = wire_piece layer width (p ∷ q ∷ []) in
    let ext : IsExtentOf (piece ∷ []) e = record {
      each = All-cons (IsPieceIn e) piece []
          (record {
            spine_in = All-cons (IsIn r) p (q ∷ []) hp (All-cons (IsIn r) q [] hq (All-nil (IsIn r)));
            width_in = omega arith;
            from_layer = omega arith;
            to_layer = omega arith;
          }) (All-nil (IsPieceIn e));
      width_within = small;
    } in
    far_apart reach e f (piece ∷ []) b.pieces ext of_b (inr far)

module _ (reach : ℕ) (d : Design) (g : ℕ) (b : Item) (f : Extent) (rules : HasRulesWithin reach d)
    (of_b : IsExtentOf b.pieces f) (layer width : ℕ) (small : width ≤ 2 ^ 28) (p q : Point) where
  -- a step in such a box
  pub boxed_clear : (r : Rect4) → IsIn r p → IsIn r q → IsParted r f.bounds (2 * reach + width + f.width + 1)
      → IsClearOf d g (probe.Step layer width p q) b
  boxed_clear r hp hq far = apart_clear reach d g (probe.Step layer width p q) b rules
      (boxed_apart reach b f of_b layer width small p q r hp hq far)

  module _ (grow : ℕ) (enough : 2 * reach + width + f.width + 1 ≤ 2 * grow) (pw : IsWithin (2 ^ 29) p)
      (qw : IsWithin (2 ^ 29) q) where
    -- both points left of the grown box
    pub left_clear : p.x ≤ℤ (f.bounds.x0 -ℤ pos grow) → q.x ≤ℤ (f.bounds.x0 -ℤ pos grow)
        → IsClearOf d g (probe.Step layer width p q) b
    left_clear hp hq = boxed_clear
        (record {
          x0 = pos 0 -ℤ pos (2 ^ 29);
          y0 = pos 0 -ℤ pos (2 ^ 29);
          x1 = f.bounds.x0 -ℤ pos grow;
          y1 =
              pos (2 ^ 29);
        })
        (record { left = low p.x pw.0; right = hp; bottom = low p.y pw.1; top = high p.y pw.1 })
        (record { left = low q.x qw.0; right = hq; bottom = low q.y qw.1; top = high q.y qw.1 })
        (inl (inl (gap_down f.bounds.x0 (2 * reach + width + f.width + 1) grow enough)))

    pub right_clear : (f.bounds.x1 +ℤ pos grow) ≤ℤ p.x → (f.bounds.x1 +ℤ pos grow) ≤ℤ q.x
        → IsClearOf d g (probe.Step layer width p q) b
    right_clear hp hq = boxed_clear
        (record { x0 = f.bounds.x1 +ℤ pos grow; y0 = pos 0 -ℤ pos (2 ^ 29); x1 = pos (2 ^ 29); y1 = pos (2 ^ 29) })
        (record { left = hp; right = high p.x pw.0; bottom = low p.y pw.1; top = high p.y pw.1 })
        (record { left = hq; right = high q.x qw.0; bottom = low q.y qw.1; top = high q.y qw.1 })
        (inl (inr (gap_up f.bounds.x1 (2 * reach + width + f.width + 1) grow enough)))

    pub below_clear : p.y ≤ℤ (f.bounds.y0 -ℤ pos grow) → q.y ≤ℤ (f.bounds.y0 -ℤ pos grow)
        → IsClearOf d g (probe.Step layer width p q) b
    below_clear hp hq = boxed_clear
        (record {
          x0 = pos 0 -ℤ pos (2 ^ 29);
          y0 = pos 0 -ℤ pos (2 ^ 29);
          x1 = pos (2 ^ 29);
          y1 =
              f.bounds.y0 -ℤ pos grow;
        })
        (record { left = low p.x pw.0; right = high p.x pw.0; bottom = low p.y pw.1; top = hp })
        (record { left = low q.x qw.0; right = high q.x qw.0; bottom = low q.y qw.1; top = hq })
        (inr (inl (gap_down f.bounds.y0 (2 * reach + width + f.width + 1) grow enough)))

    pub above_clear : (f.bounds.y1 +ℤ pos grow) ≤ℤ p.y → (f.bounds.y1 +ℤ pos grow) ≤ℤ q.y
        → IsClearOf d g (probe.Step layer width p q) b
    above_clear hp hq = boxed_clear
        (record { x0 = pos 0 -ℤ pos (2 ^ 29); y0 = f.bounds.y1 +ℤ pos grow; x1 = pos (2 ^ 29); y1 = pos (2 ^ 29) })
        (record { left = low p.x pw.0; right = high p.x pw.0; bottom = hp; top = high p.y pw.1 })
        (record { left = low q.x qw.0; right = high q.x qw.0; bottom = hq; top = high q.y qw.1 })
        (inr (inr (gap_up f.bounds.y1 (2 * reach + width + f.width + 1) grow enough)))
