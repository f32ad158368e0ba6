-- Wires beyond the box that is grown round an item keep their clearance from it.
use Rattle.std.proofs.Common.{◌≡◌, ℕ, ℤ, pos, ◌≤◌, ◌+◌, ◌*◌, ◌^◌, ◌-ℤ◌, ◌+ℤ◌, inl, inr, [], ◌∷◌}
use Rattle.std.proofs.Common.{arith, Some, sym, subst}
use Rattle.std.proofs.lemmas.Int.{ints}
use Rattle.std.proofs.lemmas.List.Elements.{All-head, All-tail}
use Rattle.geo_kernel.specs.declared.point.Point.{Point}
use Rattle.geo_kernel.specs.declared.point.Rect4.{Rect4}
use Rattle.geo_kernel.specs.Boxes.{IsIn, IsGap, IsParted}
use Rattle.geo_kernel.specs.Plane.{IsWithin}
use Rattle.pcb_model.specs.declared.item.Kind.TheVariants as kind
use Rattle.pcb_model.specs.declared.item.Item.{Item}
use Rattle.pcb_model.specs.declared.design.Design.{Design}
use Rattle.pcb_model.specs.declared.near.Extent.{Extent}
use Rattle.pcb_model.specs.Bounds.{HasRulesWithin}
use Rattle.pcb_model.specs.Near.{IsExtentOf}
use Rattle.pcb_model.specs.Pairs.{KeepsFrom}
use Rattle.pcb_model.specs.Pieces.{wire_piece}
use Rattle.pcb_model.specs.Rules.{clearance_of, width_for}
use Rattle.pcb_model.proofs.Within.{clearance_within}
use Rattle.move_maps.specs.declared.margins.Margins.{Margins}
use Rattle.move_maps.specs.Clear.{WireKeeps}
use Rattle.move_maps.specs.Margins.{IsBeyond, IsFence, AreMargins, ShutsSteps}
use Rattle.move_maps.proofs.Clearing.{wire_from}
use Rattle.move_maps.proofs.Far.{low, high, boxed_apart}

-- a gap below a side that was moved out
gap_under : (x y : ℤ) (k grow : ℕ) → y ≡ x -ℤ pos grow → k ≤ 2 * grow → IsGap y x k
gap_under x y k grow e h = omega (arith, ints, e)

-- a gap above such a side
gap_over : (x y : ℤ) (k grow : ℕ) → y ≡ x +ℤ pos grow → k ≤ 2 * grow → IsGap x y k
gap_over x y k grow e h = omega (arith, ints, e)

module _ (c : ℕ) (b : Item) (f : Extent) (of_b : IsExtentOf b.pieces f) (layer width : ℕ) (p q : Point) (grow : ℕ)
    (enough : 2 * c + width + f.width + 1 ≤ 2 * grow) (small : width ≤ 2 ^ 28) (pw : IsWithin (2 ^ 29) p)
    (qw : IsWithin (2 ^ 29) q) (r : Rect4) where
  -- what keeps from the item where a box about the wire is parted from the item's
  kept : (a : Rect4) → IsIn a p → IsIn a q → IsParted a f.bounds (2 * c + width + f.width + 1)
      → KeepsFrom c b.pieces (wire_piece layer width (p ∷ q ∷ []))
  kept a hp hq far = All-head (KeepsFrom c b.pieces) (wire_piece layer width (p ∷ q ∷ [])) []
      (boxed_apart c b f of_b layer width small p q a hp hq far).keep.each

  -- a wire beyond the grown box
  beyond : r.x0 ≡ f.bounds.x0 -ℤ pos grow → r.y0 ≡ f.bounds.y0 -ℤ pos grow → r.x1 ≡ f.bounds.x1 +ℤ pos grow
      → r.y1 ≡ f.bounds.y1 +ℤ pos grow → IsBeyond r p q → KeepsFrom c b.pieces (wire_piece layer width (p ∷ q ∷ []))
  beyond x0 y0 x1 y1 (inl (inl h)) = kept
      (record { x0 = pos 0 -ℤ pos (2 ^ 29); y0 = pos 0 -ℤ pos (2 ^ 29); x1 = r.x0; y1 = pos (2 ^ 29) })
      (record { left = low p.x pw.0; right = h.0; bottom = low p.y pw.1; top = high p.y pw.1 })
      (record { left = low q.x qw.0; right = h.1; bottom = low q.y qw.1; top = high q.y qw.1 })
      (inl (inl (gap_under f.bounds.x0 r.x0 (2 * c + width + f.width + 1) grow x0 enough)))
  beyond x0 y0 x1 y1 (inl (inr h)) = kept
      (record { x0 = r.x1; y0 = pos 0 -ℤ pos (2 ^ 29); x1 = pos (2 ^ 29); y1 = pos (2 ^ 29) })
      (record { left = h.0; right = high p.x pw.0; bottom = low p.y pw.1; top = high p.y pw.1 })
      (record { left = h.1; right = high q.x qw.0; bottom = low q.y qw.1; top = high q.y qw.1 })
      (inl (inr (gap_over f.bounds.x1 r.x1 (2 * c + width + f.width + 1) grow x1 enough)))
  beyond x0 y0 x1 y1 (inr (inl h)) = kept
      (record { x0 = pos 0 -ℤ pos (2 ^ 29); y0 = pos 0 -ℤ pos (2 ^ 29); x1 = pos (2 ^ 29); y1 = r.y0 })
      (record { left = low p.x pw.0; right = high p.x pw.0; bottom = low p.y pw.1; top = h.0 })
      (record { left = low q.x qw.0; right = high q.x qw.0; bottom = low q.y qw.1; top = h.1 })
      (inr (inl (gap_under f.bounds.y0 r.y0 (2 * c + width + f.width + 1) grow y0 enough)))
  beyond x0 y0 x1 y1 (inr (inr h)) = kept
      (record { x0 = pos 0 -ℤ pos (2 ^ 29); y0 = r.y1; x1 = pos (2 ^ 29); y1 = pos (2 ^ 29) })
      (record { left = low p.x pw.0; right = high p.x pw.0; bottom = h.0; top = high p.y pw.1 })
      (record { left = low q.x qw.0; right = high q.x qw.0; bottom = h.1; top = high q.y qw.1 })
      (inr (inr (gap_over f.bounds.y1 r.y1 (2 * c + width + f.width + 1) grow y1 enough)))

-- the grown box of an item's extent is a fence
fence_of : (b : Item) (f : Extent) (s : Margins) (grow : ℕ) → IsExtentOf b.pieces f → s.wires ≤ 2 ^ 28
    → 2 * s.wires + s.width + f.width + 1 ≤ 2 * grow → s.near.x0 ≡ f.bounds.x0 -ℤ pos grow
    → s.near.y0 ≡ f.bounds.y0 -ℤ pos grow → s.near.x1 ≡ f.bounds.x1 +ℤ pos grow
    → s.near.y1 ≡ f.bounds.y1 +ℤ pos grow → IsFence b s
fence_of b f s grow of_b within enough x0 y0 x1 y1 = record {
  within = within;
  far = λ layer p q fit h m.
      let W = IsWithin (2 ^ 29) in
      beyond s.wires b f of_b layer s.width p q grow enough fit.width_within (All-head W p (q ∷ []) fit.within)
      (All-head W q [] (All-tail W p (q ∷ []) fit.within)) s.near x0 y0 x1 y1 h;
}

-- with the width and the clearances of the group they are its margins
pub margins_of : (d : Design) (g : ℕ) (b : Item) (f : Extent) (s : Margins) (grow : ℕ) → IsExtentOf b.pieces f
    → HasRulesWithin (2 ^ 28) d → s.width ≡ width_for d g
    → s.wires ≡ clearance_of d (Some g) kind.Wire b.net b.kind
    → s.vias ≡ clearance_of d (Some g) kind.Via b.net b.kind
    → 2 * s.wires + s.width + f.width + 1 ≤ 2 * grow → s.near.x0 ≡ f.bounds.x0 -ℤ pos grow
    → s.near.y0 ≡ f.bounds.y0 -ℤ pos grow → s.near.x1 ≡ f.bounds.x1 +ℤ pos grow
    → s.near.y1 ≡ f.bounds.y1 +ℤ pos grow → AreMargins d g b s
margins_of d g b f s grow of_b rules w c v enough x0 y0 x1 y1 = record {
  width = w;
  wires = c;
  vias = v;
  fence =
      fence_of b f s grow of_b
      (subst (λ n. n ≤ 2 ^ 28) (sym c) (clearance_within (2 ^ 28) d (Some g) kind.Wire b.net b.kind rules)) enough
      x0 y0 x1 y1;
}

-- where the disc at a point doesn't keep the clearance no wire from the point does
pub shut_from : (c layer width : ℕ) (at : Point) (b : Item) → ¬ (WireKeeps c layer width (at ∷ []) b)
    → ShutsSteps c layer width at b
shut_from c layer width at b h = record { each = λ q k. h (wire_from c layer width at q b k) }
