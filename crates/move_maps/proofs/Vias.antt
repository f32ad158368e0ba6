-- A via whose padstack, moved to its place, is parted from an item's box is clear of the item.
use Rattle.std.proofs.Common.{◌≡◌, ℕ, ℤ, pos, ◌≤◌, ◌<◌, ◌+◌, ◌*◌, ◌-ℤ◌, ◌+ℤ◌, ◌≤ℤ◌, List, [], ◌∷◌, ◌++◌, map}
use Rattle.std.proofs.Common.{flat_map, length, All, arith, refl, sym, ap, ◌∙◌, subst, inl, inr}
use Rattle.std.proofs.lemmas.Int.{ints}
use Rattle.std.proofs.lemmas.List.{map-append}
use Rattle.std.proofs.lemmas.List.Elements.{All-map, All-weaker}
use Rattle.geo_kernel.specs.declared.point.Point.{Point}
use Rattle.geo_kernel.specs.declared.point.Rect4.{Rect4}
use Rattle.geo_kernel.specs.declared.spine.Spine.{Spine}
use Rattle.geo_kernel.specs.declared.spine.Spine.TheVariants.{Chain, Area}
use Rattle.geo_kernel.specs.Boxes.{IsIn, IsGap, IsParted}
use Rattle.geo_kernel.specs.Spine.{vertices}
use Rattle.geo_kernel.specs.Moved.{moved, moved_spine}
use Rattle.pcb_model.specs.declared.item.Piece.{Piece}
use Rattle.pcb_model.specs.declared.item.Probe.TheVariants as probe
use Rattle.pcb_model.specs.declared.near.Extent.{Extent}
use Rattle.pcb_model.specs.Pieces.{moved_piece, padstack_pieces}
use Rattle.pcb_model.specs.Near.{IsPieceIn, IsExtentOf, moved_box_by}
use Rattle.pcb_model.proofs.Far.{far_apart}
use Rattle.route_lattice.specs.Mesh.{Mesh, node_count, column, row, point_of}
use Rattle.route_lattice.proofs.Places.{row_below}
use Rattle.route_lattice.proofs.Windows.{column_below}
use Rattle.move_maps.specs.declared.window.Window.{Window}
use Rattle.move_maps.specs.Windows.{IsWindowFor, IsOutOf, around, ViasOutAreClear}
use Rattle.move_maps.proofs.Far.{apart_clear}

-- the vertices of moved loops
loops_moved : (f : Point → Point) (ls : List (List Point))
    → flat_map (λ l. l) (map (map f) ls) ≡ map f (flat_map (λ l. l) ls)
loops_moved f [] = refl
loops_moved f (l ∷ ls) = ap (λ ps. map f l ++ ps) (loops_moved f ls) ∙ sym (map-append f l (flat_map (λ x. x) ls))

-- the vertices of a moved spine
vertices_moved : (by : Point) (s : Spine) → vertices (moved_spine by s) ≡ map (moved by) (vertices s)
vertices_moved by (Chain ps) = refl
vertices_moved by (Area ls) = loops_moved (moved by) ls

-- a moved point is in the moved box
point_moved : (by : Point) (r : Rect4) (p : Point) → IsIn r p → IsIn (moved_box_by by r) (moved by p)
point_moved by r p h = record {
  left = omega (arith, ints, h.left);
  right = omega (arith, ints, h.right);
  bottom = omega (arith, ints, h.bottom);
  top = omega (arith, ints, h.top);
}

-- an extent moved by a point
abbrev moved_extent : Point → Extent → Extent
moved_extent by e = record { bounds = moved_box_by by e.bounds; width = e.width; first = e.first; last = e.last }

-- a moved piece is in the moved extent
piece_moved : (by : Point) (e : Extent) (p : Piece) → IsPieceIn e p → IsPieceIn (moved_extent by e) (moved_piece by p)
piece_moved by e p h = record {
  spine_in = subst (All (IsIn (moved_box_by by e.bounds))) (sym (vertices_moved by p.spine))
      (All-map (IsIn (moved_box_by by e.bounds)) (moved by) (vertices p.spine)
      (All-weaker (IsIn e.bounds) (λ q. IsIn (moved_box_by by e.bounds) (moved by q)) (point_moved by e.bounds)
      (vertices p.spine) h.spine_in));
  width_in = h.width_in;
  from_layer = h.from_layer;
  to_layer = h.to_layer;
}

-- so the moved extent is that of the moved pieces
pub extent_moved : (by : Point) (e : Extent) (ps : List Piece) → IsExtentOf ps e
    → IsExtentOf (map (moved_piece by) ps) (moved_extent by e)
extent_moved by e ps h = record {
  each = All-map (IsPieceIn (moved_extent by e)) (moved_piece by) ps
      (All-weaker (IsPieceIn e) (λ q. IsPieceIn (moved_extent by e) (moved_piece by q)) (piece_moved by e) ps h.each);
  width_within = h.width_within;
}

-- the side of a box about a point that lies so far beyond
gap_low : (at lo hi : ℤ) (k grow : ℕ) → k ≤ 2 * grow → at ≤ℤ ((lo -ℤ hi) -ℤ pos grow) → IsGap (hi +ℤ at) lo k
gap_low at lo hi k grow h a = omega (arith, ints)

-- and so far beyond on the other side
gap_high : (at lo hi : ℤ) (k grow : ℕ) → k ≤ 2 * grow → ((hi -ℤ lo) +ℤ pos grow) ≤ℤ at → IsGap hi (lo +ℤ at) k
gap_high at lo hi k grow h a = omega (arith, ints)

-- a padstack about a node out of the window is parted from the box
parted_out : (m : Mesh) (r e : Rect4) (k grow : ℕ) (w : Window) (v : ℕ) → k ≤ 2 * grow
    → IsWindowFor m (around r e) grow w → v < node_count m → IsOutOf m w v
    → IsParted (moved_box_by (point_of m v) e) r k
parted_out m r e k grow w v h win hv (inl (inl c)) =
    inl (inl (gap_low (point_of m v).x r.x0 e.x1 k grow h (win.left (column m v) c)))
parted_out m r e k grow w v h win hv (inl (inr c)) =
    inl (inr (gap_high (point_of m v).x e.x0 r.x1 k grow h (win.right (column m v) c (column_below m v hv))))
parted_out m r e k grow w v h win hv (inr (inl c)) =
    inr (inl (gap_low (point_of m v).y r.y0 e.y1 k grow h (win.bottom (row m v) c)))
parted_out m r e k grow w v h win hv (inr (inr c)) =
    inr (inr (gap_high (point_of m v).y e.y0 r.y1 k grow h
    (win.top (row m v) c (row_below (length m.xs) (length m.ys) (length m.layers) v hv))))

-- vias out of the window are clear
pub out_clear : ViasOutAreClear
out_clear d m g padstack b e f reach grow w v rules of_stack of_b enough win hv out =
    let at = point_of m v in
    apart_clear reach d g (probe.Via padstack at) b rules
    (far_apart reach (moved_extent at e) f (map (moved_piece at) (padstack_pieces d padstack)) b.pieces
    (extent_moved at e (padstack_pieces d padstack) of_stack) of_b
    (inr (parted_out m f.bounds e.bounds (2 * reach + e.width + f.width + 1) grow w v enough win hv out)))
