-- The points of a lattice of a design, the widths of its nets, and what its moves lay, are within the bounds.
use Rattle.std.proofs.Common.{◌≡◌, ℕ, pos, ◌<◌, ◌≤◌, ◌^◌, List, [], ◌∷◌, ◌++◌, length, map, All, Option, Some, None}
use Rattle.std.proofs.Common.{Bool, true, false, refl, arith, rules}
use Rattle.std.specs.Prelude.{IfSome, slice_get, unsigned_abs, nat_le, ◌&&◌}
use Rattle.std.specs.Option.{option_to_list}
use Rattle.std.specs.List.{list_all}
use Rattle.std.proofs.lemmas.List.{length-map}
use Rattle.std.proofs.lemmas.List.Elements.{All-nil, All-cons, All-head, All-tail, All-map, All-weaker, All-append}
use Rattle.std.proofs.lemmas.List.Sums.{AllPass-from_list_all}
use Rattle.geo_kernel.specs.declared.point.Point.{Point}
use Rattle.geo_kernel.specs.declared.spine.Spine.{Spine}
use Rattle.geo_kernel.specs.declared.spine.Spine.TheVariants.{Chain, Area}
use Rattle.geo_kernel.specs.Plane.{IsWithin}
use Rattle.geo_kernel.specs.Spine.{IsWellFormed, IsSpineWithin}
use Rattle.geo_kernel.specs.Moved.{moved, moved_spine}
use Rattle.pcb_model.specs.declared.item.Piece.{Piece}
use Rattle.pcb_model.specs.declared.design.RuleSet.{RuleSet}
use Rattle.pcb_model.specs.declared.design.Net.{Net}
use Rattle.pcb_model.specs.declared.design.Design.{Design}
use Rattle.pcb_model.specs.Bounds.{IsFit, IsDesignFit}
use Rattle.pcb_model.specs.Pieces.{wire_piece, moved_piece, padstack_pieces}
use Rattle.pcb_model.specs.Rules.{first_present, class_rules, with_class, rule_sets, width_for}
use Rattle.pcb_model.specs.Sound.{IsSound, IsNetSound}
use Rattle.pcb_model.proofs.Within.{All-at}
use Rattle.pcb_model.proofs.Probes.{stack_fit}
use Rattle.route_lattice.specs.Mesh.{Mesh, node_count, column, row, point_of}
use Rattle.route_lattice.specs.Fits.{FitsDesign}
use Rattle.route_lattice.specs.Near.{is_near, is_near_at, is_spine_near_at, are_near_at}
use Rattle.route_lattice.proofs.Places.{row_below}
use Rattle.route_lattice.proofs.Windows.{column_below}

pub point_within : (d : Design) (m : Mesh) (v : ℕ) → FitsDesign d m → v < node_count m
    → IsWithin (2 ^ 29) (point_of m v)
point_within d m v f h = (
  f.xs_within (column m v) (pos 0) (column_below m v h),
  f.ys_within (row m v) (pos 0) (row_below (length m.xs) (length m.ys) (length m.layers) v h),
)

-- ---- widths
abbrev IsSmall : Option ℕ → Type 0
IsSmall o = IfSome o (λ w. w ≤ 2 ^ 28)

abbrev HasSmallWidth : RuleSet → Type 0
HasSmallWidth rs = IsSmall rs.width

first_small : (n : ℕ) (rss : List RuleSet) → n ≤ 2 ^ 28 → All HasSmallWidth rss
    → first_present n (map (λ (rs : RuleSet). rs.width) rss) ≤ 2 ^ 28
first_small n [] h a = h
first_small n (rs ∷ rss) h a =
    by rs.width (All-head HasSmallWidth rs rss a) (first_small n rss h (All-tail HasSmallWidth rs rss a))
  where
    by : (o : Option ℕ) → IsSmall o → first_present n (map (λ (rs : RuleSet). rs.width) rss) ≤ 2 ^ 28
        → first_present n (o ∷ map (λ (rs : RuleSet). rs.width) rss) ≤ 2 ^ 28
    by None s r = r
    by (Some w) s r = s

class_small : (d : Design) (c : Option ℕ) → IsSound d → All HasSmallWidth (class_rules d c)
class_small d None s = All-nil HasSmallWidth
class_small d (Some c) s = by (slice_get d.classes c) (All-at HasSmallWidth d.classes c s.class_widths_within)
  where
    by : (o : Option RuleSet) → IfSome o HasSmallWidth → All HasSmallWidth (option_to_list o)
    by None h = All-nil HasSmallWidth
    by (Some rs) h = All-cons HasSmallWidth rs [] h (All-nil HasSmallWidth)

net_small : (d : Design) (o : Option Net) → IsSound d → IfSome o (IsNetSound d)
    → All HasSmallWidth (with_class d o ++ d.rules ∷ [])
net_small d None s h = All-cons HasSmallWidth d.rules [] s.width_within (All-nil HasSmallWidth)
net_small d (Some n) s h =
    All-cons HasSmallWidth n.rules (class_rules d n.class ++ d.rules ∷ []) h.width_within
    (All-append HasSmallWidth (class_rules d n.class) (d.rules ∷ []) (class_small d n.class s)
    (All-cons HasSmallWidth d.rules [] s.width_within (All-nil HasSmallWidth)))

pub width_small : (d : Design) (net : ℕ) → IsSound d → width_for d net ≤ 2 ^ 28
width_small d net s =
    first_small 250000 (rule_sets d (Some net)) (omega arith)
    (net_small d (slice_get d.nets net) s (All-at (IsNetSound d) d.nets net s.nets))

-- ---- probes
pub wire_fit : (layer width : ℕ) (a : Point) (ps : List Point) → width ≤ 2 ^ 28 → All (IsWithin (2 ^ 29)) (a ∷ ps)
    → IsFit (wire_piece layer width (a ∷ ps))
wire_fit layer width a ps w h = record { well_formed = omega arith; within = h; width_within = w }

pub both : (a b : Bool) → (a && b) ≡ true → (a ≡ true) × (b ≡ true)
both true true e = (refl, refl)
both true false e = cc
both false b e = cc

near_within : (p : Point) → is_near p ≡ true → IsWithin (2 ^ 29) p
near_within p e =
    let t = both (nat_le (unsigned_abs p.x) (2 ^ 29)) (nat_le (unsigned_abs p.y) (2 ^ 29)) e in
    (below (unsigned_abs p.x) t.0, below (unsigned_abs p.y) t.1)
  where
    below : (n : ℕ) → nat_le n (2 ^ 29) ≡ true → n ≤ 2 ^ 29
    below n e = search rules

points_near : (by : Point) (ps : List Point) → list_all (is_near_at by) ps ≡ true
    → All (IsWithin (2 ^ 29)) (map (moved by) ps)
points_near by ps e =
    All-map (IsWithin (2 ^ 29)) (moved by) ps
    (All-weaker (λ p. is_near_at by p ≡ true) (λ p. IsWithin (2 ^ 29) (moved by p)) (λ p h. near_within (moved by p) h)
    ps (AllPass-from_list_all (is_near_at by) ps e))

spine_near : (by : Point) (s : Spine) → is_spine_near_at by s ≡ true → IsSpineWithin (2 ^ 29) (moved_spine by s)
spine_near by (Chain ps) e = points_near by ps e
spine_near by (Area loops) e =
    All-map (All (IsWithin (2 ^ 29))) (map (moved by)) loops
    (All-weaker (λ ps. list_all (is_near_at by) ps ≡ true) (λ ps. All (IsWithin (2 ^ 29)) (map (moved by) ps))
    (λ ps h. points_near by ps h) loops (AllPass-from_list_all (list_all (is_near_at by)) loops e))

still_formed : (by : Point) (s : Spine) → IsWellFormed s → IsWellFormed (moved_spine by s)
still_formed by (Chain ps) h = let e = length-map ps (moved by) in omega (arith, h, e)
still_formed by (Area loops) h =
    let e = length-map loops (map (moved by)) in (
      let k = h.0 in
          omega (arith, k, e),
      All-map (λ ps. 3 ≤ length ps) (map (moved by)) loops
          (All-weaker (λ ps. 3 ≤ length ps) (λ ps. 3 ≤ length (map (moved by) ps))
          (λ ps k. let f = length-map ps (moved by) in omega (arith, k, f)) loops h.1),
    )

both_all : {X : Type 0} (P Q R : X → Type 0) → ((x : X) → P x → Q x → R x) → (xs : List X) → All P xs → All Q xs
    → All R xs
both_all P Q R f [] p q = All-nil R
both_all P Q R f (x ∷ xs) p q =
    All-cons R x xs (f x (All-head P x xs p) (All-head Q x xs q))
    (both_all P Q R f xs (All-tail P x xs p) (All-tail Q x xs q))

pub via_probe_fit : (d : Design) (padstack : ℕ) (at : Point) → IsDesignFit d
    → are_near_at at (padstack_pieces d padstack) ≡ true → All IsFit (map (moved_piece at) (padstack_pieces d padstack))
via_probe_fit d padstack at f e =
    All-map IsFit (moved_piece at) (padstack_pieces d padstack)
    (both_all IsFit (λ q. is_spine_near_at at q.spine ≡ true) (λ q. IsFit (moved_piece at q))
    (λ q h n. record {
      well_formed = still_formed at q.spine h.well_formed;
      within = spine_near at q.spine n;
      width_within = h.width_within;
    })
    (padstack_pieces d padstack) (stack_fit d padstack f)
    (AllPass-from_list_all (λ (q : Piece). is_spine_near_at at q.spine) (padstack_pieces d padstack) e))
