-- An item of chains and its parts: a move that is clear of each part is clear of the item.
use Rattle.std.proofs.Common.{◌≡◌, ℕ, ◌+◌, ◌*◌, ◌<◌, ◌≤◌, ◌^◌, List, [], ◌∷◌, ◌++◌, map, flat_map, length}
use Rattle.std.proofs.Common.{max, All, IfSome, Option, Some, None, refl, sym}
use Rattle.std.proofs.Common.{ap, ◌∙◌, subst, arith, take, get_or}
use Rattle.std.proofs.lemmas.List.{flat_map_more, take_more}
use Rattle.std.proofs.lemmas.List.Elements.{All-nil, All-cons, All-head, All-tail, All-append, All-weaker}
use Rattle.geo_kernel.specs.declared.point.Point.{Point}
use Rattle.geo_kernel.specs.declared.spine.Spine.{Spine}
use Rattle.geo_kernel.specs.declared.spine.Spine.TheVariants.{Chain, Area}
use Rattle.geo_kernel.specs.Plane.{IsWithin}
use Rattle.geo_kernel.specs.Spine.{Segment, SpinesKeep, IsSpineWithin, BeginsInside, links, chain_segments}
use Rattle.geo_kernel.specs.Spine.{spine_segments}
use Rattle.geo_kernel.proofs.Paths.{All-append_first, All-append_second}
use Rattle.pcb_model.specs.declared.item.Piece.{Piece}
use Rattle.pcb_model.specs.declared.item.Metal.{Metal}
use Rattle.pcb_model.specs.declared.item.Metal.TheVariants.{Wire, Via, Pad, Ban}
use Rattle.pcb_model.specs.declared.item.Item.{Item}
use Rattle.pcb_model.specs.declared.item.Probe.{Probe}
use Rattle.pcb_model.specs.declared.item.Probe.TheVariants as probe
use Rattle.pcb_model.specs.declared.design.Design.{Design}
use Rattle.pcb_model.specs.Bounds.{IsFit}
use Rattle.pcb_model.specs.Pairs.{meets_wires, meets_vias}
use Rattle.pcb_model.specs.Rules.{clearance_of}
use Rattle.pcb_model.specs.Pieces.{metal_of, kind_of, wire_piece}
use Rattle.pcb_model.specs.Pairs.{PieceKeeps, is_compared}
use Rattle.pcb_model.specs.Sound.{IsItemOf, IsLayerOf, IsNetOf}
use Rattle.move_maps.specs.Clear.{IsClearOf}
use Rattle.move_maps.specs.Paint.{IsClearAt}
use Rattle.move_maps.specs.Parts.{IsString, IsStrung, part, parts_by, parts}

-- ---- lists
-- what holds of mapped elements
unmapped : {X Y : Type 0} (P : Y → Type 0) (f : X → Y) (xs : List X) → All P (map f xs) → All (λ x. P (f x)) xs
unmapped P f [] h = All-nil (λ x. P (f x))
unmapped P f (x ∷ xs) h = All-cons (λ y. P (f y)) x xs (All-head P (f x) (map f xs) h)
    (unmapped P f xs (All-tail P (f x) (map f xs) h))

mapped : {X Y : Type 0} (P : Y → Type 0) (f : X → Y) (xs : List X) → All (λ x. P (f x)) xs → All P (map f xs)
mapped P f [] h = All-nil P
mapped P f (x ∷ xs) h = All-cons P (f x) (map f xs) (All-head (λ y. P (f y)) x xs h)
    (mapped P f xs (All-tail (λ y. P (f y)) x xs h))

-- what holds of all parts, piece by piece
part_each : (P : Item → Type 0) (b : Item) (qs : List Piece) → All P (flat_map (parts_by b) qs)
    → All (λ q. All (λ h. P (part b q h)) (spine_segments q.spine)) qs
part_each P b [] h = All-nil (λ q. All (λ h. P (part b q h)) (spine_segments q.spine))
part_each P b (q ∷ qs) h = All-cons (λ q. All (λ h. P (part b q h)) (spine_segments q.spine)) q qs
    (unmapped P (part b q) (spine_segments q.spine)
    (All-append_first P (parts_by b q) (flat_map (parts_by b) qs) h))
    (part_each P b qs (All-append_second P (parts_by b q) (flat_map (parts_by b) qs) h))

-- and back
part_all : (P : Item → Type 0) (b : Item) (qs : List Piece)
    → All (λ q. All (λ h. P (part b q h)) (spine_segments q.spine)) qs → All P (flat_map (parts_by b) qs)
part_all P b [] h = All-nil P
part_all P b (q ∷ qs) h = All-append P (parts_by b q) (flat_map (parts_by b) qs)
    (mapped P (part b q) (spine_segments q.spine)
    (All-head (λ q. All (λ h. P (part b q h)) (spine_segments q.spine)) q qs h))
    (part_all P b qs (All-tail (λ q. All (λ h. P (part b q h)) (spine_segments q.spine)) q qs h))

-- ---- keeping
-- a chain begins where its first link does
begins_same : (p q : Point) (rest : List Point) (s : Spine) → BeginsInside (Chain (p ∷ q ∷ rest)) s
    → BeginsInside (Chain (p ∷ q ∷ [])) s
begins_same p q rest (Chain ps) h = h
begins_same p q rest (Area loops) h = h

-- a spine that keeps from each link of a chain keeps from the chain
spine_kept : (s : Spine) (p q : Point) (rest : List Point) (k : ℕ)
    → All (λ (h : Segment). SpinesKeep s (Chain (h.from ∷ h.to ∷ [])) k) (chain_segments (p ∷ q ∷ rest))
    → SpinesKeep s (Chain (p ∷ q ∷ rest)) k
spine_kept s p q rest k f = record {
  segments = λ i d hi j e hj. (f j e hj).segments i d hi 0 e (omega arith);
  s_outside = λ x. x;
  t_outside = λ x.
      (All-head (λ (h : Segment). SpinesKeep s (Chain (h.from ∷ h.to ∷ [])) k) (record { from = p; to = q })
      (links q rest) f).t_outside (begins_same p q rest s x);
}

-- so does a piece from a piece that is such a chain
piece_kept : (c : ℕ) (p q : Piece) → IsString q
    → All (λ (h : Segment). PieceKeeps c p (wire_piece q.layer q.width (h.from ∷ h.to ∷ []))) (spine_segments q.spine)
    → PieceKeeps c p q
piece_kept c p q s f = record {
  keep = λ e.
      let k = max 1 (2 * c + p.width + q.width) in
      subst (λ (t : Spine). SpinesKeep p.spine t k) (sym s.is)
      (spine_kept p.spine s.first s.second s.rest k
      (All-weaker (λ (h : Segment). PieceKeeps c p (wire_piece q.layer q.width (h.from ∷ h.to ∷ [])))
      (λ (h : Segment). SpinesKeep p.spine (Chain (h.from ∷ h.to ∷ [])) k) (λ h g. g.keep e)
      (chain_segments (s.first ∷ s.second ∷ s.rest))
      (subst (λ (t : Spine). All (λ (h : Segment). PieceKeeps c p
      (wire_piece q.layer q.width (h.from ∷ h.to ∷ []))) (spine_segments t)) s.is f)));
}

-- a probe is compared with a part where it is with the item
same_compared : (p : Probe) (x : Metal)
    → is_compared (metal_of p) (Ban (meets_wires x) (meets_vias x)) ≡ is_compared (metal_of p) x
same_compared (probe.Disc l w a) (Wire n v c) = refl
same_compared (probe.Disc l w a) (Via s b) = refl
same_compared (probe.Disc l w a) (Pad i) = refl
same_compared (probe.Disc l w a) (Ban n v) = refl
same_compared (probe.Step l w a b) (Wire n v c) = refl
same_compared (probe.Step l w a b) (Via s c) = refl
same_compared (probe.Step l w a b) (Pad i) = refl
same_compared (probe.Step l w a b) (Ban n v) = refl
same_compared (probe.Via s a) (Wire n v c) = refl
same_compared (probe.Via s a) (Via t b) = refl
same_compared (probe.Via s a) (Pad i) = refl
same_compared (probe.Via s a) (Ban n v) = refl

-- what is clear of each part is clear of the item
probe_strung : (d : Design) (g : ℕ) (b : Item) (p : Probe) → IsStrung b
    → All (λ (a : Item). IsClearOf d g p a) (parts b) → IsClearOf d g p b
probe_strung d g b p s f =
    let c = clearance_of d (Some g) (kind_of (metal_of p)) b.net b.kind in
    let each = part_each (λ (a : Item). IsClearOf d g p a) b b.pieces f in record {
      keep = λ m. record {
        each = λ i e hi. record {
          each = λ j q hj. piece_kept c _ _ (s.strings j q hj) (λ k h hk.
              (((each j q hj k h hk).keep (same_compared p b.metal ∙ m)).each i e hi).each 0 q (omega arith));
        };
      };
      stay_off = λ v k o. absurd (s.not_smd o.smd);
    }

-- so is a move
pub move_strung : (d : Design) (g : ℕ) (b : Item) (o : Option Probe) → IsStrung b
    → All (λ (a : Item). IsClearAt d g a o) (parts b) → IsClearAt d g b o
move_strung d g b None s f = tt
move_strung d g b (Some p) s f = probe_strung d g b p s f

-- ---- the parts fit
-- both ends of a link
abbrev AreEndsWithin : Segment → Type 0
AreEndsWithin h = IsWithin (2 ^ 29) h.from × IsWithin (2 ^ 29) h.to

-- of links
links_within : (p : Point) (qs : List Point) → IsWithin (2 ^ 29) p → All (IsWithin (2 ^ 29)) qs
    → All AreEndsWithin (links p qs)
links_within p [] h f = All-nil AreEndsWithin
links_within p (q ∷ qs) h f =
    let k = All-head (IsWithin (2 ^ 29)) q qs f in
    All-cons AreEndsWithin (record { from = p; to = q }) (links q qs) (h, k)
    (links_within q qs k (All-tail (IsWithin (2 ^ 29)) q qs f))

-- of a chain of two points or more
chain_within : (p q : Point) (rest : List Point) → All (IsWithin (2 ^ 29)) (p ∷ q ∷ rest)
    → All AreEndsWithin (chain_segments (p ∷ q ∷ rest))
chain_within p q rest f = links_within p (q ∷ rest) (All-head (IsWithin (2 ^ 29)) p (q ∷ rest) f)
    (All-tail (IsWithin (2 ^ 29)) p (q ∷ rest) f)

-- one part
one_part : (d : Design) (b : Item) (q : Piece) (h : Segment) → IfSome b.net (IsNetOf d) → IsFit q → IsLayerOf d q
    → AreEndsWithin h → IsItemOf d (part b q h)
one_part d b q h n f l w =
    let piece = wire_piece q.layer q.width (h.from ∷ h.to ∷ []) in record {
      fits = record {
        pieces_fit =
            All-cons IsFit piece []
            (record {
              well_formed = omega arith;
              within = All-cons (IsWithin (2 ^ 29)) h.from (h.to ∷ []) w.0
                  (All-cons (IsWithin (2 ^ 29)) h.to [] w.1 (All-nil (IsWithin (2 ^ 29))));
              width_within = f.width_within;
            }) (All-nil IsFit);
      };
      metal_fits = tt;
      metal_in_range = tt;
      layers_in_range = All-cons (IsLayerOf d) piece [] l (All-nil (IsLayerOf d));
      net_in_range = n;
    }

-- all parts
pub parts_fit : (d : Design) (b : Item) → IsStrung b → IsItemOf d b → All (IsItemOf d) (parts b)
parts_fit d b s f = part_all (IsItemOf d) b b.pieces (λ j q hj.
    of_piece (get_or b.pieces j q) (s.strings j q hj) (f.fits.pieces_fit j q hj) (f.layers_in_range j q hj))
  where
    of_piece : (q : Piece) → IsString q → IsFit q → IsLayerOf d q
        → All (λ h. IsItemOf d (part b q h)) (spine_segments q.spine)
    of_piece q k fit l =
        subst (λ (t : Spine). All (λ h. IsItemOf d (part b q h)) (spine_segments t)) (sym k.is)
        (All-weaker AreEndsWithin (λ h. IsItemOf d (part b q h)) (λ h w. one_part d b q h f.net_in_range fit l w)
        (chain_segments (k.first ∷ k.second ∷ k.rest))
        (chain_within k.first k.second k.rest (subst (IsSpineWithin (2 ^ 29)) k.is fit.within)))

-- ---- link by link
-- the parts of the pieces so far, and of one more
pub parts_next : (b : Item) (k : ℕ) (q : Piece) (xs ys : List Item) → k < length b.pieces
    → q ≡ get_or b.pieces k q → xs ≡ flat_map (parts_by b) (take k b.pieces) → ys ≡ xs ++ parts_by b q
    → ys ≡ flat_map (parts_by b) (take (k + 1) b.pieces)
parts_next b k q xs ys h is e f =
    f ∙ (ap (λ (zs : List Item). zs ++ parts_by b q) e
    ∙ (flat_map_more (parts_by b) [] (take k b.pieces) q
    ∙ ap (flat_map (parts_by b)) (ap (λ (x : Piece). take k b.pieces ++ x ∷ []) is
    ∙ sym (take_more b.pieces k q h))))

-- a chain of two points or more is a string
pub string_of : (q : Piece) (points : List Point) → q.spine ≡ Chain points → 2 ≤ length points → IsString q
string_of q [] e h = absurd (omega (arith, h))
string_of q (p ∷ []) e h = absurd (omega (arith, h))
string_of q (p ∷ r ∷ rest) e h = record { first = p; second = r; rest = rest; is = e }
