-- Where what each move lays agrees with an item, or is inside, so is the copper.
use Rattle.std.proofs.Common.{◌≡◌, ℕ, ◌+◌, ◌*◌, max, Bool, true, false, not, ◌&&◌, Some, List, [], ◌∷◌, map, get_or}
use Rattle.std.proofs.Common.{All, refl, sym, ap, ◌∙◌}
use Rattle.std.proofs.lemmas.List.Elements.{All-nil, All-cons, All-head, All-tail}
use Rattle.geo_kernel.specs.declared.point.Point.{Point}
use Rattle.geo_kernel.specs.declared.spine.Spine.{Spine}
use Rattle.geo_kernel.specs.declared.spine.Spine.TheVariants.{Chain, Area}
use Rattle.geo_kernel.specs.Spine.{Segment, KeepsAll, BeginsInside, SpinesKeep}
use Rattle.pcb_model.specs.declared.item.Kind.TheVariants as kind
use Rattle.pcb_model.specs.declared.item.Piece.{Piece}
use Rattle.pcb_model.specs.declared.item.Item.{Item}
use Rattle.pcb_model.specs.declared.item.Metal.{Metal}
use Rattle.pcb_model.specs.declared.item.Metal.TheVariants as metal
use Rattle.pcb_model.specs.declared.item.Probe.{Probe}
use Rattle.pcb_model.specs.declared.item.Probe.TheVariants as probe
use Rattle.pcb_model.specs.declared.design.Design.{Design}
use Rattle.pcb_model.specs.Rules.{width_for, clearance_of}
use Rattle.pcb_model.specs.Pieces.{wire_piece}
use Rattle.pcb_model.specs.Pairs.{PieceKeeps, KeepsFrom, is_same_net, is_compared, must_keep, Agrees, ProbeAgrees}
use Rattle.pcb_model.specs.Board.{BeginsInEach}
use Rattle.pcb_model.specs.Pairs.{meets_wires}
use Rattle.route_lattice.specs.declared.moves.Move.{Move}
use Rattle.route_lattice.specs.declared.moves.Move.TheVariants as move
use Rattle.route_lattice.specs.Mesh.{Mesh, point_of, layer_of}
use Rattle.route_lattice.specs.Fits.{FitsDesign}
use Rattle.route_lattice.specs.Legal.{disc_at}
use Rattle.path_wire.specs.Wires.{IsNetWalk, corners, wire_from, copper_from, copper_of}
use Rattle.path_wire.specs.Lays.{walk_probes, laid_item, IsProbeInside, IsMetalInside}
use Rattle.path_wire.proofs.Bends.{parts_keep}
use Rattle.path_wire.proofs.Dirs.{IsAhead, ahead_between}
use Rattle.path_wire.proofs.Stretches.{segment, StepsHave, steps_map, chain_has}
use Rattle.path_wire.proofs.Walking.{each_metal, Walks, none_left, walks_on, lays, steps_have}

-- ---- wires of a net are asked alike
wire_met : (layer width : ℕ) (chain : List Point) (b : Metal) → is_compared (metal.Wire layer width chain) b
    ≡ meets_wires b
wire_met layer width chain (metal.Wire l w c) = refl
wire_met layer width chain (metal.Via p at) = refl
wire_met layer width chain (metal.Pad p) = refl
wire_met layer width chain (metal.Ban w v) = refl

module _ (d : Design) (net : ℕ) (b : Item) where
  wire_must : (i j layer width l w : ℕ) (chain c : List Point)
      → must_keep (laid_item d net i (metal.Wire layer width chain)) b
      ≡ must_keep (laid_item d net j (metal.Wire l w c)) b
  wire_must i j layer width l w chain c =
      ap (λ (x : Bool). not (is_same_net (Some net) b.net) && x)
      (wire_met layer width chain b.metal ∙ sym (wire_met l w c b.metal))

  never : (x y : Bool) → (x && y && false) ≡ true → ⊥
  never true true e = cc
  never true false e = cc
  never false true e = cc
  never false false e = cc

  -- an id doesn't matter
  pub other_id : (i j : ℕ) (a : Metal) → Agrees d (laid_item d net i a) b → Agrees d (laid_item d net j a) b
  other_id i j a h = record { keep = h.keep; stay_off = h.stay_off }

  -- a wire agrees where its chain keeps what steps keep
  pub wire_agrees : (i layer width : ℕ) (chain start : List Point)
      → Agrees d (laid_item d net 0 (metal.Wire layer width start)) b
      → (must_keep (laid_item d net 0 (metal.Wire layer width start)) b ≡ true
      → KeepsFrom (clearance_of d (Some net) kind.Wire b.net b.kind) b.pieces (wire_piece layer width chain))
      → Agrees d (laid_item d net i (metal.Wire layer width chain)) b
  wire_agrees i layer width chain start h f = record {
    keep = λ m. record {
      each = All-cons (KeepsFrom (clearance_of d (Some net) kind.Wire b.net b.kind) b.pieces)
          (wire_piece layer width chain) [] (f (wire_must 0 i layer width layer width start chain ∙ m)) (All-nil _);
    };
    stay_off = λ m. absurd (never (not d.via_at_smd) (is_same_net (Some net) b.net) m);
  }

  pub wire_keeps : (layer width : ℕ) (chain : List Point)
      → Agrees d (laid_item d net 0 (metal.Wire layer width chain)) b
      → must_keep (laid_item d net 0 (metal.Wire layer width chain)) b ≡ true
      → KeepsFrom (clearance_of d (Some net) kind.Wire b.net b.kind) b.pieces (wire_piece layer width chain)
  wire_keeps layer width chain h m =
      All-head (KeepsFrom (clearance_of d (Some net) kind.Wire b.net b.kind) b.pieces) (wire_piece layer width chain) []
      (h.keep m).each

-- ---- a spine against the wire of a stretch
begins_same : (p : Point) (ps qs : List Point) (t : Spine) → BeginsInside (Chain (p ∷ ps)) t
    → BeginsInside (Chain (p ∷ qs)) t
begins_same p ps qs (Chain rs) h = h
begins_same p ps qs (Area loops) h = h

merge_all : (k : ℕ) (t : Spine) (dir : ℕ) (a b c : Point) → IsAhead dir a b → IsAhead dir b c
    → KeepsAll k t (segment a b) → KeepsAll k t (segment b c) → KeepsAll k t (segment a c)
merge_all k t dir a b c f g h e =
    λ i s l. parts_keep f.gap g.gap a b c _ _ k (ahead_between dir a b c f g) (h i s l) (e i s l)

pub stretch_keeps : (k : ℕ) (t : Spine) (at : ℕ → Point) (v w : ℕ) (vs : List ℕ) (dir : ℕ) (ms : List Move)
    → StepsHave (λ (g : Segment). SpinesKeep (Chain (g.from ∷ g.to ∷ [])) t k) at v (w ∷ vs) (move.Step dir ∷ ms)
    → SpinesKeep (Chain (map at (v ∷ corners (w ∷ vs) (move.Step dir ∷ ms)))) t k
stretch_keeps k t at v w vs dir ms h = record {
  segments = chain_has (KeepsAll k t) at (merge_all k t) v w vs dir ms
      (steps_map (λ (g : Segment). SpinesKeep (Chain (g.from ∷ g.to ∷ [])) t k) (KeepsAll k t)
      at (λ p q s. All-head (KeepsAll k t) (segment p q) [] s.segments) v (w ∷ vs) (move.Step dir ∷ ms) h);
  s_outside = λ x. h.1.s_outside (begins_same (at v) (map at (corners (w ∷ vs) (move.Step dir ∷ ms))) (at w ∷ []) t x);
  t_outside = λ x. x;
}

stretch_piece : (c layer width : ℕ) (r : Piece) (at : ℕ → Point) (v w : ℕ) (vs : List ℕ) (dir : ℕ) (ms : List Move)
    → StepsHave (λ (g : Segment). PieceKeeps c (wire_piece layer width (g.from ∷ g.to ∷ [])) r) at v (w ∷ vs)
    (move.Step dir ∷ ms)
    → PieceKeeps c (wire_piece layer width (map at (v ∷ corners (w ∷ vs) (move.Step dir ∷ ms)))) r
stretch_piece c layer width r at v w vs dir ms h =
    let k = max 1 (2 * c + width + r.width) in
    record {
      keep = λ same. stretch_keeps k r.spine at v w vs dir ms
          (steps_map (λ (g : Segment). PieceKeeps c (wire_piece layer width (g.from ∷ g.to ∷ [])) r)
          (λ (g : Segment). SpinesKeep (Chain (g.from ∷ g.to ∷ [])) r.spine k) at (λ p q x. x.keep same) v
          (w ∷ vs) (move.Step dir ∷ ms) h);
    }

-- ---- agreement
module _ (d : Design) (m : Mesh) (net id : ℕ) (b : Item) (fits : FitsDesign d m) where
  stretch_agrees : (v w : ℕ) (vs : List ℕ) (dir : ℕ) (ms : List Move)
      → Walks d m net (λ (p : Probe). ProbeAgrees d net p b) v (w ∷ vs) (move.Step dir ∷ ms)
      → Agrees d (laid_item d net id (wire_from m (width_for d net) v (w ∷ vs) (move.Step dir ∷ ms))) b
  stretch_agrees v w vs dir ms g =
      let layer = layer_of m v in
      let width = width_for d net in
      let start : List Point = point_of m v ∷ point_of m w ∷ [] in
      let P : Probe → Type 0 = λ p. ProbeAgrees d net p b in
      let steps = steps_have d m net fits P layer v (w ∷ vs) (move.Step dir ∷ ms) refl g in
      let c = clearance_of d (Some net) kind.Wire b.net b.kind in
      wire_agrees d net b id layer width (map (point_of m) (v ∷ corners (w ∷ vs) (move.Step dir ∷ ms))) start steps.1
      (λ e. record {
        each = λ i r l.
            stretch_piece c layer width (get_or b.pieces i r) (point_of m) v w vs dir ms
            (steps_map (λ (s : Segment). P (probe.Step layer width s.from s.to))
            (λ (s : Segment). PieceKeeps c (wire_piece layer width (s.from ∷ s.to ∷ [])) (get_or b.pieces i r))
            (point_of m)
            (λ p q h. (wire_keeps d net b layer width (p ∷ q ∷ []) h
            (wire_must d net b 0 0 layer width layer width (p ∷ q ∷ []) start ∙ e)).each i r l) v (w ∷ vs)
            (move.Step dir ∷ ms) steps);
      })

  pub agree_from : (v : ℕ) (vs : List ℕ) (ms : List Move) → Walks d m net (λ (p : Probe). ProbeAgrees d net p b) v vs ms
      → All (λ (a : Metal). Agrees d (laid_item d net id a) b) (copper_from m (width_for d net) true (v ∷ vs) ms)
  agree_from v vs ms g =
      let P : Probe → Type 0 = λ p. ProbeAgrees d net p b in
      each_metal m (width_for d net) (λ (a : Metal). Agrees d (laid_item d net id a) b) (Walks d m net P)
      (none_left d m net P) (walks_on d m net P)
      (λ v w vs padstack layer ms g. other_id d net b 0 id (metal.Via padstack (point_of m v))
      (lays d m net P v w vs (move.Via padstack layer) ms g)) stretch_agrees true v vs ms g

  -- a wire from a point to itself is as its disc
  point_agrees : (layer width : ℕ) (p : Point) → Agrees d (laid_item d net 0 (metal.Wire layer width (p ∷ []))) b
      → Agrees d (laid_item d net id (metal.Wire layer width (p ∷ p ∷ []))) b
  point_agrees layer width p h =
      wire_agrees d net b id layer width (p ∷ p ∷ []) (p ∷ []) h
      (λ e. record {
        each = λ i r l. record {
          keep = λ same.
              let s = ((wire_keeps d net b layer width (p ∷ []) h e).each i r l).keep same in
              record {
                segments = s.segments;
                s_outside = λ x. s.s_outside (begins_same p (p ∷ []) [] _ x);
                t_outside = λ x. x;
              };
        };
      })

  pub walk_agrees : (nodes : List ℕ) (ms : List Move) → IsNetWalk d m net nodes ms
      → All (λ (p : Probe). ProbeAgrees d net p b) (walk_probes d m net nodes ms)
      → All (λ (a : Metal). Agrees d (laid_item d net id a) b) (copper_of d m net nodes ms)
  walk_agrees [] [] w h = absurd w.leads
  walk_agrees [] (a ∷ ms) w h = absurd w.leads
  walk_agrees (v ∷ vs) [] w h =
      All-cons (λ (a : Metal). Agrees d (laid_item d net id a) b) _ []
      (point_agrees (layer_of m v) (width_for d net) (point_of m v)
      (All-head (λ (p : Probe). ProbeAgrees d net p b) (disc_at d m net v) _ h)) (All-nil _)
  walk_agrees (v ∷ vs) (a ∷ ms) w h =
      agree_from v vs (a ∷ ms)
      (record {
        there = w.there;
        leads = w.leads;
        laid = All-tail (λ (p : Probe). ProbeAgrees d net p b) (disc_at d m net v) _ h;
      })

-- ---- inside
-- a wire begins where another does
begins_inside : (d : Design) (layer width l w : ℕ) (p : Point) (ps qs : List Point)
    → IsMetalInside d (metal.Wire layer width (p ∷ ps)) → IsMetalInside d (metal.Wire l w (p ∷ qs))
begins_inside d layer width l w p ps qs h =
    record {
      each = All-cons (BeginsInEach d.bounds) (wire_piece l w (p ∷ qs)) []
          (record { each = (All-head (BeginsInEach d.bounds) (wire_piece layer width (p ∷ ps)) [] h.each).each })
          (All-nil (BeginsInEach d.bounds));
    }

module _ (d : Design) (m : Mesh) (net : ℕ) where
  inside_from : (v : ℕ) (vs : List ℕ) (ms : List Move) → Walks d m net (IsProbeInside d) v vs ms
      → All (IsMetalInside d) (copper_from m (width_for d net) true (v ∷ vs) ms)
  inside_from v vs ms g =
      each_metal m (width_for d net) (IsMetalInside d) (Walks d m net (IsProbeInside d))
      (none_left d m net (IsProbeInside d)) (walks_on d m net (IsProbeInside d))
      (λ v w vs padstack layer ms g. lays d m net (IsProbeInside d) v w vs (move.Via padstack layer) ms g)
      (λ v w vs dir ms g. begins_inside d (layer_of m v) (width_for d net) (layer_of m v) (width_for d net)
      (point_of m v) (point_of m w ∷ []) _ (lays d m net (IsProbeInside d) v w vs (move.Step dir) ms g))
      true v vs ms g

  pub walk_inside : (nodes : List ℕ) (ms : List Move) → IsNetWalk d m net nodes ms
      → All (IsProbeInside d) (walk_probes d m net nodes ms) → All (IsMetalInside d) (copper_of d m net nodes ms)
  walk_inside [] [] w h = absurd w.leads
  walk_inside [] (a ∷ ms) w h = absurd w.leads
  walk_inside (v ∷ vs) [] w h =
      All-cons (IsMetalInside d) (metal.Wire (layer_of m v) (width_for d net) (point_of m v ∷ point_of m v ∷ [])) []
      (begins_inside d (layer_of m v) (width_for d net) (layer_of m v) (width_for d net) (point_of m v) []
      (point_of m v ∷ []) (All-head (IsProbeInside d) (disc_at d m net v) _ h)) (All-nil (IsMetalInside d))
  walk_inside (v ∷ vs) (a ∷ ms) w h =
      inside_from v vs (a ∷ ms)
      (record { there = w.there; leads = w.leads; laid = All-tail (IsProbeInside d) (disc_at d m net v) _ h })
