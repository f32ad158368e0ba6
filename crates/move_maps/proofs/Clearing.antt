-- What the tests of wires and vias say of probes, and that a wire is too near where its first point is.
use Rattle.std.proofs.Common.{◌≡◌, ℕ, ◌+◌, ◌*◌, max, Bool, false, IsTrue, ◌↔◌, List, [], ◌∷◌, map, Some}
use Rattle.std.proofs.Common.{refl, sym, ◌∙◌, subst}
use Rattle.std.proofs.lemmas.Bool.{false≢true}
use Rattle.std.proofs.lemmas.List.Elements.{All-head, All-cons, All-nil, All-weaker}
use Rattle.geo_kernel.specs.declared.point.Point.{Point}
use Rattle.geo_kernel.specs.declared.spine.Spine.{Spine}
use Rattle.geo_kernel.specs.declared.spine.Spine.TheVariants.{Chain, Area}
use Rattle.geo_kernel.specs.Spine.{Segment, Keeps, KeepsAll, BeginsInside, SpinesKeep, spine_segments}
use Rattle.geo_kernel.proofs.Segments.{keep_to_ends}
use Rattle.pcb_model.specs.declared.item.Kind.TheVariants as kind
use Rattle.pcb_model.specs.declared.item.Item.{Item}
use Rattle.pcb_model.specs.declared.item.Metal.{Metal}
use Rattle.pcb_model.specs.declared.item.Metal.TheVariants.{Wire, Via, Pad, Ban}
use Rattle.pcb_model.specs.declared.item.Piece.{Piece}
use Rattle.pcb_model.specs.declared.item.Probe.TheVariants as probe
use Rattle.pcb_model.specs.declared.design.Design.{Design}
use Rattle.pcb_model.specs.Pairs.{meets_wires}
use Rattle.pcb_model.specs.Pairs.{PieceKeeps, KeepsFrom, PiecesKeep, is_compared}
use Rattle.pcb_model.specs.Pieces.{wire_piece, moved_piece, padstack_pieces}
use Rattle.pcb_model.specs.Rules.{clearance_of}
use Rattle.pcb_model.proofs.Probes.{vias_met}
use Rattle.move_maps.specs.Clear.{WireKeeps, ViaKeeps, StaysOffPad, IsClearOf}
use Rattle.move_maps.specs.Margins.{ShutsSteps}
use Rattle.move_maps.proofs.Painting.{not_both}

-- which items a wire is compared with
wires_met : (layer width : ℕ) (chain : List Point) (m : Metal) → is_compared (Wire layer width chain) m ≡ meets_wires m
wires_met layer width chain (Wire l w c) = refl
wires_met layer width chain (Via p at) = refl
wires_met layer width chain (Pad p) = refl
wires_met layer width chain (Ban w v) = refl

-- a wire is no via
not_via : (X : Type 0) → kind.Wire ≡ kind.Via → X
not_via X e = cc

-- ---- a wire's first point
-- a chain begins where its first point is
begins : (a q : Point) (t : Spine) → BeginsInside (Chain (a ∷ [])) t → BeginsInside (Chain (a ∷ q ∷ [])) t
begins a q (Chain ps) h = h
begins a q (Area loops) h = h

-- what a link keeps its first point keeps
first_keeps : (a q : Point) (t : Spine) (k : ℕ) → SpinesKeep (Chain (a ∷ q ∷ [])) t k → SpinesKeep (Chain (a ∷ [])) t k
first_keeps a q t k h =
    let link : Segment = record { from = a; to = q } in
    let dot : Segment = record { from = a; to = a } in record {
      segments = All-cons (KeepsAll k t) dot []
          (All-weaker (Keeps k link) (Keeps k dot) (λ s x. (keep_to_ends a q s.from s.to k x).first) (spine_segments t)
          (All-head (KeepsAll k t) link [] h.segments)) (All-nil (KeepsAll k t));
      s_outside = λ x. h.s_outside (begins a q t x);
      t_outside = λ x. x;
    }

-- the same of pieces
first_from : (c layer width : ℕ) (a q : Point) (rs : List Piece) → KeepsFrom c rs (wire_piece layer width (a ∷ q ∷ []))
    → KeepsFrom c rs (wire_piece layer width (a ∷ []))
first_from c layer width a q rs h = record {
  each = All-weaker (PieceKeeps c (wire_piece layer width (a ∷ q ∷ [])))
      (PieceKeeps c (wire_piece layer width (a ∷ [])))
      (λ r k. record {
        keep = λ e. first_keeps a q r.spine (max 1 (2 * c + width + r.width)) (k.keep e);
      }) rs h.each;
}

-- and of a wire and an item
pub wire_from : (c layer width : ℕ) (a q : Point) (b : Item) → WireKeeps c layer width (a ∷ q ∷ []) b
    → WireKeeps c layer width (a ∷ []) b
wire_from c layer width a q b h = λ m. first_from c layer width a q b.pieces (h m)

module _ (d : Design) (g : ℕ) (b : Item) where
  -- a step is clear where its wire keeps the clearance of the group's wires
  pub step_told : (c layer width : ℕ) (a q : Point) (r : Bool) → c ≡ clearance_of d (Some g) kind.Wire b.net b.kind
      → (IsTrue r ↔ WireKeeps c layer width (a ∷ q ∷ []) b) → (IsTrue r ↔ IsClearOf d g (probe.Step layer width a q) b)
  step_told c layer width a q r e h =
      let piece = wire_piece layer width (a ∷ q ∷ []) in
      let met = wires_met layer width (a ∷ q ∷ []) b.metal in
      let F : ℕ → Type 0 = λ n. KeepsFrom n b.pieces piece in
      let K : Piece → Type 0 = KeepsFrom (clearance_of d (Some g) kind.Wire b.net b.kind) b.pieces in (
        λ t. record {
          keep = λ m. record { each = All-cons K piece [] (subst F e (h.0 t (sym met ∙ m))) (All-nil K) };
          stay_off = λ v k o. not_via _ k;
        },
        λ x. h.1 (λ m. subst F (sym e) (All-head K piece [] (x.keep (met ∙ m)).each)),
      )

  -- a step isn't clear where no wire from its first point is
  pub step_shut : (c layer width : ℕ) (a q : Point) → c ≡ clearance_of d (Some g) kind.Wire b.net b.kind
      → ShutsSteps c layer width a b → (IsTrue false ↔ IsClearOf d g (probe.Step layer width a q) b)
  step_shut c layer width a q e h =
      let piece = wire_piece layer width (a ∷ q ∷ []) in
      let F : ℕ → Type 0 = λ n. KeepsFrom n b.pieces piece in
      let K : Piece → Type 0 = KeepsFrom (clearance_of d (Some g) kind.Wire b.net b.kind) b.pieces in (
        λ t. absurd (false≢true t),
        λ x. absurd (h.each q (λ m. subst F (sym e) (All-head K piece []
            (x.keep (wires_met layer width (a ∷ q ∷ []) b.metal ∙ m)).each))),
      )

  -- a via that doesn't keep the clearance isn't clear
  pub via_shut : (c padstack : ℕ) (at : Point) → c ≡ clearance_of d (Some g) kind.Via b.net b.kind → (r : Bool)
      → (IsTrue r ↔ ViaKeeps d c padstack at b) → r ≡ false
      → (IsTrue false ↔ IsClearOf d g (probe.Via padstack at) b)
  via_shut c padstack at e r h n =
      let F : ℕ → Type 0 = λ k. PiecesKeep k (map (moved_piece at) (padstack_pieces d padstack)) b.pieces in (
        λ t. absurd (false≢true t),
        λ x. absurd (not_both r (h.1 (λ m. subst F (sym e) (x.keep (vias_met padstack at b.metal ∙ m)))) n),
      )

  -- one that does is clear where it stays off the group's pads
  pub via_clear : (c padstack : ℕ) (at : Point) → c ≡ clearance_of d (Some g) kind.Via b.net b.kind
      → ViaKeeps d c padstack at b → (r : Bool) → (IsTrue r ↔ StaysOffPad d g padstack at b)
      → (IsTrue r ↔ IsClearOf d g (probe.Via padstack at) b)
  via_clear c padstack at e k r h =
      let F : ℕ → Type 0 = λ n. PiecesKeep n (map (moved_piece at) (padstack_pieces d padstack)) b.pieces in (
        λ t. record {
          keep = λ m. subst F e (k (sym (vias_met padstack at b.metal) ∙ m));
          stay_off = λ v y o. h.0 t v o;
        },
        λ x. h.1 (λ v o. x.stay_off v refl o),
      )
