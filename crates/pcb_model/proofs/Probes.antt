-- Wires and vias that no item was made of.
use Rattle.std.proofs.Common.{◌≡◌, ℕ, Bool, true, false, not, ◌&&◌, ◌⊎◌, inl, inr, ⊎_elim, List, [], ◌∷◌, map, All, Any}
use Rattle.std.proofs.Common.{◌↔◌, true≢false, refl, sym, ap, ◌∙◌, subst, Some, None, Option, slice_get, arith}
use Prim.Native.Nat.{zero, suc}
use Rattle.std.specs.Prelude.{IfSome}
use Rattle.std.proofs.lemmas.List.Elements.{All-head, All-tail, All-cons, All-nil}
use Rattle.geo_kernel.specs.declared.point.Point.{Point}
use Rattle.pcb_model.specs.declared.item.Kind.{Kind}
use Rattle.pcb_model.specs.declared.item.Kind.TheVariants as kind
use Rattle.pcb_model.specs.declared.item.Piece.{Piece}
use Rattle.pcb_model.specs.declared.item.Item.{Item}
use Rattle.pcb_model.specs.declared.item.Metal.{Metal}
use Rattle.pcb_model.specs.declared.item.Metal.TheVariants.{Wire, Via, Pad, Ban}
use Rattle.pcb_model.specs.declared.item.Probe.{Probe}
use Rattle.pcb_model.specs.declared.item.Probe.TheVariants.{Disc, Step, Via as ViaProbe}
use Rattle.pcb_model.specs.declared.design.Padstack.{Padstack}
use Rattle.pcb_model.specs.declared.design.Design.{Design}
use Rattle.pcb_model.specs.Bounds.{IsFit, IsDesignFit, IsProbeFit}
use Rattle.pcb_model.proofs.Within.{All-at}
use Rattle.pcb_model.specs.Pairs.{meets_wires, meets_vias}
use Rattle.pcb_model.specs.Rules.{is_kind, is_pair, clearance_of}
use Rattle.pcb_model.specs.Pairs.{KeepsFrom, PiecesKeep, PiecesTouch, is_same_net, is_compared, must_keep}
use Rattle.pcb_model.specs.Pairs.{must_stay_off, Agrees}
use Rattle.pcb_model.specs.Pieces.{wire_piece, item_of, moved_piece, pieces_in, padstack_pieces, pieces_of, metal_of}

wires_met : (layer width : ℕ) (chain : List Point) (m : Metal) → is_compared (Wire layer width chain) m ≡ meets_wires m
wires_met layer width chain (Wire l w c) = refl
wires_met layer width chain (Via p at) = refl
wires_met layer width chain (Pad p) = refl
wires_met layer width chain (Ban w v) = refl

pub vias_met : (padstack : ℕ) (at : Point) (m : Metal) → is_compared (Via padstack at) m ≡ meets_vias m
vias_met padstack at (Wire l w c) = refl
vias_met padstack at (Via p q) = refl
vias_met padstack at (Pad p) = refl
vias_met padstack at (Ban w v) = refl

never : (x y : Bool) → (x && y && false) ≡ true → ⊥
never true true e = cc
never true false e = cc
never false true e = cc
never false false e = cc

only_smd : (x y : Bool) (k : Kind) → (x && y && is_pair kind.Via k kind.Via kind.Smd) ≡ (x && y && is_kind k kind.Smd)
only_smd x y kind.Wire = refl
only_smd x y kind.Via = refl
only_smd x y kind.Pin = refl
only_smd x y kind.Smd = refl
only_smd x y kind.Area = refl

module _ (d : Design) (net layer width : ℕ) (chain : List Point) (b : Item) where
  same : must_keep (item_of d 0 (Some net) false (Wire layer width chain)) b
      ≡ (not (is_same_net (Some net) b.net) && meets_wires b.metal)
  same = ap (λ (x : Bool). not (is_same_net (Some net) b.net) && x) (wires_met layer width chain b.metal)

  pub wire_kept : (not (is_same_net (Some net) b.net) && meets_wires b.metal) ≡ true
      → KeepsFrom (clearance_of d (Some net) kind.Wire b.net b.kind) b.pieces (wire_piece layer width chain)
      ↔ Agrees d (item_of d 0 (Some net) false (Wire layer width chain)) b
  wire_kept m =
      let P = KeepsFrom (clearance_of d (Some net) kind.Wire b.net b.kind) b.pieces in
      let p = wire_piece layer width chain in (
        λ h. record {
          keep = λ k. record { each = All-cons P p [] h (All-nil P) };
          stay_off = λ k. absurd (never (not d.via_at_smd) (is_same_net (Some net) b.net) k);
        },
        λ h. All-head P p [] (h.keep (same ∙ m)).each,
      )

  -- what need not keep from the wire agrees with it
  pub wire_free : (not (is_same_net (Some net) b.net) && meets_wires b.metal) ≡ false
      → Agrees d (item_of d 0 (Some net) false (Wire layer width chain)) b
  wire_free m = record {
    keep = λ k. absurd (true≢false (sym (sym same ∙ k) ∙ m));
    stay_off = λ k. absurd (never (not d.via_at_smd) (is_same_net (Some net) b.net) k);
  }

-- what a via's pieces are
module _ (d : Design) (net padstack : ℕ) (at : Point) (b : Item) (ps : List Piece) (e : ps ≡ padstack_pieces d padstack)
  where
    K : List Piece → Type 0
    K rs = (not (is_same_net (Some net) b.net) && meets_vias b.metal) ≡ true
        → PiecesKeep (clearance_of d (Some net) kind.Via b.net b.kind) (map (moved_piece at) rs) b.pieces

    same_keep : must_keep (item_of d 0 (Some net) false (Via padstack at)) b
        ≡ (not (is_same_net (Some net) b.net) && meets_vias b.metal)
    same_keep = ap (λ (x : Bool). not (is_same_net (Some net) b.net) && x) (vias_met padstack at b.metal)

    same_off : must_stay_off d (item_of d 0 (Some net) false (Via padstack at)) b
        ≡ (not d.via_at_smd && is_same_net (Some net) b.net && is_kind b.kind kind.Smd)
    same_off = only_smd (not d.via_at_smd) (is_same_net (Some net) b.net) b.kind

    pub via_told :
        ((not (is_same_net (Some net) b.net) && meets_vias b.metal) ≡ true
        → PiecesKeep (clearance_of d (Some net) kind.Via b.net b.kind) (map (moved_piece at) ps) b.pieces)
        → ((not d.via_at_smd && is_same_net (Some net) b.net && is_kind b.kind kind.Smd) ≡ true
        → ¬ (PiecesTouch (map (moved_piece at) ps) b.pieces))
        → Agrees d (item_of d 0 (Some net) false (Via padstack at)) b
    via_told keep off =
        let F : List Piece
        → Type 0 = λ rs. PiecesKeep (clearance_of d (Some net) kind.Via b.net b.kind) (map (moved_piece at) rs)
        b.pieces in
        let T : List Piece → Type 0 = λ rs. ¬ (PiecesTouch (map (moved_piece at) rs) b.pieces) in
        record { keep = λ k. subst F e (keep (sym same_keep ∙ k)); stay_off = λ k. subst T e (off (sym same_off ∙ k)) }

    pub via_keep : Agrees d (item_of d 0 (Some net) false (Via padstack at)) b
        → (not (is_same_net (Some net) b.net) && meets_vias b.metal) ≡ true
        → PiecesKeep (clearance_of d (Some net) kind.Via b.net b.kind) (map (moved_piece at) ps) b.pieces
    via_keep h m =
        let F : List Piece
        → Type 0 = λ rs. PiecesKeep (clearance_of d (Some net) kind.Via b.net b.kind) (map (moved_piece at) rs)
        b.pieces in
        subst F (sym e) (h.keep (same_keep ∙ m))

    pub via_off : Agrees d (item_of d 0 (Some net) false (Via padstack at)) b
        → (not d.via_at_smd && is_same_net (Some net) b.net && is_kind b.kind kind.Smd) ≡ true
        → ¬ (PiecesTouch (map (moved_piece at) ps) b.pieces)
    via_off h m =
        let T : List Piece → Type 0 = λ rs. ¬ (PiecesTouch (map (moved_piece at) rs) b.pieces) in
        subst T (sym e) (h.stay_off (same_off ∙ m))

-- all and some of a list of moved pieces
pub All-unmap : {X Y : Type 0} (P : Y → Type 0) (f : X → Y) (xs : List X) → All P (map f xs) → All (λ x. P (f x)) xs
All-unmap P f [] h = All-nil (λ x. P (f x))
All-unmap P f (x ∷ xs) h =
    All-cons (λ y. P (f y)) x xs (All-head P (f x) (map f xs) h) (All-unmap P f xs (All-tail P (f x) (map f xs) h))

Any-here : {X : Type 0} (P : X → Type 0) (x : X) (xs : List X) → P x → Any P (x ∷ xs)
Any-here P x xs h = (0, x, omega arith, refl, h)

Any-there : {X : Type 0} (P : X → Type 0) (x : X) (xs : List X) → Any P xs → Any P (x ∷ xs)
Any-there P x xs h = (suc h.0, h.1, omega (arith, h.2), h.3, h.4)

Any-cases : {X : Type 0} (P : X → Type 0) (x : X) (xs : List X) → Any P (x ∷ xs) → P x ⊎ Any P xs
Any-cases P x xs (zero, y, l, e, h) = inl (subst P (sym e) h)
Any-cases P x xs (suc k, y, l, e, h) = inr (k, y, omega arith, e, h)

Any-nil : {X : Type 0} (P : X → Type 0) → Any P [] → ⊥
Any-nil P (k, y, l, e, h) = omega arith

pub Any-map : {X Y : Type 0} (P : Y → Type 0) (f : X → Y) (xs : List X) → Any (λ x. P (f x)) xs → Any P (map f xs)
Any-map P f [] h = absurd (Any-nil (λ x. P (f x)) h)
Any-map P f (x ∷ xs) h =
    ⊎_elim (λ a. Any-here P (f x) (map f xs) a) (λ a. Any-there P (f x) (map f xs) (Any-map P f xs a))
    (Any-cases (λ y. P (f y)) x xs h)

pub Any-unmap : {X Y : Type 0} (P : Y → Type 0) (f : X → Y) (xs : List X) → Any P (map f xs) → Any (λ x. P (f x)) xs
Any-unmap P f [] h = absurd (Any-nil P h)
Any-unmap P f (x ∷ xs) h =
    ⊎_elim (λ a. Any-here (λ y. P (f y)) x xs a) (λ a. Any-there (λ y. P (f y)) x xs (Any-unmap P f xs a))
    (Any-cases P (f x) (map f xs) h)

-- what a probe's fitness says
pub disc_fit : (d : Design) (p : Probe) (layer width : ℕ) (at : Point) → p ≡ Disc layer width at → IsProbeFit d p
    → IsFit (wire_piece layer width (at ∷ []))
disc_fit d p layer width at e h = let P : Probe → Type 0 = λ q. All IsFit (pieces_of d (metal_of q)) in
    All-head IsFit (wire_piece layer width (at ∷ [])) [] (subst P e h.pieces_fit)

pub step_fit : (d : Design) (p : Probe) (layer width : ℕ) (a b : Point) → p ≡ Step layer width a b → IsProbeFit d p
    → IsFit (wire_piece layer width (a ∷ b ∷ []))
step_fit d p layer width a b e h = let P : Probe → Type 0 = λ q. All IsFit (pieces_of d (metal_of q)) in
    All-head IsFit (wire_piece layer width (a ∷ b ∷ [])) [] (subst P e h.pieces_fit)

pub via_fit : (d : Design) (p : Probe) (padstack : ℕ) (at : Point) → p ≡ ViaProbe padstack at → IsProbeFit d p
    → All (λ r. IsFit (moved_piece at r)) (padstack_pieces d padstack)
via_fit d p padstack at e h = let P : Probe → Type 0 = λ q. All IsFit (pieces_of d (metal_of q)) in
    All-unmap IsFit (moved_piece at) (padstack_pieces d padstack) (subst P e h.pieces_fit)

if_pieces : (o : Option Padstack) → IfSome o (λ (s : Padstack). All IsFit s.pieces) → All IsFit (pieces_in o)
if_pieces None h = All-nil IsFit
if_pieces (Some s) h = h

pub stack_fit : (d : Design) (padstack : ℕ) → IsDesignFit d → All IsFit (padstack_pieces d padstack)
stack_fit d padstack h =
    if_pieces (slice_get d.padstacks padstack)
    (All-at (λ (s : Padstack). All IsFit s.pieces) d.padstacks padstack h.padstacks_fit)
