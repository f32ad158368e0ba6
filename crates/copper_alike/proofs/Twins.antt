-- What holds of an item's copper holds of its twin's.
use Rattle.std.proofs.Common.{◌≡◌, ◌⊎◌, inl, inr, ℕ, ◌+◌, ◌*◌, ◌<◌, max, true, not, ◌&&◌, List, [], ◌∷◌, Any}
use Rattle.std.proofs.Common.{reverse, refl, sym, ap, ap₂, ◌∙◌, subst, arith}
use Rattle.std.proofs.lemmas.List.{reverse-reverse}
use Rattle.std.proofs.lemmas.List.Elements.{All-nil, All-cons, All-head, All-weaker}
use Rattle.geo_kernel.specs.declared.point.Point.{Point}
use Rattle.geo_kernel.specs.declared.spine.Spine.TheVariants.{Chain}
use Rattle.geo_kernel.specs.Spine.{IsOnSpine, Touches}
use Rattle.geo_kernel.proofs.Paths.{Any-here, Any-cases, Any-nil}
use Rattle.geo_kernel.proofs.Segments.{touch_swapped}
use Rattle.geo_kernel.proofs.Keeping.{touch_symmetric}
use Rattle.turned_chain.proofs.Turned.{turned_keeps, turned_touches, any_reverse, touches_flipped}
use Rattle.pcb_model.specs.declared.item.Kind.TheVariants as kind
use Rattle.pcb_model.specs.declared.item.Piece.{Piece}
use Rattle.pcb_model.specs.declared.item.Metal.{Metal}
use Rattle.pcb_model.specs.declared.item.Metal.TheVariants.{Wire, Via, Pad, Ban}
use Rattle.pcb_model.specs.declared.item.Item.{Item}
use Rattle.pcb_model.specs.declared.design.Design.{Design}
use Rattle.pcb_model.specs.Pieces.{wire_piece}
use Rattle.pcb_model.specs.Rules.{is_pair, clearance_of}
use Rattle.pcb_model.specs.Pairs.{PieceKeeps, KeepsFrom, PiecesKeep, PieceTouches, TouchesSome, PiecesTouch, Agrees}
use Rattle.pcb_model.specs.Pairs.{AreTouching, is_same_net, is_compared, must_keep, must_stay_off}
use Rattle.route_lattice.specs.Mesh.{Mesh, point_of, layer_of}
use Rattle.route_lattice.specs.Anchors.{Anchors, Holds, IsAnchorOf}
use Rattle.copper_alike.specs.Twins.{AreTurned, AreTwins}

-- ---- twins are twins of each other
turned_back : (a b : Item) → AreTurned a b → AreTurned b a
turned_back a b t = record {
  layer = t.layer;
  width = t.width;
  chain = reverse t.chain;
  a_metal = t.b_metal;
  b_metal = t.a_metal ∙ ap (Wire t.layer t.width) (sym (reverse-reverse t.chain));
  a_pieces = t.b_pieces;
  b_pieces = t.a_pieces ∙ ap (λ c. wire_piece t.layer t.width c ∷ []) (sym (reverse-reverse t.chain));
}

pub twins_back : (a b : Item) → AreTwins a b → AreTwins b a
twins_back a b t = record { net_is = sym t.net_is; kind_is = sym t.kind_is; copper = back t.copper }
  where
    back : (((a.metal ≡ b.metal) × (a.pieces ≡ b.pieces)) ⊎ AreTurned a b)
        → ((b.metal ≡ a.metal) × (b.pieces ≡ a.pieces)) ⊎ AreTurned b a
    back (inl (e, f)) = inl (sym e, sym f)
    back (inr x) = inr (turned_back a b x)

pub twins_self : (a : Item) → AreTwins a a
twins_self a = record { net_is = refl; kind_is = refl; copper = inl (refl, refl) }

-- ---- pieces
more_than_none : (n : ℕ) → 0 < max 1 n
more_than_none n = omega arith

module _ (l w : ℕ) (chain : List Point) where
  abbrev there : Piece
  there = wire_piece l w chain

  abbrev back : Piece
  back = wire_piece l w (reverse chain)

  piece_keeps : (c : ℕ) (r : Piece) → PieceKeeps c there r → PieceKeeps c back r
  piece_keeps c r h = record {
    keep = λ e. turned_keeps chain r.spine (max 1 (2 * c + w + r.width)) (more_than_none (2 * c + w + r.width))
        (h.keep e);
  }

  wire_keeps : (c : ℕ) (rs : List Piece) → PiecesKeep c (there ∷ []) rs → PiecesKeep c (back ∷ []) rs
  wire_keeps c rs h = record {
    each = All-cons (KeepsFrom c rs) back [] (record {
      each = All-weaker (PieceKeeps c there) (PieceKeeps c back) (piece_keeps c) rs
          (All-head (KeepsFrom c rs) there [] h.each).each;
    }) (All-nil (KeepsFrom c rs));
  }

  piece_touches : (r : Piece) → PieceTouches there r → PieceTouches back r
  piece_touches r h =
      record { one_layer = h.one_layer; touch = turned_touches chain r.spine (w + r.width) h.touch }

  wire_touches : (rs : List Piece) → PiecesTouch (there ∷ []) rs → PiecesTouch (back ∷ []) rs
  wire_touches rs h = record {
    some = by (Any-cases (TouchesSome rs) there [] h.some);
  }
    where
      by : (TouchesSome rs there ⊎ Any (TouchesSome rs) []) → Any (TouchesSome rs) (back ∷ [])
      by (inl x) = Any-here (TouchesSome rs) back []
          (record { some = (x.some.0, x.some.1, x.some.2, x.some.3, piece_touches x.some.1 x.some.4) })
      by (inr x) = absurd (Any-nil (TouchesSome rs) x)

-- what an item's pieces keep from and touch, its twin's do
pub pieces_keep : (a b : Item) → AreTwins a b → (c : ℕ) (rs : List Piece) → PiecesKeep c a.pieces rs
    → PiecesKeep c b.pieces rs
pieces_keep a b t c rs h = by t.copper
  where
    by : (((a.metal ≡ b.metal) × (a.pieces ≡ b.pieces)) ⊎ AreTurned a b) → PiecesKeep c b.pieces rs
    by (inl (e, f)) = subst (λ ps. PiecesKeep c ps rs) f h
    by (inr x) = subst (λ ps. PiecesKeep c ps rs) (sym x.b_pieces)
        (wire_keeps x.layer x.width x.chain c rs (subst (λ ps. PiecesKeep c ps rs) x.a_pieces h))

pub pieces_touch : (a b : Item) → AreTwins a b → (rs : List Piece) → PiecesTouch a.pieces rs → PiecesTouch b.pieces rs
pieces_touch a b t rs h = by t.copper
  where
    by : (((a.metal ≡ b.metal) × (a.pieces ≡ b.pieces)) ⊎ AreTurned a b) → PiecesTouch b.pieces rs
    by (inl (e, f)) = subst (λ ps. PiecesTouch ps rs) f h
    by (inr x) = subst (λ ps. PiecesTouch ps rs) (sym x.b_pieces)
        (wire_touches x.layer x.width x.chain rs (subst (λ ps. PiecesTouch ps rs) x.a_pieces h))

-- ---- agreeing
compared_turned : (l w : ℕ) (c e : List Point) (m : Metal) → is_compared (Wire l w c) m ≡ is_compared (Wire l w e) m
compared_turned l w c e (Wire layer width chain) = refl
compared_turned l w c e (Via padstack at) = refl
compared_turned l w c e (Pad pin) = refl
compared_turned l w c e (Ban wires vias) = refl

compared_same : (a b : Item) → AreTwins a b → (m : Metal) → is_compared a.metal m ≡ is_compared b.metal m
compared_same a b t m = by t.copper
  where
    by : (((a.metal ≡ b.metal) × (a.pieces ≡ b.pieces)) ⊎ AreTurned a b)
        → is_compared a.metal m ≡ is_compared b.metal m
    by (inl (e, f)) = ap (λ x. is_compared x m) e
    by (inr x) = ap (λ y. is_compared y m) x.a_metal
        ∙ compared_turned x.layer x.width x.chain (reverse x.chain) m ∙ sym (ap (λ y. is_compared y m) x.b_metal)

pub twins_agree : (d : Design) (a b x : Item) → AreTwins a b → Agrees d a x → Agrees d b x
twins_agree d a b x t h = record {
  keep = λ must.
      subst (λ n. PiecesKeep (clearance_of d n b.kind x.net x.kind) b.pieces x.pieces) t.net_is
      (subst (λ k. PiecesKeep (clearance_of d a.net k x.net x.kind) b.pieces x.pieces) t.kind_is
      (pieces_keep a b t (clearance_of d a.net a.kind x.net x.kind) x.pieces
      (h.keep (same_must ∙ must))));
  stay_off = λ must touch.
      h.stay_off (same_off ∙ must) (pieces_touch b a (twins_back a b t) x.pieces touch);
}
  where
    same_must : must_keep a x ≡ must_keep b x
    same_must = ap₂ (λ p q. not p && q) (ap (λ n. is_same_net n x.net) t.net_is) (compared_same a b t x.metal)

    same_off : must_stay_off d a x ≡ must_stay_off d b x
    same_off = ap₂ (λ n k. not d.via_at_smd && is_same_net n x.net && is_pair k x.kind kind.Via kind.Smd) t.net_is
        t.kind_is

-- ---- touching
pub twins_touch : (a b x : Item) → AreTwins a b → AreTouching a x → AreTouching b x
twins_touch a b x t h = record {
  same_net = subst (λ n. is_same_net n x.net ≡ true) t.net_is h.same_net;
  touch = pieces_touch a b t x.pieces h.touch;
}

-- ---- anchors
holds_turned : (l w : ℕ) (chain : List Point) (layer : ℕ) (p : Point) → Holds layer p (wire_piece l w chain)
    → Holds layer p (wire_piece l w (reverse chain))
holds_turned l w chain layer p h = record {
  on_layer = h.on_layer;
  covers = touch_symmetric (Chain (reverse chain)) (Chain (p ∷ [])) w
      (turned_touches chain (Chain (p ∷ [])) w (touch_symmetric (Chain (p ∷ [])) (Chain chain) w h.covers));
}

on_turned : (p : Point) (chain : List Point) → IsOnSpine p (Chain chain) → IsOnSpine p (Chain (reverse chain))
on_turned p chain h = any_reverse (Touches 0 (record { from = p; to = p }))
    (λ g x. touch_swapped g.to g.from p p 0
    (touches_flipped 0 g (record { from = p; to = p }) (touch_swapped p p g.from g.to 0 x))) chain h

pub twins_anchor : (d : Design) (m : Mesh) (node : ℕ) (a b : Item) → AreTwins a b → Anchors d m node a
    → Anchors d m node b
twins_anchor d m node a b t h = by t.copper
  where
    by : (((a.metal ≡ b.metal) × (a.pieces ≡ b.pieces)) ⊎ AreTurned a b) → Anchors d m node b
    by (inl (e, f)) = record {
      in_copper = subst (λ ps. Any (Holds (layer_of m node) (point_of m node)) ps) f h.in_copper;
      is_anchor = subst (λ x. IsAnchorOf d x (point_of m node)) e h.is_anchor;
    }
    by (inr x) = record {
      in_copper = subst (λ ps. Any (Holds (layer_of m node) (point_of m node)) ps) (sym x.b_pieces)
          (turn (Any-cases (Holds (layer_of m node) (point_of m node)) (wire_piece x.layer x.width x.chain) []
          (subst (λ ps. Any (Holds (layer_of m node) (point_of m node)) ps) x.a_pieces h.in_copper)));
      is_anchor = subst (λ y. IsAnchorOf d y (point_of m node)) (sym x.b_metal)
          (on_turned (point_of m node) x.chain
          (subst (λ y. IsAnchorOf d y (point_of m node)) x.a_metal h.is_anchor));
    }
      where
        turn : (Holds (layer_of m node) (point_of m node) (wire_piece x.layer x.width x.chain)
            ⊎ Any (Holds (layer_of m node) (point_of m node)) [])
            → Any (Holds (layer_of m node) (point_of m node)) (wire_piece x.layer x.width (reverse x.chain) ∷ [])
        turn (inl y) = Any-here (Holds (layer_of m node) (point_of m node))
            (wire_piece x.layer x.width (reverse x.chain)) []
            (holds_turned x.layer x.width x.chain (layer_of m node) (point_of m node) y)
        turn (inr y) = absurd (Any-nil (Holds (layer_of m node) (point_of m node)) y)
