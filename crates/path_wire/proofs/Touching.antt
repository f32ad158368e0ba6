-- The copper of a walk touches what its nodes anchor, and neighbours in it touch.
use Rattle.std.proofs.Common.{inl, inr, ◌≡◌, ℕ, ◌+ℤ◌, pos, ℤ, true, ◌==◌, Option, Some, None, List, [], ◌∷◌, map, Any}
use Rattle.std.proofs.Common.{refl, sym, ap₂, ◌∙◌, subst, arith, rules}
use Rattle.std.specs.Prelude.{slice_get, IfSome}
use Rattle.std.specs.Option.{IsSomeAnd}
use Rattle.std.proofs.lemmas.Int.{ints}
use Rattle.std.proofs.lemmas.Bool.{eqb-true}
use Rattle.std.proofs.lemmas.List.Elements.{All-nil, All-cons, All-map}
use Rattle.std.proofs.lemmas.List.Folds.{Any-from_list_any}
use Rattle.geo_kernel.specs.declared.point.Point.{Point}
use Rattle.geo_kernel.specs.Moved.{moved}
use Rattle.geo_kernel.specs.Solid.{IsSimple}
use Rattle.geo_kernel.proofs.Paths.{Any-here, Any-there, Any-cases, Any-nil}
use Rattle.geo_kernel.proofs.Moves.{point_is}
use Rattle.spine_cover.specs.Covering.{CoversBy}
use Rattle.spine_cover.proofs.Covering.{covered_touch}
use Rattle.spine_cover.proofs.Moving.{covers_moved, simple_moved}
use Rattle.spine_cover.proofs.Vertices.{vertex_covered}
use Rattle.pcb_model.specs.declared.item.Piece.{Piece}
use Rattle.pcb_model.specs.declared.item.Item.{Item}
use Rattle.pcb_model.specs.declared.item.Metal.{Metal}
use Rattle.pcb_model.specs.declared.item.Metal.TheVariants as metal
use Rattle.pcb_model.specs.declared.design.Net.{Net}
use Rattle.pcb_model.specs.declared.design.Padstack.{Padstack}
use Rattle.pcb_model.specs.declared.design.Design.{Design}
use Rattle.pcb_model.specs.Pieces.{wire_piece, moved_piece, pieces_in, padstack_pieces, pieces_of}
use Rattle.pcb_model.specs.Pairs.{is_same_net, AreTouching}
use Rattle.pcb_model.specs.Board.{IsListed, IsMetalLaid}
use Rattle.pcb_model.specs.Sound.{Covers, origin, IsUsable, IsNetSound, IsSound}
use Rattle.pcb_model.proofs.Within.{All-at}
use Rattle.route_lattice.specs.Mesh.{Mesh, point_of, layer_of}
use Rattle.route_lattice.specs.Ways.{has_copper}
use Rattle.route_lattice.specs.Anchors.{Holds, Anchors}
use Rattle.pcb_model.specs.Plain.{ArePlain, IsPlainItem, IsPlainCopper}
use Rattle.path_wire.specs.Lays.{laid_item}
use Rattle.path_wire.specs.Joins.{HasNode}

-- ---- items that cover one point
same_net : (net : ℕ) (o r : Option ℕ) → o ≡ Some net → r ≡ Some net → is_same_net o r ≡ true
same_net net o r e f = ap₂ is_same_net e f ∙ itself net
  where
    itself : (n : ℕ) → (n == n) ≡ true
    itself n = search rules

pub common_point : (a b : Item) (net layer : ℕ) (p : Point) → a.net ≡ Some net → b.net ≡ Some net → ArePlain a.pieces
    → ArePlain b.pieces → Any (Holds layer p) a.pieces → Any (Holds layer p) b.pieces → AreTouching a b
common_point a b net layer p a_net b_net a_plain b_plain (i, q, l, e, holds) (j, r, m, f, others) =
    let touch = covered_touch p q.spine r.spine q.width r.width
    (subst (λ (x : Piece). IsSimple x.spine) e (a_plain i q l))
    (subst (λ (x : Piece). IsSimple x.spine) f (b_plain j r m)) holds.covers others.covers in
    record {
      same_net = same_net net a.net b.net a_net b_net;
      touch = record {
        some = (
          i,
          q,
          l,
          e,
          record {
            some = (j, r, m, f, record { one_layer = holds.on_layer ∙ sym others.on_layer; touch = touch });
          },
        );
      };
    }

-- ---- a via's copper
from_net : (d : Design) (padstack : ℕ) (o : Option Net) → IfSome o (IsNetSound d)
    → IsSomeAnd o (λ (n : Net). Any (λ v. v ≡ padstack) n.vias)
    → IsSomeAnd (slice_get d.padstacks padstack) (λ (s : Padstack). IsUsable s.pieces)
from_net d padstack None sound h = absurd h
from_net d padstack (Some n) sound (i, v, l, e, is) =
    subst (λ (x : ℕ). IsSomeAnd (slice_get d.padstacks x) (λ (s : Padstack). IsUsable s.pieces)) (e ∙ is)
    (sound.vias_usable i v l)

to_pieces : (o : Option Padstack) → IsSomeAnd o (λ (s : Padstack). IsUsable s.pieces) → IsUsable (pieces_in o)
to_pieces None h = absurd h
to_pieces (Some s) h = h

listed_usable : (d : Design) (net padstack : ℕ) → IsSound d → IsListed d net padstack
    → IsUsable (padstack_pieces d padstack)
listed_usable d net padstack sound listed =
    to_pieces (slice_get d.padstacks padstack)
    (from_net d padstack (slice_get d.nets net) (All-at (IsNetSound d) d.nets net sound.nets) listed)

-- a usable padstack covers its origin on each layer on which it has copper
covered_on : (ps : List Piece) (layer : ℕ) → IsUsable ps → has_copper ps layer ≡ true
    → Any (λ (r : Piece). (r.layer ≡ layer) × Covers origin r) ps
covered_on ps layer usable h = from (Any-from_list_any (λ (q : Piece). q.layer == layer) ps h)
  where
    from : Any (λ (q : Piece). (q.layer == layer) ≡ true) ps
        → Any (λ (r : Piece). (r.layer ≡ layer) × Covers origin r) ps
    from (i, q, l, e, on) =
        on_layer (subst (λ (x : Piece). Any (λ (r : Piece). (r.layer ≡ x.layer) × Covers origin r) ps) e
        (usable.covered i q l))
      where
        on_layer : Any (λ (r : Piece). (r.layer ≡ q.layer) × Covers origin r) ps
            → Any (λ (r : Piece). (r.layer ≡ layer) × Covers origin r) ps
        on_layer (j, r, m, f, h) = (j, r, m, f, (h.0 ∙ eqb-true q.layer layer on, h.1))

moved_origin : (at : Point) → moved at origin ≡ at
moved_origin at = point_is _ _ _ _ (nil at.x) (nil at.y)
  where
    nil : (z : ℤ) → pos 0 +ℤ z ≡ z
    nil z = omega (arith, ints)

moved_covers : (layer : ℕ) (at : Point) (r : Piece) → (r.layer ≡ layer) × Covers origin r
    → Holds layer at (moved_piece at r)
moved_covers layer at r h = record {
  on_layer = h.0;
  covers = subst (λ (p : Point). CoversBy p r.width (moved_piece at r).spine) (moved_origin at)
      (covers_moved at origin r.spine r.width h.1);
}

some_mapped : {X Y : Type 0} (P : X → Type 0) (Q : Y → Type 0) (f : X → Y) → ((x : X) → P x → Q (f x)) → (xs : List X)
    → Any P xs → Any Q (map f xs)
some_mapped P Q f g [] h = absurd (Any-nil P h)
some_mapped P Q f g (x ∷ xs) h =
    elim (Any-cases P x xs h) [
      | inl a ↦ Any-here Q (f x) (map f xs) (g x a)
      | inr a ↦
          Any-there Q (f x) (map f xs) (some_mapped P Q f g xs a)
    ]

-- ---- metals
-- a metal covers each of its nodes
pub node_covered : (d : Design) (m : Mesh) (net v : ℕ) (a : Metal) → IsSound d → IsMetalLaid d (Some net) a
    → HasNode d m v a → Any (Holds (layer_of m v) (point_of m v)) (pieces_of d a)
node_covered d m net v (metal.Wire layer width chain) sound laid has =
    Any-here (Holds (layer_of m v) (point_of m v)) (wire_piece layer width chain) []
    (record { on_layer = has.0; covers = vertex_covered (point_of m v) chain width has.1 })
node_covered d m net v (metal.Via padstack at) sound laid has =
    some_mapped (λ (r : Piece). (r.layer ≡ layer_of m v) × Covers origin r) (Holds (layer_of m v) (point_of m v))
    (moved_piece at)
    (λ r h. subst (λ (p : Point). Holds (layer_of m v) p (moved_piece at r)) has.0 (moved_covers (layer_of m v) at r h))
    (padstack_pieces d padstack)
    (covered_on (padstack_pieces d padstack) (layer_of m v) (listed_usable d net padstack sound laid) has.1)
node_covered d m net v (metal.Pad pin) sound laid has = absurd has
node_covered d m net v (metal.Ban wires vias) sound laid has = absurd has

-- the pieces of each metal are plain
plain_in : (o : Option Padstack) → IfSome o (λ (s : Padstack). ArePlain s.pieces) → ArePlain (pieces_in o)
plain_in None h = All-nil (λ (q : Piece). IsSimple q.spine)
plain_in (Some s) h = h

pub metal_plain : (d : Design) (a : Metal) → IsPlainCopper d → ArePlain (pieces_of d a)
metal_plain d (metal.Wire layer width chain) plain =
    All-cons (λ (q : Piece). IsSimple q.spine) (wire_piece layer width chain) [] tt
    (All-nil (λ (q : Piece). IsSimple q.spine))
metal_plain d (metal.Via padstack at) plain =
    let ps = plain_in (slice_get d.padstacks padstack)
    (All-at (λ (s : Padstack). ArePlain s.pieces) d.padstacks padstack plain.padstacks) in
    All-map (λ (q : Piece). IsSimple q.spine) (moved_piece at) (padstack_pieces d padstack)
    (λ k q l. simple_moved at _ (ps k q l))
metal_plain d (metal.Pad pin) plain = All-nil (λ (q : Piece). IsSimple q.spine)
metal_plain d (metal.Ban wires vias) plain = All-nil (λ (q : Piece). IsSimple q.spine)

-- ---- what a metal touches
pub anchored_touches : (d : Design) (m : Mesh) (net id v : ℕ) (a : Metal) (b : Item) → IsSound d → IsPlainCopper d
    → IsMetalLaid d (Some net) a → HasNode d m v a → b.net ≡ Some net → IsPlainItem b → Anchors d m v b
    → AreTouching (laid_item d net id a) b
anchored_touches d m net id v a b sound plain laid has b_net b_plain anchors =
    common_point (laid_item d net id a) b net (layer_of m v) (point_of m v) refl b_net (metal_plain d a plain)
    (b_plain.plain net b_net) (node_covered d m net v a sound laid has) anchors.in_copper

pub neighbours_touch : (d : Design) (m : Mesh) (net i j v : ℕ) (a b : Metal) → IsSound d → IsPlainCopper d
    → IsMetalLaid d (Some net) a → IsMetalLaid d (Some net) b → HasNode d m v a → HasNode d m v b
    → AreTouching (laid_item d net i a) (laid_item d net j b)
neighbours_touch d m net i j v a b sound plain laid others has its =
    common_point (laid_item d net i a) (laid_item d net j b) net (layer_of m v) (point_of m v) refl refl
    (metal_plain d a plain) (metal_plain d b plain) (node_covered d m net v a sound laid has)
    (node_covered d m net v b sound others its)
