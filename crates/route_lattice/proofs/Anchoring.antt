-- When a node anchors an item, by the two tests; and the segments of a chain, by its points.
use Rattle.std.proofs.Common.{◌≡◌, ℕ, ◌<◌, List, [], ◌∷◌, length, get_or, take, drop, ◌-◌, Any}
use Rattle.std.proofs.Common.{Bool, true, false, IsTrue, ◌↔◌}
use Rattle.std.proofs.Common.{refl, sym, ◌∙◌, ap, subst, true≢false, arith}
use Rattle.std.proofs.lemmas.List.{take_all}
use Rattle.geo_kernel.specs.declared.point.Point.{Point}
use Rattle.geo_kernel.specs.Spine.{links, chain_segments}
use Rattle.pcb_model.specs.declared.item.Piece.{Piece}
use Rattle.pcb_model.specs.declared.item.Item.{Item}
use Rattle.pcb_model.specs.declared.design.Design.{Design}
use Rattle.route_lattice.specs.Mesh.{Mesh, point_of, layer_of}
use Rattle.route_lattice.specs.Anchors.{Holds, IsAnchorOf, Anchors}

module _ (d : Design) (m : Mesh) (v : ℕ) (item : Item) (p : Point) (at : p ≡ point_of m v) where
  pub anchors_then : (layer : ℕ) (ps : List Piece) (a b : Bool) → layer ≡ layer_of m v → ps ≡ item.pieces
      → (IsTrue a ↔ IsAnchorOf d item.metal p) → a ≡ true → (IsTrue b ↔ Any (Holds layer p) ps)
      → IsTrue b ↔ Anchors d m v item
  anchors_then layer ps a b on e f t g = (
    λ h. record {
      in_copper = subst (λ (q : Point). Any (Holds (layer_of m v) q) item.pieces) at
          (subst (λ (l : ℕ). Any (Holds l p) item.pieces) on
          (subst (λ (qs : List Piece). Any (Holds layer p) qs) e (g.0 h)));
      is_anchor = subst (IsAnchorOf d item.metal) at (f.0 t);
    },
    λ h. g.1
        (subst (λ (qs : List Piece). Any (Holds layer p) qs) (sym e)
        (subst (λ (l : ℕ). Any (Holds l p) item.pieces) (sym on)
        (subst (λ (q : Point). Any (Holds (layer_of m v) q) item.pieces) (sym at) h.in_copper))),
  )

  pub anchors_else : (a : Bool) → (IsTrue a ↔ IsAnchorOf d item.metal p) → a ≡ false
      → IsTrue a ↔ Anchors d m v item
  anchors_else a f t = (
    λ h. absurd (true≢false (sym h ∙ t)),
    λ h. f.1 (subst (IsAnchorOf d item.metal) (sym at) h.is_anchor),
  )

pub chain_one : (ps : List Point) (d : Point) → length ps ≡ 1 → links (get_or ps 0 d) ps ≡ chain_segments ps
chain_one [] d e = absurd (omega (arith, e))
chain_one (p ∷ []) d e = refl
chain_one (p ∷ q ∷ ps) d e = absurd (omega (arith, e))

pub chain_more : (ps : List Point) (d : Point) → 0 < length ps → (length ps ≡ 1 → ⊥)
    → links (get_or ps 0 d) (take (length ps - 1) (drop 1 ps)) ≡ chain_segments ps
chain_more [] d h n = absurd (omega (arith, h))
chain_more (p ∷ []) d h n = absurd (n refl)
chain_more (p ∷ q ∷ ps) d h n = ap (links p) (take_all (length (p ∷ q ∷ ps) - 1) (q ∷ ps) (omega arith))
