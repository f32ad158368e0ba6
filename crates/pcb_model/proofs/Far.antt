-- Pieces of far extents are apart, and so they agree.
use Rattle.std.proofs.Common.{◌≡◌, ℕ, ◌≤◌, ◌<◌, ◌+◌, ◌*◌, max, List, All, Any, get_or, arith, sym, subst, ◌⊎◌, inl, inr}
use Rattle.geo_kernel.specs.Spine.{SpinesKeep}
use Rattle.geo_kernel.proofs.Keeping.{parted_spines, keep_less_far, keep_bars_touch}
use Rattle.pcb_model.specs.declared.item.Piece.{Piece}
use Rattle.pcb_model.specs.declared.item.Item.{Item}
use Rattle.pcb_model.specs.declared.design.Design.{Design}
use Rattle.pcb_model.specs.declared.near.Extent.{Extent}
use Rattle.pcb_model.specs.Bounds.{HasRulesWithin, HasClearancesWithin}
use Rattle.pcb_model.specs.Rules.{clearance_of}
use Rattle.pcb_model.specs.Pairs.{PieceKeeps, KeepsFrom, PieceTouches, TouchesSome, Agrees}
use Rattle.pcb_model.specs.Near.{IsPieceIn, IsExtentOf, AreFar, AreApart}
use Rattle.pcb_model.proofs.Growing.{All-weaken}
use Rattle.pcb_model.proofs.Within.{clearance_within}

abbrev far_by : ℕ → Extent → Extent → ℕ
far_by reach e f = 2 * reach + e.width + f.width + 1

one_layer : (e f : Extent) (p r : Piece) → IsPieceIn e p → IsPieceIn f r → p.layer ≡ r.layer
    → (e.last < f.first ⊎ f.last < e.first) → ⊥
one_layer e f p r a b l (inl h) = omega (arith, l, h, a.to_layer, b.from_layer)
one_layer e f p r a b l (inr h) = omega (arith, l, h, b.to_layer, a.from_layer)

wide : (reach w v p r : ℕ) → p ≤ w → r ≤ v → max 1 (2 * reach + p + r) ≤ 2 * reach + w + v + 1
wide reach w v p r h k = omega (arith, h, k)

kept : (reach : ℕ) (e f : Extent) (p r : Piece) → IsPieceIn e p → IsPieceIn f r → AreFar reach e f → p.layer ≡ r.layer
    → SpinesKeep p.spine r.spine (far_by reach e f)
kept reach e f p r a b (inl h) l = absurd (one_layer e f p r a b l h)
kept reach e f p r a b (inr h) l =
    parted_spines e.bounds f.bounds (far_by reach e f) (omega arith) h p.spine r.spine a.spine_in b.spine_in

keeps : (reach : ℕ) (e f : Extent) (p r : Piece) → IsPieceIn e p → IsPieceIn f r → AreFar reach e f
    → PieceKeeps reach p r
keeps reach e f p r a b far = record {
  keep = λ l. keep_less_far p.spine r.spine (far_by reach e f) (max 1 (2 * reach + p.width + r.width))
      (kept reach e f p r a b far l) (wide reach e.width f.width p.width r.width a.width_in b.width_in);
}

no_touch : (reach : ℕ) (e f : Extent) (p r : Piece) → IsPieceIn e p → IsPieceIn f r → AreFar reach e f
    → ¬ (PieceTouches p r)
no_touch reach e f p r a b far t =
    keep_bars_touch p.spine r.spine (far_by reach e f) (p.width + r.width) (kept reach e f p r a b far t.one_layer)
    (omega (arith, a.width_in, b.width_in)) t.touch

none_of_all : {X : Type 0} (P Q : X → Type 0) (xs : List X) → ((x : X) → P x → ¬ (Q x)) → All P xs → ¬ (Any Q xs)
none_of_all P Q xs f h (k, x, l, e, q) = f (get_or xs k x) (h k x l) (subst Q (sym e) q)

pub far_apart : (reach : ℕ) (e f : Extent) (ps rs : List Piece) → IsExtentOf ps e → IsExtentOf rs f → AreFar reach e f
    → AreApart reach ps rs
far_apart reach e f ps rs a b far = record {
  keep = record {
    each = All-weaken (IsPieceIn e) (KeepsFrom reach rs) ps
        (λ p h. record {
          each = All-weaken (IsPieceIn f) (PieceKeeps reach p) rs (λ r k. keeps reach e f p r h k far)
              b.each;
        }) a.each;
  };
  stay_off = λ t. none_of_all (IsPieceIn e) (TouchesSome rs) ps
      (λ p h s. none_of_all (IsPieceIn f) (PieceTouches p) rs (λ r k. no_touch reach e f p r h k far) b.each s.some)
      a.each t.some;
}

less : (c reach p r : ℕ) → c ≤ reach → max 1 (2 * c + p + r) ≤ max 1 (2 * reach + p + r)
less c reach p r h = omega (arith, h)

pub clearances_within : (m : ℕ) (d : Design) → HasRulesWithin m d → HasClearancesWithin m d
clearances_within m d h = record { each = λ a b ka kb. clearance_within m d a ka b kb h }

pub apart_agree : (reach : ℕ) (d : Design) (a b : Item) → HasClearancesWithin reach d → AreApart reach a.pieces b.pieces
    → Agrees d a b
apart_agree reach d a b w h =
    let c = clearance_of d a.net a.kind b.net b.kind in
    let l = w.each a.net b.net a.kind b.kind in
    record {
      keep = λ m. record {
        each = All-weaken (KeepsFrom reach b.pieces) (KeepsFrom c b.pieces) a.pieces
            (λ p k. record {
              each = All-weaken (PieceKeeps reach p) (PieceKeeps c p) b.pieces
                  (λ r g. record {
                    keep = λ y. keep_less_far p.spine r.spine (max 1 (2 * reach + p.width + r.width))
                        (max 1 (2 * c + p.width + r.width)) (g.keep y) (less c reach p.width r.width l);
                  }) k.each;
            }) h.keep.each;
      };
      stay_off = λ m. h.stay_off;
    }
