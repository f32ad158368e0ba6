-- The items that an offer adds.
use Rattle.std.proofs.Common.{◌≡◌, ℕ, ◌+◌, ◌<◌, ◌^◌, List, [], ◌∷◌, ◌++◌, length, get_or, Some, refl, arith, All}
use Rattle.std.specs.Prelude.{AllPairs}
use Rattle.std.proofs.lemmas.List.Kept.{AllPairs-cons}
use Rattle.std.proofs.lemmas.List.Elements.{All-nil, All-cons, All-head, All-tail, All-weaker}
use Rattle.geo_kernel.specs.Spine.{IsSpineWithin}
use Rattle.pcb_model.specs.declared.item.Piece.{Piece}
use Rattle.pcb_model.specs.declared.item.Metal.{Metal}
use Rattle.pcb_model.specs.declared.item.Metal.TheVariants as metal
use Rattle.pcb_model.specs.declared.item.Item.{Item}
use Rattle.pcb_model.specs.declared.design.Design.{Design}
use Rattle.pcb_model.specs.Pieces.{pieces_of}
use Rattle.pcb_model.specs.Rules.{width_for}
use Rattle.pcb_model.specs.Pairs.{Agrees, AreTouching}
use Rattle.pcb_model.specs.Plain.{IsPlainItem}
use Rattle.pcb_model.specs.Board.{AreInside, IsMetalLaid, LeadsTo}
use Rattle.pcb_model.specs.Bounds.{IsFit}
use Rattle.route_lattice.specs.Mesh.{Mesh}
use Rattle.route_lattice.specs.Anchors.{Anchors}
use Rattle.path_wire.specs.Lays.{laid_item, IsMetalInside, IsWellLaid}
use Rattle.path_wire.specs.Joins.{HasNode, Connect}
use Rattle.board_offers.specs.Items.{added_from}
use Rattle.board_offers.specs.Offers.{IsAddable}
use Rattle.least_offer.proofs.Metals.{IsRoute}

module _ (d : Design) (net : ℕ) where
  -- what holds of the item of each metal, whatever its id, holds of the added items
  pub all_added : (P : Item → Type 0) (id : ℕ) (ms : List Metal)
      → ((i : ℕ) → All (λ (a : Metal). P (laid_item d net i a)) ms) → All P (added_from d net id ms)
  all_added P id [] h = All-nil P
  all_added P id (a ∷ ms) h = All-cons P (laid_item d net id a) (added_from d net (id + 1) ms)
      (All-head (λ (x : Metal). P (laid_item d net id x)) a ms (h id))
      (all_added P (id + 1) ms (λ i. All-tail (λ (x : Metal). P (laid_item d net i x)) a ms (h i)))

  every_added : (P : Item → Type 0) (id : ℕ) (ms : List Metal) → ((i : ℕ) (a : Metal) → P (laid_item d net i a))
      → All P (added_from d net id ms)
  every_added P id ms h = all_added P id ms (λ i k a within. h i (get_or ms k a))

  -- they agree with each other, and with all other routed items of the net
  module _ (own : (i j : ℕ) (a b : Metal) → Agrees d (laid_item d net i a) (laid_item d net j b)) where
    pub added_agree : (id : ℕ) (ms : List Metal) → AllPairs (Agrees d) (added_from d net id ms)
    added_agree id [] = λ i j x before within. absurd (omega arith)
    added_agree id (a ∷ ms) = AllPairs-cons (Agrees d) (laid_item d net id a) (added_from d net (id + 1) ms)
        (every_added (Agrees d (laid_item d net id a)) (id + 1) ms (λ j b. own id j a b)) (added_agree (id + 1) ms)

    pub own_agree : (id j : ℕ) (ms : List Metal) (b : Metal)
        → All (λ (n : Item). Agrees d n (laid_item d net j b)) (added_from d net id ms)
    own_agree id j ms b = every_added (λ (n : Item). Agrees d n (laid_item d net j b)) id ms (λ i a. own i j a b)

  pub added_inside : (id : ℕ) (ms : List Metal) → All (IsMetalInside d) ms
      → All (λ (a : Item). AreInside d.bounds a.pieces) (added_from d net id ms)
  added_inside id ms h = all_added (λ (a : Item). AreInside d.bounds a.pieces) id ms (λ i. h)

  -- ---- each may be added
  addable : (a : Metal) → IsRoute (width_for d net) a → IsWellLaid d net 0 a → IsAddable d net a
  addable (metal.Wire layer width chain) r h = (h.laid.0, r.0, r.1, h.fits.metal_fits.1)
  addable (metal.Via padstack at) r h = (
    h.laid,
    h.fits.metal_fits,
    All-weaker IsFit
        (λ (p : Piece). IsSpineWithin (2 ^ 29) p.spine) (λ p f. f.within)
        (pieces_of d (metal.Via padstack at)) h.fits.fits.pieces_fit,
  )
  addable (metal.Pad pin) r h = absurd r
  addable (metal.Ban wires vias) r h = absurd r

  pub all_addable : (ms : List Metal) → All (IsRoute (width_for d net)) ms → All (IsWellLaid d net 0) ms
      → All (IsAddable d net) ms
  all_addable ms r h = λ k a within. addable (get_or ms k a) (r k a within) (h k a within)

-- ---- they lead across
module _ (d : Design) (m : Mesh) (net : ℕ)
    (anchored : (id v : ℕ) (a : Metal) (b : Item) → IsMetalLaid d (Some net) a → HasNode d m v a → b.net ≡ Some net
    → IsPlainItem b → Anchors d m v b → AreTouching (laid_item d net id a) b)
    (neighbours : (i j v : ℕ) (a b : Metal) → IsMetalLaid d (Some net) a → IsMetalLaid d (Some net) b
    → HasNode d m v a → HasNode d m v b → AreTouching (laid_item d net i a) (laid_item d net j b))
    (turned : (x y : Item) → AreTouching x y → AreTouching y x) where
  abbrev Laid : Metal → Type 0
  Laid a = IsMetalLaid d (Some net) a

  first_has : (v w : ℕ) (a : Metal) (metals : List Metal) → Connect d m v (a ∷ metals) w → HasNode d m v a
  first_has v w a [] connect = connect.0
  first_has v w a (c ∷ metals) connect = connect.0

  -- from the first metal over the others to what the last node anchors
  leads_along : (id v w : ℕ) (a : Metal) (metals : List Metal) (b : Item) → Connect d m v (a ∷ metals) w
      → All Laid (a ∷ metals) → b.net ≡ Some net → IsPlainItem b → Anchors d m w b
      → LeadsTo (laid_item d net id a) (added_from d net (id + 1) metals ++ b ∷ []) b
  leads_along id v w a [] b connect laid b_net b_plain anchors = (
    anchored id w a b
        (All-head Laid a [] laid) connect.1 b_net b_plain anchors,
    refl,
  )
  leads_along id v w a (c ∷ metals) b connect laid b_net b_plain anchors =
      let rest = All-tail Laid a (c ∷ metals) laid in (
        neighbours id (id + 1) connect.1 a c (All-head Laid a (c ∷ metals) laid)
            (All-head Laid c metals rest) connect.2 (first_has connect.1 w c metals connect.3),
        leads_along (id + 1) connect.1 w c metals b connect.3 rest b_net b_plain anchors,
      )

  -- from what the first node anchors
  pub leads_across : (id v w : ℕ) (metals : List Metal) (a b : Item) → Connect d m v metals w → All Laid metals
      → a.net ≡ Some net → IsPlainItem a → Anchors d m v a → b.net ≡ Some net → IsPlainItem b → Anchors d m w b
      → LeadsTo a (added_from d net id metals ++ b ∷ []) b
  leads_across id v w [] a b connect laid a_net a_plain a_anchors b_net b_plain b_anchors = absurd connect
  leads_across id v w (c ∷ metals) a b connect laid a_net a_plain a_anchors b_net b_plain b_anchors = (
    turned (laid_item d net id c) a (anchored id v c a (All-head Laid c metals laid)
        (first_has v w c metals connect) a_net a_plain a_anchors),
    leads_along id v w c metals b connect laid b_net b_plain b_anchors,
  )

  pub some_metal : (v w : ℕ) (metals : List Metal) → Connect d m v metals w → 0 < length metals
  some_metal v w [] connect = absurd connect
  some_metal v w (a ∷ metals) connect = omega arith
