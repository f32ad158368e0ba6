-- The items that an offer makes fit the design.
use Rattle.std.proofs.Common.{◌≡◌, ℕ, ◌<◌, ◌≤◌, ◌^◌, List, [], ◌∷◌, ◌++◌, length, map, Option, Some, None, false, refl}
use Rattle.std.proofs.Common.{sym, ◌∙◌, subst, arith}
use Rattle.std.specs.Prelude.{All, Any, IfSome, slice_get}
use Rattle.std.specs.Option.{IsSomeAnd, option_to_list}
use Rattle.std.proofs.lemmas.List.{length-map}
use Rattle.std.proofs.lemmas.List.Elements.{All-nil, All-cons, All-head, All-tail, All-map, All-weaker, All-append}
use Rattle.std.proofs.lemmas.Option.{slice_get_within}
use Rattle.geo_kernel.specs.declared.point.Point.{Point}
use Rattle.geo_kernel.specs.declared.spine.Spine.{Spine}
use Rattle.geo_kernel.specs.declared.spine.Spine.TheVariants.{Chain, Area}
use Rattle.geo_kernel.specs.Plane.{IsWithin}
use Rattle.geo_kernel.specs.Spine.{IsWellFormed, IsSpineWithin}
use Rattle.geo_kernel.specs.Moved.{moved, moved_spine}
use Rattle.pcb_model.specs.declared.item.Piece.{Piece}
use Rattle.pcb_model.specs.declared.item.Metal.{Metal}
use Rattle.pcb_model.specs.declared.item.Metal.TheVariants.{Wire, Via, Pad, Ban}
use Rattle.pcb_model.specs.declared.item.Item.{Item}
use Rattle.pcb_model.specs.declared.design.RuleSet.{RuleSet}
use Rattle.pcb_model.specs.declared.design.BoardLayer.{BoardLayer}
use Rattle.pcb_model.specs.declared.design.Padstack.{Padstack}
use Rattle.pcb_model.specs.declared.design.Net.{Net}
use Rattle.pcb_model.specs.declared.design.Design.{Design}
use Rattle.pcb_model.specs.Bounds.{IsFit, IsDesignFit, IsMetalFit}
use Rattle.pcb_model.specs.Pieces.{wire_piece, moved_piece, pieces_in, padstack_pieces, item_of}
use Rattle.pcb_model.specs.Rules.{first_present, class_rules, with_class, rule_sets, width_for}
use Rattle.pcb_model.specs.Board.{IsSignal, IsListed, IsMetalLaid}
use Rattle.pcb_model.specs.Sound.{IsSound, IsNetSound, IsItemOf, IsLayerOf, IsUsable, IsMetalInRange}
use Rattle.board_offers.specs.Items.{with_chain, reshaped}
use Rattle.board_offers.specs.Offers.{IsAddable, IsWire}
use Rattle.board_offers.proofs.Lists.{at_place}

-- ---- widths
abbrev IsSmall : Option ℕ → Type 0
IsSmall o = IfSome o (λ w. w ≤ 2 ^ 28)

abbrev HasSmallWidth : RuleSet → Type 0
HasSmallWidth rs = IsSmall rs.width

first_small : (n : ℕ) (rss : List RuleSet) → n ≤ 2 ^ 28 → All HasSmallWidth rss
    → first_present n (map (λ (rs : RuleSet). rs.width) rss) ≤ 2 ^ 28
first_small n [] h a = h
first_small n (rs ∷ rss) h a =
    by rs.width (All-head HasSmallWidth rs rss a) (first_small n rss h (All-tail HasSmallWidth rs rss a))
  where
    by : (o : Option ℕ) → IsSmall o → first_present n (map (λ (rs : RuleSet). rs.width) rss) ≤ 2 ^ 28
        → first_present n (o ∷ map (λ (rs : RuleSet). rs.width) rss) ≤ 2 ^ 28
    by None s r = r
    by (Some w) s r = s

class_small : (d : Design) (c : Option ℕ) → IsSound d → All HasSmallWidth (class_rules d c)
class_small d None s = All-nil HasSmallWidth
class_small d (Some c) s = by (slice_get d.classes c) (at_place HasSmallWidth d.classes c s.class_widths_within)
  where
    by : (o : Option RuleSet) → IfSome o HasSmallWidth → All HasSmallWidth (option_to_list o)
    by None h = All-nil HasSmallWidth
    by (Some rs) h = All-cons HasSmallWidth rs [] h (All-nil HasSmallWidth)

net_small : (d : Design) (o : Option Net) → IsSound d → IfSome o (IsNetSound d)
    → All HasSmallWidth (with_class d o ++ d.rules ∷ [])
net_small d None s h = All-cons HasSmallWidth d.rules [] s.width_within (All-nil HasSmallWidth)
net_small d (Some n) s h =
    All-cons HasSmallWidth n.rules (class_rules d n.class ++ d.rules ∷ []) h.width_within
    (All-append HasSmallWidth (class_rules d n.class) (d.rules ∷ []) (class_small d n.class s)
    (All-cons HasSmallWidth d.rules [] s.width_within (All-nil HasSmallWidth)))

pub width_small : (d : Design) (net : ℕ) → IsSound d → width_for d net ≤ 2 ^ 28
width_small d net s =
    first_small 250000 (rule_sets d (Some net)) (omega arith)
    (net_small d (slice_get d.nets net) s (at_place (IsNetSound d) d.nets net s.nets))

-- ---- look-ups
there : {X : Type 0} (P : X → Type 0) (xs : List X) (i : ℕ) (o : Option X) → slice_get xs i ≡ o → IsSomeAnd o P
    → i < length xs
there P xs i None e h = absurd h
there P xs i (Some x) e h = slice_get_within xs i x e

pub layer_there : (d : Design) (layer : ℕ) → IsSignal d layer → layer < length d.layers
layer_there d layer h = there (λ (l : BoardLayer). l.power ≡ false) d.layers layer (slice_get d.layers layer) refl h

usable_there : (d : Design) (n : Net) (padstack : ℕ) → IsNetSound d n → Any (λ v. v ≡ padstack) n.vias
    → padstack < length d.padstacks
usable_there d n padstack s (k, v, within, is, same) =
    subst (λ (x : ℕ). x < length d.padstacks) (is ∙ same)
    (there (λ (p : Padstack). IsUsable p.pieces) d.padstacks _ (slice_get d.padstacks _) refl
    (s.vias_usable k v within))

pub padstack_there : (d : Design) (net padstack : ℕ) → IsSound d → IsListed d net padstack
    → padstack < length d.padstacks
padstack_there d net padstack s h = by (slice_get d.nets net) (at_place (IsNetSound d) d.nets net s.nets) h
  where
    by : (o : Option Net) → IfSome o (IsNetSound d) → IsSomeAnd o (λ (n : Net). Any (λ v. v ≡ padstack) n.vias)
        → padstack < length d.padstacks
    by None k l = absurd l
    by (Some n) k l = usable_there d n padstack k l

-- ---- pieces of a via
still_formed : (by : Point) (s : Spine) → IsWellFormed s → IsWellFormed (moved_spine by s)
still_formed by (Chain ps) h = let e = length-map ps (moved by) in omega (arith, h, e)
still_formed by (Area loops) h =
    let e = length-map loops (map (moved by)) in (
      let k = h.0 in omega (arith, k, e),
      All-map (λ ps. 3 ≤ length ps) (map (moved by)) loops
          (All-weaker (λ ps. 3 ≤ length ps) (λ ps. 3 ≤ length (map (moved by) ps))
          (λ ps k. let f = length-map ps (moved by) in omega (arith, k, f)) loops h.1),
    )

moved_fit : (at : Point) (ps : List Piece) → All IsFit ps
    → All (λ (p : Piece). IsSpineWithin (2 ^ 29) p.spine) (map (moved_piece at) ps)
    → All IsFit (map (moved_piece at) ps)
moved_fit at [] fit within = All-nil IsFit
moved_fit at (p ∷ ps) fit within =
    let h = All-head IsFit p ps fit in
    All-cons IsFit (moved_piece at p) (map (moved_piece at) ps)
    (record {
      well_formed = still_formed at p.spine h.well_formed;
      within = All-head (λ (q : Piece). IsSpineWithin (2 ^ 29) q.spine) (moved_piece at p)
          (map (moved_piece at) ps) within;
      width_within = h.width_within;
    })
    (moved_fit at ps (All-tail IsFit p ps fit)
    (All-tail (λ (q : Piece). IsSpineWithin (2 ^ 29) q.spine) (moved_piece at p) (map (moved_piece at) ps) within))

pub stack_fit : (d : Design) (padstack : ℕ) → IsDesignFit d → All IsFit (padstack_pieces d padstack)
stack_fit d padstack f =
    by (slice_get d.padstacks padstack)
    (at_place (λ (s : Padstack). All IsFit s.pieces) d.padstacks padstack f.padstacks_fit)
  where
    by : (o : Option Padstack) → IfSome o (λ (s : Padstack). All IsFit s.pieces) → All IsFit (pieces_in o)
    by None h = All-nil IsFit
    by (Some s) h = h

pub stack_layers : (d : Design) (padstack : ℕ) → IsSound d → All (IsLayerOf d) (padstack_pieces d padstack)
stack_layers d padstack s =
    by (slice_get d.padstacks padstack)
    (at_place (λ (s : Padstack). All (IsLayerOf d) s.pieces) d.padstacks padstack s.padstack_layers)
  where
    by : (o : Option Padstack) → IfSome o (λ (s : Padstack). All (IsLayerOf d) s.pieces)
        → All (IsLayerOf d) (pieces_in o)
    by None h = All-nil (IsLayerOf d)
    by (Some s) h = h

-- ---- added metals
wire_fits : (d : Design) (id net layer width : ℕ) (chain : List Point) → net < length d.nets → layer < length d.layers
    → width ≤ 2 ^ 28 → 2 ≤ length chain → All (IsWithin (2 ^ 29)) chain
    → IsItemOf d (item_of d id (Some net) false (Wire layer width chain))
wire_fits d id net layer width chain n l w some within = record {
  fits =
      record {
        pieces_fit = All-cons IsFit (wire_piece layer width chain) []
            (record { well_formed = omega (arith, some); within = within; width_within = w }) (All-nil IsFit);
      };
  metal_fits = (omega (arith, some), within, w);
  metal_in_range = l;
  layers_in_range = All-cons (IsLayerOf d) (wire_piece layer width chain) [] l (All-nil (IsLayerOf d));
  net_in_range = n;
}

pub addable_fits : (d : Design) (id net : ℕ) (m : Metal) → IsSound d → net < length d.nets → IsAddable d net m
    → IsItemOf d (item_of d id (Some net) false m)
addable_fits d id net (Wire layer width chain) s n h =
    wire_fits d id net layer width chain n (layer_there d layer h.0)
    (subst (λ (w : ℕ). w ≤ 2 ^ 28) (sym h.1) (width_small d net s)) h.2 h.3
addable_fits d id net (Via padstack at) s n h = record {
  fits = record { pieces_fit = moved_fit at (padstack_pieces d padstack) (stack_fit d padstack s.fits) h.2 };
  metal_fits = h.1;
  metal_in_range = padstack_there d net padstack s h.0;
  layers_in_range = All-map (IsLayerOf d) (moved_piece at) (padstack_pieces d padstack) (stack_layers d padstack s);
  net_in_range = n;
}
addable_fits d id net (Pad pin) s n h = absurd h
addable_fits d id net (Ban wires vias) s n h = absurd h

pub addable_laid : (d : Design) (net : ℕ) (m : Metal) → IsAddable d net m → IsMetalLaid d (Some net) m
addable_laid d net (Wire layer width chain) h = (h.0, omega (arith, h.1))
addable_laid d net (Via padstack at) h = h.0
addable_laid d net (Pad pin) h = absurd h
addable_laid d net (Ban wires vias) h = absurd h

-- ---- replaced wires
reshaped_of : (d : Design) (id net : ℕ) (chain : List Point) (m : Metal) → IsSound d → net < length d.nets
    → IsMetalFit m → IsMetalInRange d m → IsWire m → 2 ≤ length chain → All (IsWithin (2 ^ 29)) chain
    → IsItemOf d (item_of d id (Some net) false (with_chain chain m))
reshaped_of d id net chain (Wire layer width points) s n fit range wire some within =
    wire_fits d id net layer width chain n range fit.2 some within
reshaped_of d id net chain (Via padstack at) s n fit range wire some within = absurd wire
reshaped_of d id net chain (Pad pin) s n fit range wire some within = absurd wire
reshaped_of d id net chain (Ban wires vias) s n fit range wire some within = absurd wire

pub reshaped_fits : (d : Design) (id net : ℕ) (chain : List Point) (a : Item) → IsSound d → IsItemOf d a
    → a.net ≡ Some net → net < length d.nets → IsWire a.metal → 2 ≤ length chain → All (IsWithin (2 ^ 29)) chain
    → IsItemOf d (reshaped d id chain a)
reshaped_fits d id net chain a s fits net_is n wire some within =
    subst (λ (o : Option ℕ). IsItemOf d (item_of d id o false (with_chain chain a.metal))) (sym net_is)
    (reshaped_of d id net chain a.metal s n fits.metal_fits fits.metal_in_range wire some within)

pub reshaped_laid : (d : Design) (net : Option ℕ) (chain : List Point) (m : Metal) → IsMetalLaid d net m
    → IsMetalLaid d net (with_chain chain m)
reshaped_laid d net chain (Wire layer width points) h = h
reshaped_laid d net chain (Via padstack at) h = h
reshaped_laid d net chain (Pad pin) h = h
reshaped_laid d net chain (Ban wires vias) h = h
