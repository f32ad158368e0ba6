-- Copper that serves a sound design: its fixed items, and routed ones that come and go.
use Rattle.std.proofs.Common.{◌≡◌, ℕ, ◌<◌, refl, sym, ap, ◌∙◌, subst, Bool, false, List, [], ◌∷◌, ◌++◌, map}
use Rattle.std.proofs.Common.{take, drop, Option, Some, None, All, IfSome, length, slice_get, get_or, cond, suc}
use Rattle.std.proofs.Common.{arith, rules}
use Prim.Native.Nat.{zero}
use Rattle.std.specs.Prelude.{remove, MatchOption}
use Rattle.std.specs.List.{filter}
use Rattle.std.proofs.lemmas.List.{length-take, get_or-take}
use Rattle.std.proofs.lemmas.List.Elements.{All-nil, All-cons, All-head, All-tail, All-map, All-append, All-take}
use Rattle.std.proofs.lemmas.List.Elements.{All-drop}
use Rattle.geo_kernel.specs.declared.point.Point.{Point}
use Rattle.pcb_model.specs.declared.item.Item.{Item}
use Rattle.pcb_model.specs.declared.item.Piece.{Piece}
use Rattle.pcb_model.specs.declared.item.Metal.{Metal}
use Rattle.pcb_model.specs.declared.item.Metal.TheVariants.{Wire, Via, Pad, Ban}
use Rattle.pcb_model.specs.declared.design.Design.{Design}
use Rattle.pcb_model.specs.declared.design.Padstack.{Padstack}
use Rattle.pcb_model.specs.declared.design.FreeWire.{FreeWire}
use Rattle.pcb_model.specs.Board.{is_fixed, IsRouted}
use Rattle.pcb_model.specs.Bounds.{IsItemFit, HasClearancesWithin}
use Rattle.pcb_model.specs.Pieces.{pieces_of, pieces_in, padstack_pieces, moved_piece, wire_piece, item_of}
use Rattle.pcb_model.specs.Sound.{IsSound, IsFreeSound, IsItemOf, IsLayerOf, IsMetalInRange, IsCopper}
use Rattle.pcb_model.specs.Sound.{Serves}
use Rattle.pcb_model.proofs.Laying.{serves_more}
use Rattle.route_plan.proofs.Serving.{fixed_at}
use Rattle.pcb_tiles.specs.Spread.{Spread, Gains, Loses, ServesSpread, holding}

each : (P : Item → Type 0) (found : Option Item) → ((a : Item) → found ≡ Some a → P a) → IfSome found P
each P None holds = search rules
each P (Some a) holds = holds a refl

pub some_fits : (d : Design) → IsSound d → (at : ℕ) → IfSome (slice_get d.fixed at) IsItemFit
some_fits d sound at = each IsItemFit (slice_get d.fixed at) (λ a there. (sound.fixed at a there).item.fits)

-- the fixed items before one have lesser ids
pub fixed_above : (d : Design) → IsSound d → (i : ℕ) (x : Item) → i < length d.fixed → x ≡ get_or d.fixed i x
    → All (λ (b : Item). b.id < x.id) (take i d.fixed)
fixed_above d sound i x within is = λ k y l.
    let m : (k < i) × (k < length d.fixed) =
    (omega (arith, l, length-take i d.fixed), omega (arith, l, length-take i d.fixed)) in
    let low = (fixed_at d sound k y m.1).numbered in
    let high = (fixed_at d sound i x within).numbered in
    let e = ap (λ (b : Item). b.id) (get_or-take i d.fixed k y m.0) in
    let f = ap (λ (b : Item). b.id) is in
    omega (arith, low, high, e, f, m.0)

-- ---- the item that free wiring makes
moved_layers : (d : Design) (p : Point) (ps : List Piece) → All (IsLayerOf d) ps
    → All (IsLayerOf d) (map (moved_piece p) ps)
moved_layers d p ps h = All-map (IsLayerOf d) (moved_piece p) ps (λ k r l. h k r l)

stack_layers : (d : Design) (found : Option Padstack) → IfSome found (λ (s : Padstack). All (IsLayerOf d) s.pieces)
    → All (IsLayerOf d) (pieces_in found)
stack_layers d None h = All-nil (IsLayerOf d)
stack_layers d (Some s) h = h

got : {X : Type 0} (P : X → Type 0) (xs : List X) → All P xs → (k : ℕ) → IfSome (slice_get xs k) P
got P [] h k = tt
got P (x ∷ xs) h zero = All-head P x xs h
got P (x ∷ xs) h (suc k) = got P xs (All-tail P x xs h) k

wiring_layers : (d : Design) (m : Metal) → IsSound d → IsCopper m → IsMetalInRange d m
    → All (IsLayerOf d) (pieces_of d m)
wiring_layers d (Wire layer width chain) sound c r =
    All-cons (IsLayerOf d) (wire_piece layer width chain) [] r (All-nil (IsLayerOf d))
wiring_layers d (Via padstack at) sound c r =
    let P : Padstack → Type 0 = λ s. All (IsLayerOf d) s.pieces in
    moved_layers d at (padstack_pieces d padstack)
    (stack_layers d (slice_get d.padstacks padstack) (got P d.padstacks sound.padstack_layers padstack))
wiring_layers d (Pad pin) sound c r = absurd c
wiring_layers d (Ban wires vias) sound c r = absurd c

pub free_of : (d : Design) (f : FreeWire) (id : ℕ) → IsSound d → IsFreeSound d f
    → IsItemOf d (item_of d id (Some f.net) false f.metal)
free_of d f id sound h = record {
  fits = record { pieces_fit = h.pieces_fit };
  metal_fits = h.fits;
  metal_in_range = h.in_range;
  layers_in_range = wiring_layers d f.metal sound h.copper h.in_range;
  net_in_range = h.net_in_range;
}

pub made_of : (d : Design) (f : FreeWire) (id : ℕ) (m : Metal) (a : Item) → IsSound d → IsFreeSound d f → m ≡ f.metal
    → a ≡ item_of d id (Some f.net) false m → IsItemOf d a
made_of d f id m a sound h e k =
    let F : Metal → Item = λ x. item_of d id (Some f.net) false x in
    subst (IsItemOf d) (sym (k ∙ ap F e)) (free_of d f id sound h)

-- ---- one more routed item, and one less
is_that : (x a : Item) → Some x ≡ Some a → x ≡ a
is_that x a e = cc

unfixed : (x : Item) (xs : List Item) → IsRouted x → filter is_fixed (x ∷ xs) ≡ filter is_fixed xs
unfixed x xs r = let F : Bool → List Item = λ b. cond b (x ∷ filter is_fixed xs) (filter is_fixed xs) in ap F r

removed : (xs : List Item) (i : ℕ) (a : Item) → slice_get xs i ≡ Some a → IsRouted a
    → filter is_fixed (remove xs i) ≡ filter is_fixed xs
removed [] i a e r = absurd (cc)
removed (x ∷ xs) zero a e r = sym (unfixed x xs (subst IsRouted (sym (is_that x a e)) r))
removed (x ∷ xs) (suc i) a e r =
    let F : List Item → List Item = λ ys. cond (is_fixed x) (x ∷ ys) ys in ap F (removed xs i a e r)

left : (P : Item → Type 0) (xs : List Item) (i : ℕ) → All P xs → All P (remove xs i)
left P xs i h = All-append P (take i xs) (drop (suc i) xs) (All-take P i xs h) (All-drop P (suc i) xs h)

with_that : (P : Item → Type 0) (xs : List Item) (i : ℕ) (a : Item) → slice_get xs i ≡ Some a → P a
    → All P (remove xs i) → All P xs
with_that P [] i a e p h = All-nil P
with_that P (x ∷ xs) zero a e p h = All-cons P x xs (subst P (sym (is_that x a e)) p) h
with_that P (x ∷ xs) (suc i) a e p h =
    All-cons P x xs (All-head P x (remove xs i) h) (with_that P xs i a e p (All-tail P x (remove xs i) h))

pub more : (t : Spread) (d : Design) (a : Item) → ServesSpread t d → IsRouted a → IsItemOf d a
    → ServesSpread (holding t (t.items ++ a ∷ [])) d
more t d a h r of = record { serves = serves_more d t.items a h.serves r of; reaches = h.reaches }

pub less : (old new : Spread) (d : Design) (a : Item) → ServesSpread old d → IsRouted a → Loses old a new
    → ServesSpread new d
less old new d a h r l =
    let F : List Item → Type 0 = λ xs. Serves xs d in
    let G : ℕ → Type 0 = λ n. HasClearancesWithin n d in
    record {
      serves = subst F (sym l.items.rest_is) (record {
        design_fits = h.serves.design_fits;
        fixed_there = removed old.items l.items.place a l.items.there r ∙ h.serves.fixed_there;
        items_fit = left (IsItemOf d) old.items l.items.place h.serves.items_fit;
      });
      reaches = subst G (sym l.same_reach) h.reaches;
    }

pub back : (old new : Spread) (d : Design) (a : Item) → ServesSpread old d → IsRouted a → IsItemOf d a
    → Gains old a new
    → ServesSpread new d
back old new d a h r of g =
    let F : List Item → Type 0 = λ xs. Serves xs d in
    let G : ℕ → Type 0 = λ n. HasClearancesWithin n d in
    let rest = subst F g.items.rest_is h.serves in
    record {
      serves = record {
        design_fits = h.serves.design_fits;
        fixed_there = sym (removed new.items g.items.place a g.items.there r) ∙ rest.fixed_there;
        items_fit = with_that (IsItemOf d) new.items g.items.place a g.items.there of rest.items_fit;
      };
      reaches = subst G (sym g.same_reach) h.reaches;
    }

pub loses_of : (old new : Spread) (id : ℕ) (o : Option Item)
    → MatchOption o ((new ≡ old) × All (λ (b : Item). b.id ≡ id → ⊥) old.items) (λ b. (b.id ≡ id) × Loses old b new)
    → IfSome o (λ b. Loses old b new)
loses_of old new id None h = tt
loses_of old new id (Some b) h = h.1
