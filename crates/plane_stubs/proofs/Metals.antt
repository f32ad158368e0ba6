-- Copper of stubs, item by item.
use Rattle.std.proofs.Common.{◌≡◌, ℕ, zero, suc, ◌<◌, ◌≤◌, ◌+◌, arith, refl, sym, ap, ◌∙◌, subst, Bool, true, false}
use Rattle.std.proofs.Common.{List}
use Rattle.std.proofs.Common.{[], ◌∷◌, ◌++◌, length, drop, get_or, drop-cons, add-one, All, Some}
use Rattle.std.specs.Prelude.{map, slice_get}
use Rattle.std.proofs.lemmas.List.{append_assoc, length-append, map-append}
use Rattle.std.proofs.lemmas.List.Elements.{All-append, All-cons, All-nil, All-weaker}
use Rattle.pcb_model.specs.declared.item.Item.{Item}
use Rattle.pcb_model.specs.declared.item.Metal.{Metal}
use Rattle.pcb_model.specs.declared.item.Metal.TheVariants as metal
use Rattle.pcb_model.specs.declared.design.Design.{Design}
use Rattle.pcb_model.specs.Pieces.{item_of}
use Rattle.pcb_model.specs.Sound.{IsCopper, IsFixedSound, IsItemOf}
use Rattle.pcb_tiles.specs.Spread.{Spread, holding}
use Rattle.path_wire.specs.Lays.{IsWellLaid, IsWireOrVia, laid_item}
use Rattle.plane_joins.specs.Stubs.{loose}
use Rattle.plane_joins.proofs.Places.{each_more}
use Rattle.plane_stubs.specs.declared.held.Held.{Held}
use Rattle.plane_joins.specs.Stubs.{laid_from}
use Rattle.plane_stubs.specs.inner.Holding.{IsHeld, LeadsLaid}
use Rattle.plane_stubs.specs.inner.Sites.{IsNetMetal, SiteOf}

-- as many as fixed items and what was added
pub held_count : (s : SiteOf) (h : Held) → IsHeld s h → length h.tiles.items ≡ length (s.d.fixed ++ h.added)
held_count s h k =
    ap (λ (xs : List Item). length xs) k.held ∙ length-append s.d.fixed (map loose h.added)
    ∙ ap (λ (n : ℕ). length s.d.fixed + n) (mapped h.added) ∙ sym (length-append s.d.fixed h.added)
  where
    mapped : (xs : List Item) → length (map loose xs) ≡ length xs
    mapped [] = refl
    mapped (x ∷ xs) = ap suc (mapped xs)

-- ---- one metal more
tight_of : (d : Design) (id net : ℕ) (a : Metal) → IsItemOf d (laid_item d net id a)
    → IsItemOf d (item_of d id (Some net) true a)
tight_of d id net a h = record {
  fits = record { pieces_fit = h.fits.pieces_fit };
  metal_fits = h.metal_fits;
  metal_in_range = h.metal_in_range;
  layers_in_range = h.layers_in_range;
  net_in_range = h.net_in_range;
}

pub held_more : (s : SiteOf) (h : Held) → IsHeld s h → (net id : ℕ) (a : Metal) → IsNetMetal s.d net a
    → id ≡ length (s.d.fixed ++ h.added) → (tiles : Spread)
    → tiles ≡ holding h.tiles (h.tiles.items ++ laid_item s.d net id a ∷ []) → (added : List Item)
    → added ≡ h.added ++ item_of s.d id (Some net) true a ∷ []
    → IsHeld s (record { tiles = tiles; added = added })
held_more s h k net id a m id_is tiles tiles_are added added_are =
    subst (λ (t : Spread). IsHeld s (record { tiles = t; added = added })) (sym tiles_are)
    (subst (λ (xs : List Item).
    IsHeld s (record { tiles = holding h.tiles (h.tiles.items ++ laid_item s.d net id a ∷ []); added = xs }))
    (sym added_are) here)
  where
    fixed : Item
    fixed = item_of s.d id (Some net) true a

    here : IsHeld s (record {
      tiles = holding h.tiles (h.tiles.items ++ laid_item s.d net id a ∷ []);
      added = h.added ++ item_of s.d id (Some net) true a ∷ [];
    })
    here = record {
      held = ap (λ (xs : List Item). xs ++ laid_item s.d net id a ∷ []) k.held
          ∙ append_assoc s.d.fixed (map loose h.added) (laid_item s.d net id a ∷ [])
          ∙ ap (λ (xs : List Item). s.d.fixed ++ xs)
          (sym (map-append loose h.added (item_of s.d id (Some net) true a ∷ [])));
      reach = k.reach;
      each = λ i b at. each_more (IsFixedSound s.d) (s.d.fixed ++ h.added) (item_of s.d id (Some net) true a) k.each
          (record {
            numbered = id_is;
            fixed = refl;
            item = tight_of s.d id net a (m.well_laid id).fits;
          }) i b
          (ap (λ (xs : List Item). slice_get xs i)
          (append_assoc s.d.fixed h.added (item_of s.d id (Some net) true a ∷ [])) ∙ at);
      copper = All-append (λ (b : Item). IsCopper b.metal) h.added (item_of s.d id (Some net) true a ∷ []) k.copper
          (All-cons (λ (b : Item). IsCopper b.metal) (item_of s.d id (Some net) true a) [] m.copper
          (All-nil (λ (b : Item). IsCopper b.metal)));
      past_ribs =
          let past = k.past_ribs in
          let more = length-append h.tiles.items (laid_item s.d net id a ∷ []) in
          omega (arith, past, more);
    }

-- ---- all metals of a list
pub leads_laid : (d : Design) (net : ℕ) (first : List Item) (all : List Metal) (items after : List Item) (k : ℕ)
    (a : Metal) → k < length all → a ≡ get_or all k a → LeadsLaid d net first all items (drop k all)
    → after ≡ items ++ laid_item d net (length items) a ∷ [] → LeadsLaid d net first all after (drop (k + 1) all)
leads_laid d net first all items after k a within is leads more =
    let rest = drop (k + 1) all in
    let at : drop k all ≡ get_or all k a ∷ rest = drop-cons all k a within ∙ rw add-one refl in
    let cons : drop k all ≡ a ∷ rest = at ∙ ap (λ (x : Metal). x ∷ rest) (sym is) in
    let count : length after ≡ length items + 1 =
    ap (λ (xs : List Item). length xs) more ∙ length-append items (laid_item d net (length items) a ∷ []) in
    record {
      same = ap (λ (n : ℕ). after ++ laid_from d net n rest) count
          ∙ ap (λ (xs : List Item). xs ++ laid_from d net (length items + 1) rest) more
          ∙ append_assoc items (laid_item d net (length items) a ∷ []) (laid_from d net (length items + 1) rest)
          ∙ ap (λ (as' : List Metal). items ++ laid_from d net (length items) as') (sym cons) ∙ leads.same;
    }

-- ---- metals of a walk
pub copper_is : (width : ℕ) (a : Metal) → IsWireOrVia width a → IsCopper a
copper_is width (metal.Wire layer w chain) h = record {}
copper_is width (metal.Via padstack at) h = record {}
copper_is width (metal.Pad pin) h = absurd h
copper_is width (metal.Ban wires vias) h = absurd h

pub net_metals : (d : Design) (net width : ℕ) (metals : List Metal)
    → ((id : ℕ) → All (IsWellLaid d net id) metals) → All (IsWireOrVia width) metals → All (IsNetMetal d net) metals
net_metals d net width metals well widths =
    λ k a within. record {
      well_laid = λ id. well id k a within;
      copper = copper_is width _ (widths k a within);
    }
