-- What is added to a design: its ribs, and behind them its stubs.
use Rattle.std.proofs.Common.{◌≡◌, ℕ, zero, suc, ◌<◌, ◌≤◌, ◌+◌, arith, refl, sym, ap, ◌∙◌, subst, Bool, true, false}
use Rattle.std.proofs.Common.{List}
use Rattle.std.proofs.Common.{[], ◌∷◌, ◌++◌, length, drop, get_or, drop-cons, add-one, All, Some, cond, inl, ◌==◌}
use Rattle.std.specs.Prelude.{map, filter, slice_get}
use Rattle.std.specs.List.{list_any, range_with_len}
use Rattle.std.proofs.lemmas.List.{append-nil, append_assoc, append_cancel_left, length-append, map-append}
use Rattle.std.proofs.lemmas.List.Elements.{All-append, All-filter, All-head, All-nil, All-tail, All-weaker}
use Rattle.std.proofs.lemmas.List.Elements.{filter-append}
use Rattle.std.proofs.lemmas.List.FromFn.{get_or-range_with_len, length-range_with_len}
use Rattle.std.proofs.lemmas.Option.{same_Some, slice_get-get_or}
use Rattle.pcb_model.specs.declared.item.Item.{Item}
use Rattle.pcb_model.specs.declared.design.Design.{Design}
use Rattle.pcb_model.specs.Bounds.{HasClearancesWithin, IsItemFit}
use Rattle.pcb_model.specs.Copper.{Ascends}
use Rattle.geo_kernel.proofs.Paths.{All-append_second}
use Rattle.pcb_model.specs.Sound.{IsCopper, IsFixedSound, IsItemOf, IsSound}
use Rattle.pcb_tiles.specs.Spread.{Spread}
use Rattle.plane_joins.specs.Changed.{MayFollow, with_fixed}
use Rattle.plane_joins.specs.declared.area.PlaneArea.{PlaneArea}
use Rattle.plane_joins.specs.Ribs.{AreRibs}
use Rattle.pcb_islands.specs.Islands.{pins_of}
use Rattle.plane_stubs.specs.declared.held.Held.{Held}
use Rattle.plane_joins.specs.Planned.{IsPlaned, TriesNets, nets_of, ribbed, tight}
use Rattle.plane_joins.specs.Stubs.{RibGround, TriesPins, with_items, loose}
use Rattle.plane_stubs.specs.inner.Adding.{IsFirstHeld, LeadsNets}
use Rattle.plane_stubs.specs.inner.Holding.{IsHeld}
use Rattle.plane_stubs.specs.inner.Sites.{SiteOf, on_site}
use Rattle.plane_stubs.proofs.Loosened.{numbered, ribs_serve}
use Rattle.plane_stubs.proofs.Tables.{Grows, pin_grows}

-- ---- at first
module _ (d : Design) (sound : IsSound d) (ribs : List Item) (follow : MayFollow d ribs) where
  abbrev first_list : List Item
  first_list = d.fixed ++ map loose ribs

  pub first_ascends : Ascends first_list
  first_ascends = λ i j e before within.
      let id_at = numbered d.fixed ribs 0
      (λ k b at. let m = (follow.each k b at).numbered in omega (arith, m)) in
      let m = id_at i (get_or first_list i e) (slice_get-get_or first_list i e (omega (arith, before, within))) in
      let n = id_at j (get_or first_list j e) (slice_get-get_or first_list j e within) in
      omega (arith, before, m, n)

  pub first_fit : All IsItemFit first_list
  first_fit =
      All-weaker (IsItemOf d) IsItemFit (λ a h. h.fits) first_list (ribs_serve d sound ribs follow.each).items_fit

-- ---- what comes in the course of all nets
longer : (xs ys : List Item) → length xs ≤ length (xs ++ ys)
longer [] ys = omega arith
longer (x ∷ xs) ys = let r = longer xs ys in omega (arith, r)

grows_on : (f : RibGround) (mid end : List Item) → Grows f mid → f.last ≤ length f.items
    → (f.last ≤ length mid → Grows (with_items f mid) end) → Grows f end
grows_on f mid end one k two =
    let past = longer f.items one.more in
    let t = two (subst (λ (xs : List Item). f.last ≤ length xs) (sym one.is) (omega (arith, k, past))) in record {
      more = one.more ++ t.more;
      is = t.is ∙ ap (λ (xs : List Item). xs ++ t.more) one.is ∙ append_assoc f.items one.more t.more;
      past = All-append (λ (b : Item). f.last ≤ b.id) one.more t.more one.past t.past;
    }

pins_grow : (g : RibGround) (net : ℕ) (pins : List ℕ) (after : List Item) → g.last ≤ length g.items
    → TriesPins g net pins after → Grows g after
pins_grow g net [] after h e =
    record { more = []; is = e ∙ sym (append-nil g.items); past = All-nil (λ (b : Item). g.last ≤ b.id) }
pins_grow g net (pin ∷ pins) after h (next, one, rest) =
    grows_on g next after (pin_grows g net pin next h one) h (λ k. pins_grow (with_items g next) net pins after k rest)

-- ---- one net more
pub leads_net : (g : RibGround) (all : List ℕ) (items after : List Item) (k net : ℕ) → k < length all
    → net ≡ get_or all k net → LeadsNets g all items (drop k all)
    → TriesPins (with_items g items) net (pins_of g.d net) after → LeadsNets g all after (drop (k + 1) all)
leads_net g all items after k net within is leads one =
    let rest = drop (k + 1) all in
    let at : drop k all ≡ get_or all k net ∷ rest = drop-cons all k net within ∙ rw add-one refl in
    let cons : drop k all ≡ net ∷ rest = at ∙ ap (λ (x : ℕ). x ∷ rest) (sym is) in
    record {
      on = λ end r. leads.on end
          (subst (λ (ns : List ℕ). TriesNets (with_items g items) ns end) (sym cons) (after, one, r));
    }

-- ---- the design in the end
nets_grow : (g : RibGround) (nets : List ℕ) (after : List Item) → g.last ≤ length g.items → TriesNets g nets after
    → Grows g after
nets_grow g [] after h e =
    record { more = []; is = e ∙ sym (append-nil g.items); past = All-nil (λ (b : Item). g.last ≤ b.id) }
nets_grow g (net ∷ nets) after h (next, one, rest) =
    grows_on g next after (pins_grow g net (pins_of g.d net) next h one) h
    (λ k. nets_grow (with_items g next) nets after k rest)

pub all_at : {X : Type 0} (Q : X → Type 0) (xs : List X) → ((i : ℕ) (a : X) → slice_get xs i ≡ Some a → Q a) → All Q xs
all_at Q xs h = λ k e within. h k (get_or xs k e) (slice_get-get_or xs k e within)

pub retight : (xs : List Item) → All (λ (a : Item). a.fixed ≡ true) xs → map tight (map loose xs) ≡ xs
retight [] h = refl
retight (x ∷ xs) h =
    ap (λ (b : Bool).
    record { id = x.id; net = x.net; fixed = b; kind = x.kind; metal = x.metal; pieces = x.pieces }
    ∷ map tight (map loose xs)) (sym (All-head (λ (a : Item). a.fixed ≡ true) x xs h))
    ∙ ap (λ (ys : List Item). x ∷ ys) (retight xs (All-tail (λ (a : Item). a.fixed ≡ true) x xs h))

pub all_fixed : (d : Design) (xs : List Item)
    → ((i : ℕ) (a : Item) → slice_get (d.fixed ++ xs) i ≡ Some a → IsFixedSound d i a)
    → All (λ (a : Item). a.fixed ≡ true) xs
all_fixed d xs h =
    All-append_second (λ (a : Item). a.fixed ≡ true) d.fixed xs
    (all_at (λ (a : Item). a.fixed ≡ true) (d.fixed ++ xs) (λ i a at. (h i a at).fixed))

added_are : (d : Design) (ribs added more : List Item) → All (λ (a : Item). a.fixed ≡ true) ribs
    → All (λ (a : Item). a.fixed ≡ true) added
    → d.fixed ++ map loose added ≡ (d.fixed ++ map loose ribs) ++ more → added ≡ ribs ++ map tight more
added_are d ribs added more f g e =
    let same : map loose added ≡ map loose ribs ++ more =
    append_cancel_left d.fixed (map loose added) (map loose ribs ++ more)
    (e ∙ append_assoc d.fixed (map loose ribs) more) in
    sym (retight added g) ∙ ap (λ (xs : List Item). map tight xs) same ∙ map-append tight (map loose ribs) more
    ∙ ap (λ (xs : List Item). xs ++ map tight more) (retight ribs f)

module _ (s : SiteOf) (planes : List PlaneArea) (ribs : List Item) (follow : MayFollow s.d ribs)
    (are : AreRibs s.d planes ribs) (first_is : s.first ≡ length s.d.fixed)
    (last_is : s.last ≡ length s.d.fixed + length ribs) where
  mapped : (xs : List Item) → length (map loose xs) ≡ length xs
  mapped [] = refl
  mapped (x ∷ xs) = ap suc (mapped xs)

  past_first : s.last ≤ length (s.d.fixed ++ map loose ribs)
  past_first =
      let n = length-append s.d.fixed (map loose ribs) in
      let m = mapped ribs in
      omega (arith, n, m, last_is)

  pub held_first : (h : Held) → IsFirstHeld s.d ribs h → IsHeld s h
  held_first h k = record {
    held = k.held ∙ ap (λ (xs : List Item). s.d.fixed ++ map loose xs) (sym k.added);
    reach = k.reach;
    each = λ i a at. follow.each i a (ap (λ (xs : List Item). slice_get (s.d.fixed ++ xs) i) (sym k.added) ∙ at);
    copper = subst (All (λ (a : Item). IsCopper a.metal)) (sym k.added) follow.copper;
    past_ribs = subst (λ (xs : List Item). s.last ≤ length xs) (sym k.held) past_first;
  }

  pub planned : (h : Held) → IsHeld s h
      → TriesNets (on_site s (s.d.fixed ++ map loose ribs)) (nets_of s.d planes) h.tiles.items
      → IsPlaned s.d s.lat planes s.via_cost (with_fixed s.d h.added)
  planned h k tries =
      let grown = nets_grow (on_site s (s.d.fixed ++ map loose ribs)) (nets_of s.d planes) h.tiles.items past_first
      tries in
      record {
        ribs = ribs;
        are_ribs = are;
        stubs = grown.more;
        are_stubs =
            subst (λ (n : ℕ). TriesNets (record {
              d = s.d;
              lat = s.lat;
              via_cost = s.via_cost;
              items = s.d.fixed ++ map loose ribs;
              first = n;
              last = length s.d.fixed + length ribs;
            }) (nets_of s.d planes) ((s.d.fixed ++ map loose ribs) ++ grown.more)) first_is
            (subst (λ (n : ℕ). TriesNets (record {
              d = s.d;
              lat = s.lat;
              via_cost = s.via_cost;
              items = s.d.fixed ++ map loose ribs;
              first = s.first;
              last = n;
            }) (nets_of s.d planes) ((s.d.fixed ++ map loose ribs) ++ grown.more)) last_is
            (subst (TriesNets (on_site s (s.d.fixed ++ map loose ribs)) (nets_of s.d planes)) grown.is tries));
        is = ap (λ (xs : List Item). with_fixed s.d xs)
            (added_are s.d ribs h.added grown.more (all_fixed s.d ribs follow.each) (all_fixed s.d h.added k.each)
            (sym k.held ∙ grown.is));
      }

-- ---- the nets that have a plane
range_push : (a n : ℕ) → range_with_len a (suc n) ≡ range_with_len a n ++ (a + n) ∷ []
range_push a zero = ap (λ (k : ℕ). k ∷ []) (omega arith)
range_push a (suc n) =
    ap (λ (ks : List ℕ). a ∷ ks) (range_push (a + 1) n
    ∙ ap (λ (k : ℕ). range_with_len (a + 1) n ++ k ∷ []) (omega arith))

range_next : (n : ℕ) → range_with_len 0 (n + 1) ≡ range_with_len 0 n ++ n ∷ []
range_next n =
    let next : n + 1 ≡ suc n = omega arith in
    ap (λ (m : ℕ). range_with_len 0 m) next ∙ range_push 0 n
    ∙ ap (λ (k : ℕ). range_with_len 0 n ++ k ∷ []) (omega arith)

pub kept_or_not : (p : ℕ → Bool) (n : ℕ) → filter p (range_with_len 0 n) ++ cond (p n) (n ∷ []) []
    ≡ filter p (range_with_len 0 (n + 1))
kept_or_not p n =
    sym (filter-append p (range_with_len 0 n) (n ∷ [])) ∙ ap (λ (ks : List ℕ). filter p ks) (sym (range_next n))

pub nets_there : (d : Design) (planes : List PlaneArea) → All (λ net. net < length d.nets) (nets_of d planes)
nets_there d planes =
    All-filter (λ net. list_any (λ (p : PlaneArea). p.net == net) planes) (λ net. net < length d.nets)
    (range_with_len 0 (length d.nets))
    (λ i e within.
    let few = length-range_with_len 0 (length d.nets) in
    let is = get_or-range_with_len 0 (length d.nets) i e (omega (arith, few, within)) in
    omega (arith, few, within, is))
