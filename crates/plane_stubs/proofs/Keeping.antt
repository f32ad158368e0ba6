-- What the copper keeps while stubs come.
use Rattle.std.proofs.Common.{◌≡◌, ℕ, zero, suc, ◌+◌, ◌<◌, ◌≤◌, arith, refl, sym, ap, ◌∙◌, subst, Bool, true, false}
use Rattle.std.proofs.Common.{List}
use Rattle.std.proofs.Common.{[], ◌∷◌, ◌++◌, length, get_or, All, Contains, Some}
use Rattle.std.specs.Prelude.{AllPairs, filter, slice_get}
use Rattle.std.proofs.lemmas.List.{append-nil, append_assoc, length-append}
use Rattle.std.proofs.lemmas.List.Elements.{All-append, All-head, All-nil, All-tail, filter-append}
use Rattle.std.proofs.lemmas.List.Kept.{AllPairs-cons}
use Rattle.std.proofs.lemmas.Option.{slice_get-get_or}
use Rattle.pcb_model.specs.declared.item.Item.{Item}
use Rattle.pcb_model.specs.declared.item.Metal.{Metal}
use Rattle.pcb_model.specs.declared.design.Design.{Design}
use Rattle.pcb_model.specs.Board.{AreInside, is_fixed}
use Rattle.pcb_model.specs.Copper.{Ascends}
use Rattle.pcb_model.specs.Pairs.{Agrees}
use Rattle.pcb_model.specs.Plain.{IsPlainCopper, IsPlainItem}
use Rattle.pcb_model.specs.Rules.{width_for}
use Rattle.pcb_model.specs.Scale.{is_whole_metal, scale_of}
use Rattle.pcb_model.specs.Sound.{IsItemOf, IsSound, Serves}
use Rattle.pcb_tiles.proofs.Changes.{pairs_head, pairs_tail}
use Rattle.pcb_islands.specs.declared.net.Island.{Island}
use Rattle.pcb_islands.specs.Islands.{pins_of}
use Rattle.route_lattice.specs.declared.moves.Walk.{Walk}
use Rattle.route_lattice.specs.Fits.{FitsDesign}
use Rattle.route_lattice.specs.Gather.{unit_of}
use Rattle.path_wire.specs.Lays.{IsWellLaid, laid_item}
use Rattle.path_wire.specs.Wires.{copper_of}
use Rattle.path_wire.proofs.Touching.{metal_plain}
use Rattle.plane_joins.specs.Holding.{AgreesIfAdded}
use Rattle.plane_joins.proofs.Places.{each_more}
use Rattle.plane_stubs.specs.Holding.{ObeysAsRouted}
use Rattle.plane_joins.specs.Stubs.{IsStub, IsStubWalk, RibGround, TriesPin, TriesPins, laid_from, with_items}
use Rattle.plane_joins.specs.Planned.{TriesNets}
use Rattle.plane_stubs.proofs.Copper.{all_laid, stub_agrees, stub_inside, stub_routes, stub_well}
use Rattle.plane_stubs.proofs.Metals.{copper_is}
use Rattle.plane_stubs.proofs.Scale.{HasWholeLines, copper_whole}
use Rattle.plane_stubs.proofs.Tables.{Grows, laid_past}
use Rattle.plane_stubs.proofs.Walks.{net_of}

-- ---- lists
-- each pair of both lists, and of one with the other
pub pairs_append : {X : Type 0} (R : X → X → Type 0) (xs ys : List X) → AllPairs R xs → AllPairs R ys
    → ((x : X) → Contains xs x → All (R x) ys) → AllPairs R (xs ++ ys)
pairs_append R [] ys first second both = second
pairs_append R (x ∷ xs) ys first second both =
    AllPairs-cons R x (xs ++ ys)
    (All-append (R x) xs ys (pairs_head R x xs first) (both x (0, omega arith, refl)))
    (pairs_append R xs ys (pairs_tail R x xs first) second
    (λ z h. both z (suc h.0, let w = h.1 in omega (arith, w), h.2)))

-- items are numbered by their places
abbrev pub AreNumbered : List Item → Type 0
AreNumbered items = (i : ℕ) (a : Item) → slice_get items i ≡ Some a → a.id ≡ i

pub numbers_ascend : (items : List Item) → AreNumbered items → Ascends items
numbers_ascend items h = λ i j e before within.
    let m = h i (get_or items i e) (slice_get-get_or items i e (omega (arith, before, within))) in
    let n = h j (get_or items j e) (slice_get-get_or items j e within) in
    omega (arith, before, m, n)

-- ---- the copper
pub record Keeps (g : RibGround) : Type 0 where
  pub numbered : AreNumbered g.items
  pub serves : Serves g.items g.d
  pub past : g.last ≤ length g.items
  pub plain : All IsPlainItem g.items
  pub agree : AllPairs (AgreesIfAdded g.d) g.items

-- whole in the session's unit
abbrev pub IsWholeItem : Design → Item → Type 0
IsWholeItem d a = is_whole_metal d (scale_of d).nm a.metal ≡ true

-- what comes obeys as routed copper, it is whole where the lattice's lines are, and the copper keeps so
pub record Steps (g : RibGround) (after : List Item) : Type 0 where
  pub grows : Grows g after
  pub obey : All (ObeysAsRouted g.d) grows.more
  pub whole : HasWholeLines (unit_of g.d) g.lat → All (IsWholeItem g.d) grows.more
  pub keeps : Keeps (with_items g after)

-- ---- items that metals make
module _ (d : Design) (net : ℕ) where
  none_fixed : (id : ℕ) (ms : List Metal) → filter is_fixed (laid_from d net id ms) ≡ []
  none_fixed id [] = refl
  none_fixed id (a ∷ ms) = none_fixed (id + 1) ms

  laid_numbered : (items : List Item) (id : ℕ) (ms : List Metal) → id ≡ length items → AreNumbered items
      → AreNumbered (items ++ laid_from d net id ms)
  laid_numbered items id [] e h = subst AreNumbered (sym (append-nil items)) h
  laid_numbered items id (a ∷ ms) e h =
      let x = laid_item d net id a in
      let more = length-append items (x ∷ []) in
      subst AreNumbered (append_assoc items (x ∷ []) (laid_from d net (id + 1) ms))
      (laid_numbered (items ++ x ∷ []) (id + 1) ms (omega (arith, e, more))
      (each_more (λ i (b : Item). b.id ≡ i) items x h e))

  module _ (own : (i j : ℕ) (a b : Metal) → Agrees d (laid_item d net i a) (laid_item d net j b)) where
    own_pairs : (id : ℕ) (ms : List Metal) → AllPairs (AgreesIfAdded d) (laid_from d net id ms)
    own_pairs id [] = λ i j e before within. absurd (omega (arith, before, within))
    own_pairs id (a ∷ ms) =
        AllPairs-cons (AgreesIfAdded d) (laid_item d net id a) (laid_from d net (id + 1) ms)
        (all_laid d net (AgreesIfAdded d (laid_item d net id a)) (id + 1) ms
        (λ i k e within. record { agrees = λ _. own i id (get_or ms k e) a })) (own_pairs (id + 1) ms)

-- ---- one stub
-- metals of one net agree, whichever they are
abbrev pub OwnAgree : Type 0
OwnAgree = (d : Design) (net i j : ℕ) (a b : Metal) → Agrees d (laid_item d net i a) (laid_item d net j b)

module _ (g : RibGround) (sound : IsSound g.d) (plain : IsPlainCopper g.d) (fits : FitsDesign g.d g.lat)
    (own : OwnAgree) where
  module _ (k : Keeps g) (s : Island) (there : s.net < length g.d.nets) (w : Walk) (h : IsStubWalk g s w) where
    abbrev copper : List Metal
    copper = copper_of g.d g.lat s.net w.nodes w.moves

    abbrev laid : List Item
    laid = laid_from g.d s.net (length g.items) copper

    obeys : All (ObeysAsRouted g.d) laid
    obeys = all_laid g.d s.net (ObeysAsRouted g.d) (length g.items) copper
        (λ i n e within. record {
          copper = copper_is (width_for g.d s.net) _ (stub_routes g sound fits s there w h n e within);
          made = record { net = s.net; net_there = there; made = refl };
          inside = stub_inside g sound fits s there w h n e within;
          laid = (stub_well g sound fits s there w h i n e within).laid;
        })

    pub keeps_stub : Keeps (with_items g (g.items ++ laid))
    keeps_stub = record {
      numbered = laid_numbered g.d s.net g.items (length g.items) copper refl k.numbered;
      serves = record {
        design_fits = k.serves.design_fits;
        fixed_there = filter-append is_fixed g.items laid
            ∙ ap (λ (xs : List Item). filter is_fixed g.items ++ xs) (none_fixed g.d s.net (length g.items) copper)
            ∙ append-nil (filter is_fixed g.items) ∙ k.serves.fixed_there;
        items_fit = All-append (IsItemOf g.d) g.items laid k.serves.items_fit
            (all_laid g.d s.net (IsItemOf g.d) (length g.items) copper
            (λ i n e within. (stub_well g sound fits s there w h i n e within).fits));
      };
      past = let more = length-append g.items laid in let old = k.past in omega (arith, more, old);
      plain = All-append IsPlainItem g.items laid k.plain
          (all_laid g.d s.net IsPlainItem (length g.items) copper
          (λ i n e within. record { plain = λ net is. metal_plain g.d (get_or copper n e) plain }));
      agree = pairs_append (AgreesIfAdded g.d) g.items laid k.agree
          (own_pairs g.d s.net (own g.d s.net) (length g.items) copper)
          (λ b b_in. all_laid g.d s.net (AgreesIfAdded g.d b) (length g.items) copper
          (λ i n e within. record { agrees = λ _. stub_agrees g sound fits s there w h i b b_in n e within }));
    }

    pub stub_steps : Steps g (g.items ++ laid)
    stub_steps = record {
      grows = record {
        more = laid;
        is = refl;
        past = laid_past g.d s.net g.last (length g.items) copper k.past;
      };
      obey = obeys;
      whole = λ lines. all_laid g.d s.net (IsWholeItem g.d) (length g.items) copper
          (λ i n e within. copper_whole g.d g.lat s.net w.nodes w.moves there lines
          (λ j f less. (stub_well g sound fits s there w h 0 j f less).laid) n e within);
      keeps = keeps_stub;
    }

  pub same_steps : Keeps g → Steps g g.items
  same_steps k = record {
    grows = record { more = []; is = sym (append-nil g.items); past = All-nil (λ (b : Item). g.last ≤ b.id) };
    obey = All-nil (ObeysAsRouted g.d);
    whole = λ _. All-nil (IsWholeItem g.d);
    keeps = k;
  }

  pub pin_steps : (net pin : ℕ) (after : List Item) → net < length g.d.nets → Keeps g → TriesPin g net pin after
      → Steps g after
  pin_steps net pin after there k (TriesPin.inside found are none) = same_steps k
  pin_steps net pin after there k (TriesPin.served found s are in_found begins served) = same_steps k
  pin_steps net pin after there k (TriesPin.stub found s metals are in_found begins none is) =
      let e = net_of g net found s are in_found in
      subst (λ (n : ℕ). Steps g (g.items ++ laid_from g.d n (length g.items) metals)) e
      (subst (λ (ms : List Metal). Steps g (g.items ++ laid_from g.d s.net (length g.items) ms)) (sym is.metals_are)
      (stub_steps k s (subst (λ (n : ℕ). n < length g.d.nets) (sym e) there) is.walk is.is_least.leads))

-- ---- one after another
steps_on : (g : RibGround) (mid end : List Item) → Steps g mid → Steps (with_items g mid) end → Steps g end
steps_on g mid end one two = record {
  grows = record {
    more = one.grows.more ++ two.grows.more;
    is = two.grows.is ∙ ap (λ (xs : List Item). xs ++ two.grows.more) one.grows.is
        ∙ append_assoc g.items one.grows.more two.grows.more;
    past = All-append (λ (b : Item). g.last ≤ b.id) one.grows.more two.grows.more one.grows.past two.grows.past;
  };
  obey = All-append (ObeysAsRouted g.d) one.grows.more two.grows.more one.obey two.obey;
  whole = λ lines. All-append (IsWholeItem g.d) one.grows.more two.grows.more (one.whole lines) (two.whole lines);
  keeps = two.keeps;
}

pub pins_steps : (g : RibGround) → IsSound g.d → IsPlainCopper g.d → FitsDesign g.d g.lat → OwnAgree → (net : ℕ)
    (pins : List ℕ) (after : List Item) → net < length g.d.nets → Keeps g → TriesPins g net pins after → Steps g after
pins_steps g sound plain fits own net [] after there k e =
    subst (Steps g) (sym e) (same_steps g sound plain fits own k)
pins_steps g sound plain fits own net (pin ∷ pins) after there k (next, one, rest) =
    let first = pin_steps g sound plain fits own net pin next there k one in
    steps_on g next after first
    (pins_steps (with_items g next) sound plain fits own net pins after there first.keeps rest)

pub nets_steps : (g : RibGround) → IsSound g.d → IsPlainCopper g.d → FitsDesign g.d g.lat → OwnAgree
    → (nets : List ℕ) (after : List Item) → All (λ net. net < length g.d.nets) nets → Keeps g
    → TriesNets g nets after → Steps g after
nets_steps g sound plain fits own [] after there k e =
    subst (Steps g) (sym e) (same_steps g sound plain fits own k)
nets_steps g sound plain fits own (net ∷ nets) after there k (next, one, rest) =
    let first = pins_steps g sound plain fits own net (pins_of g.d net) next
    (All-head (λ n. n < length g.d.nets) net nets there) k one in
    steps_on g next after first
    (nets_steps (with_items g next) sound plain fits own nets after
    (All-tail (λ n. n < length g.d.nets) net nets there) first.keeps rest)
