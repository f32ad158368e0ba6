-- An item that has no entry in the tiles that a search looks at is far.
use Rattle.std.proofs.Common.{◌≡◌, ℕ, ℤ, pos, ◌+◌, ◌*◌, ◌<◌, ◌≤◌, ◌^◌, max, Bool, true, false, ◌&&◌, leb, List, []}
use Rattle.std.proofs.Common.{◌∷◌, ◌++◌, All, refl, sym, ap, ◌∙◌, subst, inl, inr, ◌⊎◌}
use Rattle.std.proofs.Common.{arith, Some, None, Option}
use Prim.Native.Nat.{zero, suc}
use Rattle.std.specs.Prelude.{◌+ℤ◌, ◌-ℤ◌, Contains}
use Rattle.std.proofs.lemmas.Bool.{le-leb}
use Rattle.std.proofs.lemmas.List.Elements.{All-cons, All-nil, All-head, All-tail, All-weaker, All-contains}
use Rattle.geo_kernel.specs.declared.point.Point.{Point}
use Rattle.geo_kernel.specs.declared.point.Rect4.{Rect4}
use Rattle.geo_kernel.specs.Boxes.{IsIn}
use Rattle.geo_kernel.specs.Spine.{vertices}
use Rattle.pcb_model.specs.declared.item.Piece.{Piece}
use Rattle.pcb_model.specs.declared.item.Item.{Item}
use Rattle.pcb_model.specs.declared.item.Probe.{Probe}
use Rattle.pcb_model.specs.declared.design.Design.{Design}
use Rattle.pcb_model.specs.declared.near.Extent.{Extent}
use Rattle.pcb_model.specs.Pieces.{pieces_of, metal_of, probe_item}
use Rattle.pcb_model.specs.Bounds.{IsFit, IsItemFit, HasClearancesWithin}
use Rattle.pcb_model.specs.Pairs.{Agrees, ProbeAgrees, AreTouching}
use Rattle.pcb_model.specs.Copper.{IsOther, Finds, IsBlocked, IsUnblocked}
use Rattle.pcb_model.specs.Near.{vertices_of, box_of_points, extent_of, greatest_width, first_layer, last_layer}
use Rattle.pcb_model.specs.Near.{IsExtentOf, AreFar}
use Rattle.pcb_model.proofs.Least.{least_in, greatest_in}
use Rattle.pcb_model.proofs.Far.{far_apart, apart_agree}
use Rattle.pcb_tiles.specs.declared.block.Block.{Block}
use Rattle.pcb_tiles.specs.Tiling.{IsArea, IsBlockOf, block_of, own_block, asked_block, probed_block, half_up, place_of}
use Rattle.pcb_tiles.specs.Searches.{Meets, IsHit, Sought, IsMet}
use Rattle.pcb_tiles.proofs.Tilings.{gap_between, gap_before}

-- ---- the least extent holds its pieces
pub all_left : {X : Type 0} (P : X → Type 0) (xs ys : List X) → All P (xs ++ ys) → All P xs
all_left P [] ys h = All-nil P
all_left P (x ∷ xs) ys h = All-cons P x xs (All-head P x (xs ++ ys) h) (all_left P xs ys (All-tail P x (xs ++ ys) h))

pub all_right : {X : Type 0} (P : X → Type 0) (xs ys : List X) → All P (xs ++ ys) → All P ys
all_right P [] ys h = h
all_right P (x ∷ xs) ys h = all_right P xs ys (All-tail P x (xs ++ ys) h)

all_vertices : (P : Point → Type 0) (ps : List Piece) → All P (vertices_of ps)
    → All (λ (p : Piece). All P (vertices p.spine)) ps
all_vertices P [] h = All-nil (λ (p : Piece). All P (vertices p.spine))
all_vertices P (p ∷ ps) h =
    All-cons (λ (q : Piece). All P (vertices q.spine)) p ps (all_left P (vertices p.spine) (vertices_of ps) h)
    (all_vertices P ps (all_right P (vertices p.spine) (vertices_of ps) h))

widths : (ps : List Piece) → All (λ (p : Piece). p.width ≤ greatest_width ps) ps
widths [] = All-nil (λ (p : Piece). p.width ≤ 0)
widths (p ∷ ps) = let P : Piece → Type 0 = λ q. q.width ≤ greatest_width (p ∷ ps) in
    All-cons P p ps (omega arith)
    (All-weaker (λ q. q.width ≤ greatest_width ps) P (λ q h. omega (arith, h)) ps (widths ps))

firsts : (ps : List Piece) → All (λ (p : Piece). first_layer ps ≤ p.layer) ps
firsts [] = All-nil (λ (p : Piece). 255 ≤ p.layer)
firsts (p ∷ ps) = let P : Piece → Type 0 = λ q. first_layer (p ∷ ps) ≤ q.layer in
    All-cons P p ps (omega arith)
    (All-weaker (λ q. first_layer ps ≤ q.layer) P (λ q h. omega (arith, h)) ps (firsts ps))

lasts : (ps : List Piece) → All (λ (p : Piece). p.layer ≤ last_layer ps) ps
lasts [] = All-nil (λ (p : Piece). p.layer ≤ 0)
lasts (p ∷ ps) = let P : Piece → Type 0 = λ q. q.layer ≤ last_layer (p ∷ ps) in
    All-cons P p ps (omega arith)
    (All-weaker (λ q. q.layer ≤ last_layer ps) P (λ q h. omega (arith, h)) ps (lasts ps))

width_fits : (ps : List Piece) → All IsFit ps → greatest_width ps ≤ 2 ^ 28
width_fits [] h = omega arith
width_fits (p ∷ ps) h = let r = width_fits ps (All-tail IsFit p ps h) in
    let w = (All-head IsFit p ps h).width_within in omega (arith, r, w)

pub extent_holds : (ps : List Piece) → All IsFit ps → IsExtentOf ps (extent_of ps)
extent_holds ps h =
    let vs = vertices_of ps in
    let r = box_of_points vs in
    let fx : Point → ℤ = λ p. p.x in
    let fy : Point → ℤ = λ p. p.y in
    let box : All (IsIn r) vs = λ k d l. record {
      left = least_in fx vs k d l;
      right = greatest_in fx vs k d l;
      bottom = least_in fy vs k d l;
      top =
          greatest_in fy vs k d l;
    } in
    record {
      each = λ k d l. record {
        spine_in = all_vertices (IsIn r) ps box k d l;
        width_in = widths ps k d l;
        from_layer =
            firsts ps k d l;
        to_layer = lasts ps k d l;
      };
      width_within = width_fits ps h;
    }

-- ---- tiles in common, or a gap
pub cases_lt : (k i : ℕ) → (k < i) ⊎ (i ≤ k)
cases_lt k zero = inr (omega arith)
cases_lt zero (suc i) = inl (omega arith)
cases_lt (suc k) (suc i) = elim (cases_lt k i) [ inl a ↦ inl (omega (arith, a)) | inr a ↦ inr (omega (arith, a)) ]

-- along one axis: the spans of tiles have a tile in common, or one ends before the other
record Common (fa la fb lb : ℕ) : Type 0 where
  at : ℕ
  from_a : fa ≤ at
  to_a : at ≤ max la fa
  from_b : fb ≤ at
  to_b : at ≤ max lb fb

common : (fa la fb lb : ℕ) → Common fa la fb lb ⊎ ((la < fb) ⊎ (lb < fa))
common fa la fb lb = elim (cases_lt la fb) [
  | inl h ↦ inr (inl h)
  | inr h ↦
      elim (cases_lt lb fa) [
        | inl k ↦ inr (inr k)
        | inr k ↦ inl (record {
          at = max fa fb;
          from_a = omega arith;
          to_a = omega (arith, h);
          from_b = omega arith;
          to_b = omega (arith, k);
        })
      ]
]

pub has_both : (a b c d : Bool) → a ≡ true → b ≡ true → c ≡ true → d ≡ true → ((a && b) && (c && d)) ≡ true
has_both true true true true e f g h = refl
has_both true true true false e f g h = h
has_both true true false d e f g h = g
has_both true false c d e f g h = f
has_both false b c d e f g h = e

pub meets_or_far : (area : Rect4) (q : Extent) (reach by : ℕ) (b : Item) → IsArea area → 2 * reach + q.width ≤ 2 * by
    → Meets area (block_of area q.bounds by) b ⊎ AreFar reach q (extent_of b.pieces)
meets_or_far area q reach by b h k =
    let e = extent_of b.pieces in
    let w = greatest_width b.pieces in
    let n = half_up w in
    let fa = place_of area.x0 area.x1 (q.bounds.x0 -ℤ pos by) in
    let la = place_of area.x0 area.x1 (q.bounds.x1 +ℤ pos by) in
    let fb = place_of area.x0 area.x1 (e.bounds.x0 -ℤ pos n) in
    let lb = place_of area.x0 area.x1 (e.bounds.x1 +ℤ pos n) in
    let ga = place_of area.y0 area.y1 (q.bounds.y0 -ℤ pos by) in
    let ma = place_of area.y0 area.y1 (q.bounds.y1 +ℤ pos by) in
    let gb = place_of area.y0 area.y1 (e.bounds.y0 -ℤ pos n) in
    let mb = place_of area.y0 area.y1 (e.bounds.y1 +ℤ pos n) in
    elim (common fa la fb lb) [
      | inr x ↦ inr (inr (inl (elim x [
        | inl l ↦
            inl (gap_between area.x0 area.x1 q.bounds.x1 e.bounds.x0 by w
            (2 * reach + q.width) h.x_rises h.within.x0_within k l)
        | inr l ↦
            inr (gap_before area.x0 area.x1 e.bounds.x1 q.bounds.x0 by w
            (2 * reach + q.width) h.x_rises h.within.x0_within k l)
      ])))
      | inl c ↦ elim (common ga ma gb mb) [
        | inr y ↦ inr (inr (inr (elim y [
          | inl l ↦
              inl (gap_between area.y0 area.y1 q.bounds.y1 e.bounds.y0 by w
              (2 * reach + q.width) h.y_rises h.within.y0_within k l)
          | inr l ↦
              inr (gap_before area.y0 area.y1 e.bounds.y1 q.bounds.y0 by w
              (2 * reach + q.width) h.y_rises h.within.y0_within k l)
        ])))
        | inl r ↦ inl (record {
          row = r.at;
          column = c.at;
          from_row = r.from_a;
          to_row = r.to_a;
          from_column = c.from_a;
          to_column = c.to_a;
          has = has_both (leb fb c.at) (leb c.at (max lb fb)) (leb gb r.at) (leb r.at (max mb gb))
              (le-leb fb c.at c.from_b) (le-leb c.at (max lb fb) c.to_b) (le-leb gb r.at r.from_b)
              (le-leb r.at (max mb gb) r.to_b);
        })
      ]
    ]

-- ---- so it agrees, or doesn't touch
pub clash_or : (area : Rect4) (q : Extent) (reach by : ℕ) (d : Design) (a b : Item) → IsArea area
    → 2 * reach + q.width ≤ 2 * by → HasClearancesWithin reach d → IsExtentOf a.pieces q → IsItemFit b
    → Meets area (block_of area q.bounds by) b ⊎ Agrees d a b
clash_or area q reach by d a b h k c x f = elim (meets_or_far area q reach by b h k) [
  | inl m ↦ inl m
  | inr far ↦
      inr (apart_agree reach d a b c
      (far_apart reach q (extent_of b.pieces) a.pieces b.pieces x (extent_holds b.pieces f.pieces_fit) far))
]

pub touch_or : (area : Rect4) (q : Extent) (by : ℕ) (a b : Item) → IsArea area → q.width ≤ 2 * by
    → IsExtentOf a.pieces q → IsItemFit b → Meets area (block_of area q.bounds by) b ⊎ (AreTouching a b → ⊥)
touch_or area q by a b h k x f = elim (meets_or_far area q 0 by b h (omega (arith, k))) [
  | inl m ↦ inl m
  | inr far ↦
      inr (λ t.
      (far_apart 0 q (extent_of b.pieces) a.pieces b.pieces x (extent_holds b.pieces f.pieces_fit) far).stay_off
      t.touch)
]

-- ---- what a search through the tiles finds is what one through the list does
pub finds_of : (Yes No : Item → Type 0) (from : ℕ) (but : Option ℕ) (area : Rect4) (b : Block) (items : List Item)
    (answer : Option ℕ) → Sought (λ a. IsOther but a × Yes a) (λ a. IsOther but a → No a) from area b items answer
    → ((a : Item) → Contains items a → Meets area b a ⊎ No a) → Finds Yes No from but items answer
finds_of Yes No from but area b items None s m =
    λ a c l. elim (m a c) [ inl h ↦ s.passed a c l.0 tt h l.1 | inr n ↦ n ]
finds_of Yes No from but area b items (Some id) s m = elim s.found [
  | inl e ↦ absurd (cc)
  | inr h ↦ let e : h.item.id ≡ id = cc in record {
    item = h.item;
    there = h.there;
    id_is = e;
    looked_at = (h.at_least, h.yes.0);
    holds = h.yes.1;
    before = λ a c l lt. elim (m a c) [ inl k ↦ s.passed a c l.0 lt k l.1 | inr n ↦ n ];
  }
]

meets_in : (area box : Rect4) (by : ℕ) (b : Block) (a : Item) (No : Type 0) → IsBlockOf area box by b
    → Meets area (block_of area box by) a ⊎ No → Meets area b a ⊎ No
meets_in area box by b a No e (inl m) = let F : Block → Type 0 = λ x. Meets area x a in inl (subst F (sym e.is) m)
meets_in area box by b a No e (inr n) = inr n

-- the margin is whatever the block was grown by: it must be enough
pub clash_finds : {by : ℕ} (area : Rect4) (reach : ℕ) (q : Extent) (b : Block) (d : Design) (a : Item)
    (items : List Item)
    (from : ℕ) (answer : Option ℕ) → IsBlockOf area q.bounds by b → 2 * reach + q.width ≤ 2 * by → IsArea area
    → HasClearancesWithin reach d → IsExtentOf a.pieces q → All IsItemFit items
    → Sought (λ x. IsOther (Some a.id) x × (Agrees d a x → ⊥))
    (λ x. IsOther (Some a.id) x → Agrees d a x) from area b items answer
    → Finds (λ x. Agrees d a x → ⊥) (Agrees d a) from (Some a.id) items answer
clash_finds {by} area reach q b d a items from answer e k h c x f s =
    finds_of (λ y. Agrees d a y → ⊥) (Agrees d a) from (Some a.id) area b items answer s
    (λ y m. meets_in area q.bounds by b y (Agrees d a y) e
    (clash_or area q reach by d a y h k c x (All-contains IsItemFit items y f m)))

pub touch_finds : {by : ℕ} (area : Rect4) (q : Extent) (b : Block) (a : Item) (items : List Item) (from : ℕ)
    (answer : Option ℕ) → IsBlockOf area q.bounds by b → q.width ≤ 2 * by → IsArea area → IsExtentOf a.pieces q
    → All IsItemFit items
    → Sought (λ x. IsOther (Some a.id) x × AreTouching a x)
    (λ x. IsOther (Some a.id) x → AreTouching a x → ⊥) from area b items answer
    → Finds (AreTouching a) (λ x. AreTouching a x → ⊥) from (Some a.id) items answer
touch_finds {by} area q b a items from answer e k h x f s =
    finds_of (AreTouching a) (λ y. AreTouching a y → ⊥) from (Some a.id) area b items answer s
    (λ y m. meets_in area q.bounds by b y (AreTouching a y → ⊥) e
    (touch_or area q by a y h k x (All-contains IsItemFit items y f m)))

hit_other : (Yes : Item → Type 0) (from : ℕ) (items : List Item) (answer : Option ℕ)
    → (answer ≡ None) ⊎ IsHit Yes from items answer
    → (answer ≡ None) ⊎ IsHit (λ x. IsOther None x × Yes x) from items answer
hit_other Yes from items answer (inl e) = inl e
hit_other Yes from items answer (inr h) = inr (record {
  item = h.item;
  there = h.there;
  answer_is = h.answer_is;
  at_least = h.at_least;
  yes = ((λ e. cc), h.yes);
})

pub block_finds : {by : ℕ} (area : Rect4) (reach : ℕ) (q : Extent) (b : Block) (d : Design) (net : ℕ) (p : Probe)
    (items : List Item) (from : ℕ) (answer : Option ℕ) → IsBlockOf area q.bounds by b → 2 * reach + q.width ≤ 2 * by
    → IsArea area → HasClearancesWithin reach d → IsExtentOf (pieces_of d (metal_of p)) q → All IsItemFit items
    → Sought (λ x. ProbeAgrees d net p x → ⊥) (ProbeAgrees d net p) from area b items answer
    → Finds (λ x. ProbeAgrees d net p x → ⊥) (ProbeAgrees d net p) from None items answer
block_finds {by} area reach q b d net p items from answer e k h c x f s =
    finds_of (λ y. ProbeAgrees d net p y → ⊥) (ProbeAgrees d net p) from None area b items answer
    (record {
      passed = λ y m l u t o. s.passed y m l u t;
      found = hit_other (λ y. ProbeAgrees d net p y → ⊥) from items answer s.found;
    })
    (λ y m. meets_in area q.bounds by b y (ProbeAgrees d net p y) e
    (clash_or area q reach by d (probe_item d net p) y h k c x (All-contains IsItemFit items y f m)))

-- ---- and so for any
pub is_blocked : (d : Design) (net : ℕ) (p : Probe) (items : List Item) → IsMet (λ b. ProbeAgrees d net p b → ⊥) items
    → IsBlocked d net p items
is_blocked d net p items m = record { item = m.item; there = m.there; disagrees = m.yes }

pub is_unblocked : {by : ℕ} (area : Rect4) (reach : ℕ) (q : Extent) (b : Block) (d : Design) (net : ℕ) (p : Probe)
    (items : List Item) → IsBlockOf area q.bounds by b → 2 * reach + q.width ≤ 2 * by → IsArea area
    → HasClearancesWithin reach d → IsExtentOf (pieces_of d (metal_of p)) q → All IsItemFit items
    → Sought (λ x. ProbeAgrees d net p x → ⊥) (ProbeAgrees d net p) 0 area b items None → IsUnblocked d net p items
is_unblocked {by} area reach q b d net p items e k h c x f s = λ y m.
    block_finds {by = by} area reach q b d net p items 0 None e k h c x f s y m ((omega arith), (λ o. cc))

-- ---- blocks by an extent
pub asked_is : {by : ℕ} (area : Rect4) (reach : ℕ) (q : Extent) (b : Block) (a : Item) → IsBlockOf area q.bounds by b
    → by ≡ reach + q.width → q ≡ extent_of a.pieces → b ≡ asked_block area reach a
asked_is {by} area reach q b a e k s =
    let F : ℕ → Block = λ n. block_of area q.bounds n in
    let G : Extent → Block = λ x. block_of area x.bounds (reach + x.width) in
    e.is ∙ (ap F k ∙ ap G s)

pub own_is : {by : ℕ} (area : Rect4) (q : Extent) (b : Block) (a : Item) → IsBlockOf area q.bounds by b
    → by ≡ half_up q.width → q ≡ extent_of a.pieces → b ≡ own_block area a
own_is {by} area q b a e k s =
    let F : ℕ → Block = λ n. block_of area q.bounds n in
    let G : Extent → Block = λ x. block_of area x.bounds (half_up x.width) in
    e.is ∙ (ap F k ∙ ap G s)

pub probed_is : {by : ℕ} (area : Rect4) (reach : ℕ) (q : Extent) (b : Block) (d : Design) (p : Probe)
    → IsBlockOf area q.bounds by b → by ≡ reach + half_up q.width → q ≡ extent_of (pieces_of d (metal_of p))
    → b ≡ probed_block area reach d p
probed_is {by} area reach q b d p e k s =
    let F : ℕ → Block = λ n. block_of area q.bounds n in
    let G : Extent → Block = λ x. block_of area x.bounds (reach + half_up x.width) in
    e.is ∙ (ap F k ∙ ap G s)
