-- Loading a design's items, one by one.
use Rattle.std.proofs.Common.{◌≡◌, ◌⊎◌, inl, inr, ℕ, ◌+◌, ◌<◌, ◌≤◌, ◌^◌, zero, suc, false}
use Rattle.std.proofs.Common.{refl, sym, ◌∙◌, ap, subst, List, [], ◌∷◌, ◌++◌, length, get_or, arith}
use Rattle.std.proofs.Common.{Result, Ok, Err, drop, pos}
use Rattle.std.proofs.Math.Seq.{drop-cons}
use Rattle.std.specs.Prelude.{OnOk, All, Any, Contains, ℤ, unsigned_abs}
use Rattle.std.proofs.lemmas.Int.{ints}
use Rattle.std.proofs.lemmas.Option.{slice_get_within, slice_get-get_or}
use Rattle.std.specs.List.{filter, flat_map}
use Rattle.std.proofs.lemmas.List.{append-nil, append_assoc}
use Rattle.std.proofs.lemmas.List.Elements.{All-append, All-cons, All-nil, All-head, All-tail, All-contains}
use Rattle.std.proofs.lemmas.List.Elements.{filter-append}
use Rattle.std.proofs.lemmas.List.Elements.{Contains-get_or, Contains-append_right}
use Rattle.std.proofs.lemmas.List.Quantifiers.{all_pairs_push}
use Rattle.geo_kernel.specs.declared.point.Point.{Point}
use Rattle.geo_kernel.specs.declared.point.Rect4.{Rect4}
use Rattle.geo_kernel.specs.declared.spine.Spine.TheVariants.{Area}
use Rattle.geo_kernel.specs.Plane.{IsWithin}
use Rattle.geo_kernel.specs.Spine.{vertices}
use Rattle.geo_kernel.specs.Boxes.{IsBoxOf, IsIn}
use Rattle.pcb_model.specs.declared.item.Item.{Item}
use Rattle.pcb_model.specs.declared.design.FreeWire.{FreeWire}
use Rattle.pcb_model.specs.declared.design.Design.{Design}
use Rattle.pcb_model.specs.Pairs.{Agrees}
use Rattle.pcb_model.specs.Bounds.{IsBoundFit, IsItemFit}
use Rattle.pcb_model.specs.Board.{IsLegal, IsRouted, IsLaid, IsMade, AreInside, is_fixed}
use Rattle.pcb_model.specs.Sound.{IsSound, IsFreeSound, Serves, IsItemOf}
use Rattle.pcb_tiles.specs.Tiling.{IsArea}
use Rattle.pcb_tiles.specs.Spread.{Spread, holding, ServesSpread}
use Rattle.board_offers.proofs.Lists.{all_from, found_at, in_here, none_pass}
use Rattle.pcb_board.specs.declared.load.Loaded.{Loaded}
use Rattle.pcb_board.specs.Boards.{Loads, free_item}
use Rattle.pcb_board.specs.Snaps.{AreTilesOf}
use Rattle.pcb_board.specs.inner.Loading.{IsLoaded, IsKept, LoadsOne, AreLoaded}
use Rattle.pcb_board.proofs.Starting.{loaded_more, fixed_loaded}

-- ---- a legal list with one more routed item
-- what is asked of the item beside the items of the list
pub record Fits (d : Design) (items : List Item) (a : Item) : Type 0 where
  pub agrees : (b : Item) → Contains items b → Agrees d b a
  pub inside : AreInside d.bounds a.pieces
  pub laid : IsLaid d a

abbrev Paired : Design → Item → Item → Type 0
Paired d a b = IsRouted a ⊎ IsRouted b → Agrees d a b

one : (P : Item → Type 0) (a : Item) → P a → All P (a ∷ [])
one P a h = All-cons P a [] h (All-nil P)

pub fits_legal : (d : Design) (items : List Item) (a : Item) → IsLegal d items → IsRouted a → IsMade d a
    → Fits d items a → IsLegal d (items ++ a ∷ [])
fits_legal d items a legal routed made fits = record {
  agree = all_pairs_push (Paired d) items a legal.agree
      (λ k x within r. fits.agrees (get_or items k x) (Contains-get_or items k x within));
  inside = All-append (λ (b : Item). IsRouted b → AreInside d.bounds b.pieces) items (a ∷ []) legal.inside
      (one (λ (b : Item). IsRouted b → AreInside d.bounds b.pieces) a (λ r. fits.inside));
  laid = All-append (λ (b : Item). IsRouted b → IsLaid d b) items (a ∷ []) legal.laid
      (one (λ (b : Item). IsRouted b → IsLaid d b) a (λ r. fits.laid));
  made = All-append (λ (b : Item). IsRouted b → IsMade d b) items (a ∷ []) legal.made
      (one (λ (b : Item). IsRouted b → IsMade d b) a (λ r. made));
  fixed_stay = filter-append is_fixed items (a ∷ [])
      ∙ ap (λ (rest : List Item). filter is_fixed items ++ rest)
      (none_pass is_fixed (a ∷ []) (one (λ (b : Item). is_fixed b ≡ false) a routed))
      ∙ append-nil (filter is_fixed items) ∙ legal.fixed_stay;
}

at_end : (P : Item → Type 0) (items : List Item) (a : Item) → All P (items ++ a ∷ []) → P a
at_end P items a all =
    All-contains P (items ++ a ∷ []) a all (Contains-append_right items (a ∷ []) a (in_here a []))

pair_at_end : (R : Item → Item → Type 0) (items : List Item) (a b : Item) → ((i j : ℕ) (d : Item) → i < j
    → j < length (items ++ a ∷ []) → R (get_or (items ++ a ∷ []) i d) (get_or (items ++ a ∷ []) j d))
    → Contains items b → R b a
pair_at_end R [] a b pairs (k, within, is) = absurd (omega (arith, within))
pair_at_end R (x ∷ items) a b pairs (zero, within, is) =
    subst (λ (c : Item). R c a) is
    (at_end (R x) items a (λ k d less. pairs 0 (suc k) d (omega arith) (omega (arith, less))))
pair_at_end R (x ∷ items) a b pairs (suc k, within, is) =
    pair_at_end R items a b (λ i j d before less. pairs (suc i) (suc j) d (omega (arith, before))
    (omega (arith, less)))
    (k, omega (arith, within), is)

pub legal_fits : (d : Design) (items : List Item) (a : Item) → IsRouted a → IsLegal d (items ++ a ∷ [])
    → Fits d items a
legal_fits d items a routed legal = record {
  agrees = λ b there. pair_at_end (Paired d) items a b legal.agree there (inr routed);
  inside = at_end (λ (b : Item). IsRouted b → AreInside d.bounds b.pieces) items a legal.inside routed;
  laid = at_end (λ (b : Item). IsRouted b → IsLaid d b) items a legal.laid routed;
}

-- ---- what stands by now serves the design
pub loaded_serves : (d : Design) (l : Loaded) → IsSound d → IsKept d l → ServesSpread l.tiles d
loaded_serves d l sound kept = record {
  serves = subst (λ (items : List Item). Serves items d) (sym kept.held) (record {
    design_fits = sound.fits;
    fixed_there = kept.loaded.legal.fixed_stay;
    items_fit = all_from (IsItemOf d) l.given.items (λ a there.
        let f = found_at l.given.items a there in (kept.loaded.given f.place a f.there).fits);
  });
  reaches = kept.spread.greatest.within;
}

-- ids are below the number of items
pub loaded_below : (d : Design) (l : Loaded) → IsKept d l
    → All (λ (a : Item). a.id < length l.given.items) l.tiles.items
loaded_below d l kept =
    subst (All (λ (a : Item). a.id < length l.given.items)) (sym kept.held)
    (all_from (λ (a : Item). a.id < length l.given.items) l.given.items (λ a there.
    let f = found_at l.given.items a there in
    let is : a.id ≡ f.place = (kept.loaded.given f.place a f.there).numbered in
    let within : f.place < length l.given.items = slice_get_within l.given.items f.place a f.there in
    omega (arith, is, within)))

-- ---- one free item
pub one_loaded : (d : Design) (w : FreeWire) (ws : List FreeWire) (l n : Loaded) → AreLoaded d (w ∷ ws) l → IsKept d n
    → LoadsOne d l w n → AreLoaded d ws n
one_loaded d w ws l n h kept (inl took) = record {
  kept = kept;
  so_far = λ others start rest.
      subst (λ (places : List ℕ). Loads d d.fixed d.free (places ++ others) start) (sym took.2)
      (h.so_far others start (inl (took.0, subst (λ (items : List Item). Loads d items ws others start) took.1 rest)));
}
one_loaded d w ws l n h kept (inr dropped) = record {
  kept = kept;
  so_far = λ others start rest.
      subst (λ (places : List ℕ). Loads d d.fixed d.free places start)
      (sym (append_assoc l.dropped (w.at ∷ []) others)
      ∙ ap (λ (places : List ℕ). places ++ others) (sym dropped.2))
      (h.so_far (w.at ∷ others) start
      (inr (dropped.0, others, refl, subst (λ (items : List Item). Loads d items ws others start) dropped.1 rest)));
}

-- at the end all is loaded
pub all_loaded : (d : Design) (l : Loaded) → AreLoaded d [] l → Loads d d.fixed d.free l.dropped l.given.items
all_loaded d l h =
    subst (λ (places : List ℕ). Loads d d.fixed d.free places l.given.items) (append-nil l.dropped)
    (h.so_far [] l.given.items (refl, refl))

-- ---- the area
flat_all : (P : Point → Type 0) (loops : List (List Point)) → All (All P) loops
    → All P (flat_map (λ points. points) loops)
flat_all P [] all = All-nil P
flat_all P (ps ∷ loops) all =
    All-append P ps (flat_map (λ points. points) loops) (All-head (All P) ps loops all)
    (flat_all P loops (All-tail (All P) ps loops all))

abbrev Meets : List (List Point) → (Point → Type 0) → Type 0
Meets loops P = Any P (vertices (Area loops))

pub box_area : (loops : List (List Point)) (r : Rect4) → IsBoundFit loops → IsBoxOf (Area loops) r → IsArea r
box_area loops r fit box = by box.left box.right box.bottom box.top
  where
    each : All (IsWithin (2 ^ 29)) (vertices (Area loops))
    each = flat_all (IsWithin (2 ^ 29)) loops fit.loops_within

    by : Meets loops (λ p. p.x ≡ r.x0) → Meets loops (λ p. p.x ≡ r.x1) → Meets loops (λ p. p.y ≡ r.y0)
        → Meets loops (λ p. p.y ≡ r.y1) → IsArea r
    by (i, p, pi, pis, left) (j, q, qj, qis, right) (k, s, sk, sis, bottom) (m, t, tm, tis, top) =
        let p_there : Contains (vertices (Area loops)) p = (i, pi, pis) in
        let q_there : Contains (vertices (Area loops)) q = (j, qj, qis) in
        let s_there : Contains (vertices (Area loops)) s = (k, sk, sis) in
        let t_there : Contains (vertices (Area loops)) t = (m, tm, tis) in
        let p_in = All-contains (IsIn r) (vertices (Area loops)) p box.within p_there in
        let p_at = All-contains (IsWithin (2 ^ 29)) (vertices (Area loops)) p each p_there in
        let q_at = All-contains (IsWithin (2 ^ 29)) (vertices (Area loops)) q each q_there in
        let s_at = All-contains (IsWithin (2 ^ 29)) (vertices (Area loops)) s each s_there in
        let t_at = All-contains (IsWithin (2 ^ 29)) (vertices (Area loops)) t each t_there in
        record {
          x_rises = omega (arith, ints, p_in.left, p_in.right);
          y_rises = omega (arith, ints, p_in.bottom, p_in.top);
          within = record {
            x0_within = subst (λ (z : ℤ). unsigned_abs z ≤ 2 ^ 29) left p_at.0;
            y0_within = subst (λ (z : ℤ). unsigned_abs z ≤ 2 ^ 29) bottom s_at.1;
            x1_within = subst (λ (z : ℤ). unsigned_abs z ≤ 2 ^ 29) right q_at.0;
            y1_within = subst (λ (z : ℤ). unsigned_abs z ≤ 2 ^ 29) top t_at.1;
          };
        }

-- a point is an area
pub no_area : IsArea (record { x0 = pos 0; y0 = pos 0; x1 = pos 0; y1 = pos 0 })
no_area = record {
  x_rises = omega (arith, ints);
  y_rises = omega (arith, ints);
  within = record {
    x0_within = omega arith;
    y0_within = omega arith;
    x1_within = omega arith;
    y1_within = omega arith;
  };
}

-- ---- what is loaded, one by one
pub fixed_fit : (d : Design) → IsSound d → All IsItemFit d.fixed
fixed_fit d s = λ k x within. (s.fixed k (get_or d.fixed k x) (slice_get-get_or d.fixed k x within)).item.fits

pub fixed_all : (d : Design) (l : Loaded) → IsSound d → l.tiles.items ≡ d.fixed → l.given.items ≡ d.fixed
    → l.dropped ≡ [] → AreTilesOf d l.tiles.area l.tiles.reach → AreLoaded d d.free l
fixed_all d l sound tiles given none spread = record {
  kept = record {
    held = tiles ∙ sym given;
    loaded = subst (IsLoaded d) (sym given) (fixed_loaded d sound);
    spread = spread;
  };
  so_far = λ others start rest.
      subst (λ (places : List ℕ). Loads d d.fixed d.free (places ++ others) start) (sym none)
      (subst (λ (items : List Item). Loads d items d.free others start) given rest);
}

pub kept_more : {T E : Type 0} (d : Design) (l n : Loaded) (w : FreeWire) (item : Item) (r : Result T E) → IsSound d
    → IsFreeSound d w → IsKept d l → item ≡ free_item d l.given.items w → IsLegal d (l.tiles.items ++ item ∷ [])
    → OnOk r (n.tiles ≡ holding l.tiles (l.tiles.items ++ item ∷ []))
    → OnOk r (n.given.items ≡ l.given.items ++ item ∷ []) → OnOk r (IsKept d n)
kept_more d l n w item (Ok _) sound wire kept is legal tiles given = record {
  held = ap (λ (t : Spread). t.items) tiles ∙ ap (λ (xs : List Item). xs ++ item ∷ []) kept.held ∙ sym given;
  loaded = subst (IsLoaded d) (sym (given ∙ ap (λ (a : Item). l.given.items ++ a ∷ []) is))
      (loaded_more d l.given.items w sound wire kept.loaded
      (subst (λ (a : Item). IsLegal d (l.given.items ++ a ∷ [])) is
      (subst (λ (xs : List Item). IsLegal d (xs ++ item ∷ [])) kept.held legal)));
  spread = subst (λ (t : Spread). AreTilesOf d t.area t.reach) (sym tiles) kept.spread;
}
kept_more d l n w item (Err e) sound wire kept is legal tiles given = tt

-- it is the one that is loaded
pub kept_one : {T E : Type 0} (d : Design) (l n : Loaded) (w : FreeWire) (item : Item) (r : Result T E) → IsKept d l
    → item ≡ free_item d l.given.items w → IsLegal d (l.tiles.items ++ item ∷ [])
    → OnOk r (n.given.items ≡ l.given.items ++ item ∷ []) → OnOk r (n.dropped ≡ l.dropped)
    → OnOk r (LoadsOne d l w n)
kept_one d l n w item (Ok _) kept is legal given dropped = inl (
  subst (λ (a : Item). IsLegal d (l.given.items ++ a ∷ [])) is
      (subst (λ (xs : List Item). IsLegal d (xs ++ item ∷ [])) kept.held legal),
  given ∙ ap (λ (a : Item). l.given.items ++ a ∷ []) is,
  dropped,
)
kept_one d l n w item (Err e) kept is legal given dropped = tt

-- where a place is dropped, what was loaded stays
pub drop_kept : {T E : Type 0} (d : Design) (l n : Loaded) (r : Result T E) → IsKept d l
    → OnOk r (n.tiles ≡ l.tiles) → OnOk r (n.given.items ≡ l.given.items) → OnOk r (IsKept d n)
drop_kept d l n (Ok _) kept tiles given = record {
  held = ap (λ (t : Spread). t.items) tiles ∙ kept.held ∙ sym given;
  loaded = subst (IsLoaded d) (sym given) kept.loaded;
  spread = subst (λ (t : Spread). AreTilesOf d t.area t.reach) (sym tiles) kept.spread;
}
drop_kept d l n (Err e) kept tiles given = tt

-- and its place is listed
pub drop_one : {T E : Type 0} (d : Design) (l n : Loaded) (w : FreeWire) (item : Item) (r : Result T E) → IsKept d l
    → item ≡ free_item d l.given.items w → ¬ (IsLegal d (l.tiles.items ++ item ∷ []))
    → OnOk r (n.given.items ≡ l.given.items) → OnOk r (n.dropped ≡ l.dropped ++ w.at ∷ [])
    → OnOk r (LoadsOne d l w n)
drop_one d l n w item (Ok _) kept is refused given dropped = inr (
  λ legal. refused (subst (λ (xs : List Item). IsLegal d (xs ++ item ∷ [])) (sym kept.held)
      (subst (λ (a : Item). IsLegal d (l.given.items ++ a ∷ [])) (sym is) legal)),
  given,
  dropped,
)
drop_one d l n w item (Err e) kept is refused given dropped = tt

pub rest_one : (free xs : List FreeWire) (i : ℕ) (w : FreeWire) → xs ≡ free → i < length xs → w ≡ get_or xs i w
    → drop i free ≡ w ∷ drop (i + 1) free
rest_one free xs i w same within is =
    let less : i < length free = subst (λ (ys : List FreeWire). i < length ys) same within in
    let w_is : get_or free i w ≡ w = sym (subst (λ (ys : List FreeWire). w ≡ get_or ys i w) same is) in
    drop-cons free i w less ∙ ap (λ (x : FreeWire). x ∷ drop (suc i) free) w_is
    ∙ ap (λ (n : ℕ). w ∷ drop n free) (let e : suc i ≡ i + 1 = omega arith in e)
