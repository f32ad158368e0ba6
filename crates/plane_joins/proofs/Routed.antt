-- Ribs as routed items in tiles.
use Rattle.std.proofs.Common.{◌≡◌, ℕ, suc, ◌<◌, ◌⊎◌, inl, inr, arith, refl, sym, ap, ◌∙◌, subst, List, [], ◌∷◌, ◌++◌}
use Rattle.std.proofs.Common.{length, get_or, Bool, true, cond, Some, All, Contains}
use Rattle.std.specs.Prelude.{map, filter, slice_get}
use Rattle.std.proofs.lemmas.List.Elements.{All-nil, All-cons, All-head, All-tail, All-append, All-contains}
use Rattle.std.proofs.lemmas.List.Elements.{Contains-get_or}
use Rattle.std.proofs.lemmas.Option.{slice_get-get_or, slice_get_within}
use Rattle.geo_kernel.proofs.Paths.{All-append_first, All-append_second}
use Rattle.pcb_model.specs.declared.item.Item.{Item}
use Rattle.pcb_model.specs.declared.item.Probe.{Probe}
use Rattle.pcb_model.specs.declared.design.Design.{Design}
use Rattle.pcb_model.specs.Board.{is_fixed}
use Rattle.pcb_model.specs.Bounds.{IsItemFit}
use Rattle.pcb_model.specs.Copper.{Ascends}
use Rattle.pcb_model.specs.Pairs.{ProbeAgrees}
use Rattle.pcb_model.specs.Sound.{IsFixedSound, IsItemOf, IsSound, Serves}
use Rattle.pcb_tiles.specs.Spread.{ServesSpread}
use Rattle.plane_joins.specs.declared.area.PlaneArea.{PlaneArea}
use Rattle.plane_joins.specs.declared.candidate.Candidate.{Candidate}
use Rattle.plane_joins.specs.declared.laid.Laid.{Laid}
use Rattle.plane_joins.specs.Ribs.{IsRib, rib_probe}
use Rattle.plane_joins.specs.Stubs.{loose}
use Rattle.plane_joins.specs.inner.Laying.{AgreesWithEach, IsLaid, items_of}

-- ---- routed copies of ribs
all_loose : (P : Item → Type 0) → ((b : Item) → P b → P (loose b)) → (xs : List Item) → All P xs → All P (map loose xs)
all_loose P f [] h = All-nil P
all_loose P f (x ∷ xs) h =
    All-cons P (loose x) (map loose xs) (f x (All-head P x xs h)) (all_loose P f xs (All-tail P x xs h))

all_tight : (P : Item → Type 0) → ((b : Item) → P (loose b) → P b) → (xs : List Item) → All P (map loose xs) → All P xs
all_tight P f [] h = All-nil P
all_tight P f (x ∷ xs) h =
    All-cons P x xs (f x (All-head P (loose x) (map loose xs) h))
    (all_tight P f xs (All-tail P (loose x) (map loose xs) h))

pub all_of : {X : Type 0} (P : X → Type 0) (xs : List X) → ((b : X) → Contains xs b → P b) → All P xs
all_of P xs f = λ k d within. f _ (Contains-get_or xs k d within)

agrees_loose : (d : Design) (net : ℕ) (p : Probe) (b : Item) → ProbeAgrees d net p b → ProbeAgrees d net p (loose b)
agrees_loose d net p b h = record { keep = h.keep; stay_off = h.stay_off }

agrees_tight : (d : Design) (net : ℕ) (p : Probe) (b : Item) → ProbeAgrees d net p (loose b) → ProbeAgrees d net p b
agrees_tight d net p b h = record { keep = h.keep; stay_off = h.stay_off }

module _ (d : Design) (p : PlaneArea) (fixed ribs : List Item) (c : Candidate) where
  pub rib_loose : IsRib d p (fixed ++ ribs) c → IsRib d p (fixed ++ map loose ribs) c
  rib_loose h =
      let P : Item → Type 0 = ProbeAgrees d p.net (rib_probe d p c) in
      let all = all_of P (fixed ++ ribs) h.agrees in record {
        begins = h.begins;
        keeps = h.keeps;
        agrees = λ b there. All-contains P (fixed ++ map loose ribs) b
            (All-append P fixed (map loose ribs) (All-append_first P fixed ribs all)
            (all_loose P (agrees_loose d p.net (rib_probe d p c)) ribs (All-append_second P fixed ribs all))) there;
      }

  pub rib_tight : IsRib d p (fixed ++ map loose ribs) c → IsRib d p (fixed ++ ribs) c
  rib_tight h =
      let P : Item → Type 0 = ProbeAgrees d p.net (rib_probe d p c) in
      let all = all_of P (fixed ++ map loose ribs) h.agrees in record {
        begins = h.begins;
        keeps = h.keeps;
        agrees = λ b there. All-contains P (fixed ++ ribs) b
            (All-append P fixed ribs (All-append_first P fixed (map loose ribs) all)
            (all_tight P (agrees_tight d p.net (rib_probe d p c)) ribs
            (All-append_second P fixed (map loose ribs) all))) there;
      }

-- a rib among fewer items, and among more that agree with it
module _ (d : Design) (p : PlaneArea) (fixed kept ribs : List Item) (c : Candidate) where
  abbrev Agreed : Item → Type 0
  Agreed = ProbeAgrees d p.net (rib_probe d p c)

  rib_fewer : ((a : Item) → Contains kept a → Contains ribs a) → IsRib d p (fixed ++ ribs) c
      → IsRib d p (fixed ++ kept) c
  rib_fewer from_ribs h =
      let all = all_of Agreed (fixed ++ ribs) h.agrees in record {
        begins = h.begins;
        keeps = h.keeps;
        agrees = λ b there. All-contains Agreed (fixed ++ kept) b
            (All-append Agreed fixed kept (All-append_first Agreed fixed ribs all)
            (all_of Agreed kept
            (λ a k. All-contains Agreed ribs a (All-append_second Agreed fixed ribs all) (from_ribs a k)))) there;
      }

  rib_again : ((a : Item) → Contains ribs a → Contains kept a ⊎ Agreed a) → IsRib d p (fixed ++ kept) c
      → IsRib d p (fixed ++ ribs) c
  rib_again others h = record {
    begins = h.begins;
    keeps = h.keeps;
    agrees = λ b there. All-contains Agreed (fixed ++ ribs) b
        (All-append Agreed fixed ribs (All-append_first Agreed fixed kept all)
        (all_of Agreed ribs (λ a k. one a (others a k)))) there;
  }
    where
      all : All Agreed (fixed ++ kept)
      all = all_of Agreed (fixed ++ kept) h.agrees

      one : (a : Item) → Contains kept a ⊎ Agreed a → Agreed a
      one a (inl k) = All-contains Agreed kept a (All-append_second Agreed fixed kept all) k
      one a (inr agreed) = agreed

-- a candidate is a rib beside the tiles just where it is one beside the items so far
module _ (d : Design) (p : PlaneArea) (later : List PlaneArea) (l : Laid) (h : IsLaid d (p ∷ later) l) (c : Candidate)
  where
    pub rib_held : IsRib d p (items_of d l) c → IsRib d p l.tiles.items c
    rib_held rib =
        subst (λ (items : List Item). IsRib d p items c) (sym h.held)
        (rib_loose d p d.fixed h.kept c (rib_fewer d p d.fixed h.kept l.ribs c h.from_ribs rib))

    agreed : (a : Item) → Contains h.kept a ⊎ All (AgreesWithEach d a) (p ∷ later)
        → Contains h.kept a ⊎ ProbeAgrees d p.net (rib_probe d p c) a
    agreed a (inl k) = inl k
    agreed a (inr all) = inr ((All-head (AgreesWithEach d a) p later all).each c)

    pub rib_told : IsRib d p l.tiles.items c → IsRib d p (items_of d l) c
    rib_told rib =
        rib_again d p d.fixed h.kept l.ribs c (λ a there. agreed a (h.others a there))
        (rib_tight d p d.fixed h.kept c (subst (λ (items : List Item). IsRib d p items c) h.held rib))

-- ---- tiles with them serve the design
none_fixed : (ribs : List Item) → filter is_fixed (map loose ribs) ≡ []
none_fixed [] = refl
none_fixed (x ∷ xs) = none_fixed xs

fixed_only : (xs ribs : List Item) → All (λ (a : Item). a.fixed ≡ true) xs → filter is_fixed (xs ++ map loose ribs) ≡ xs
fixed_only [] ribs h = none_fixed ribs
fixed_only (x ∷ xs) ribs h =
    ap (λ (b : Bool). cond b (x ∷ filter is_fixed (xs ++ map loose ribs)) (filter is_fixed (xs ++ map loose ribs)))
    (All-head (λ (a : Item). a.fixed ≡ true) x xs h)
    ∙ ap (λ (ys : List Item). x ∷ ys) (fixed_only xs ribs (All-tail (λ (a : Item). a.fixed ≡ true) x xs h))

-- what holds of each item at its place
each_all : (P : ℕ → Item → Type 0) (Q : Item → Type 0) (xs : List Item)
    → ((i : ℕ) (a : Item) → slice_get xs i ≡ Some a → P i a) → ((i : ℕ) (a : Item) → P i a → Q a) → All Q xs
each_all P Q [] h f = All-nil Q
each_all P Q (x ∷ xs) h f =
    All-cons Q x xs (f 0 x (h 0 x refl)) (each_all (λ i. P (suc i)) Q xs (λ i a e. h (suc i) a e) (λ i a. f (suc i) a))

-- the fixed items of a sound design, as tiles take them
pub fixed_fit : (d : Design) → IsSound d → All IsItemFit d.fixed
fixed_fit d s = each_all (IsFixedSound d) IsItemFit d.fixed s.fixed (λ i a e. e.item.fits)

pub fixed_ascend : (d : Design) → IsSound d → Ascends d.fixed
fixed_ascend d s = λ i j e before within.
    let m = (s.fixed i (get_or d.fixed i e) (slice_get-get_or d.fixed i e (omega (arith, before, within)))).numbered in
    let n = (s.fixed j (get_or d.fixed j e) (slice_get-get_or d.fixed j e within)).numbered in
    omega (arith, before, m, n)

loose_of : (d : Design) (a : Item) → IsItemOf d a → IsItemOf d (loose a)
loose_of d a h = record {
  fits = record { pieces_fit = h.fits.pieces_fit };
  metal_fits = h.metal_fits;
  metal_in_range = h.metal_in_range;
  layers_in_range = h.layers_in_range;
  net_in_range = h.net_in_range;
}

module _ (d : Design) (s : IsSound d) (planes : List PlaneArea) (l : Laid) (h : IsLaid d planes l) where
  -- what holds of all items so far holds of those in the tiles
  in_tiles : (P : Item → Type 0) → ((a : Item) → P a → P (loose a)) → All P (items_of d l)
      → All P (d.fixed ++ map loose h.kept)
  in_tiles P f all =
      All-append P d.fixed (map loose h.kept) (All-append_first P d.fixed l.ribs all)
      (all_loose P f h.kept
      (all_of P h.kept (λ a k. All-contains P l.ribs a (All-append_second P d.fixed l.ribs all) (h.from_ribs a k))))

  pub laid_serves : ServesSpread l.tiles d
  laid_serves = record {
    serves = subst (λ (items : List Item). Serves items d) (sym h.held) (record {
      design_fits = s.fits;
      fixed_there = fixed_only d.fixed h.kept
          (each_all (λ i a. IsFixedSound d i a) (λ (a : Item). a.fixed ≡ true) d.fixed s.fixed (λ i a e. e.fixed));
      items_fit = in_tiles (IsItemOf d) (loose_of d)
          (each_all (λ i a. IsFixedSound d i a) (IsItemOf d) (items_of d l) h.each (λ i a e. e.item));
    });
    reaches = h.reach;
  }

  -- all ids are below the number of items
  pub ids_below : All (λ (b : Item). b.id < length (items_of d l)) l.tiles.items
  ids_below =
      let Q : Item → Type 0 = λ b. b.id < length (items_of d l) in
      subst (All Q) (sym h.held)
      (in_tiles Q (λ b k. k)
      (each_all (λ i a. (a.id ≡ i) × (i < length (items_of d l))) Q (items_of d l)
      (λ i a e. ((h.each i a e).numbered, slice_get_within (items_of d l) i a e))
      (λ i a f. let n = f.0 in let m = f.1 in omega (arith, n, m))))
