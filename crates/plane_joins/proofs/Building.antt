-- What holds of ribs, rib by rib.
use Rattle.std.proofs.Common.{◌≡◌, inl, inr, ℕ, arith, refl, sym, ap, ◌∙◌, subst, List, [], ◌∷◌, ◌++◌}
use Rattle.std.proofs.Common.{length, get_or, true, All, Contains, Any}
use Rattle.std.specs.Prelude.{AllPairs, slice_get, ◌&&◌}
use Rattle.std.specs.List.{list_all}
use Rattle.std.proofs.lemmas.Bool.{and_from}
use Rattle.std.proofs.lemmas.List.{append_assoc, append-nil}
use Rattle.std.proofs.lemmas.List.Elements.{All-nil, All-cons, All-append, All-head, All-tail, All-contains_itself}
use Rattle.std.proofs.lemmas.List.Elements.{Contains-get_or}
use Rattle.std.proofs.lemmas.List.Folds.{list_all-append}
use Rattle.std.proofs.lemmas.List.Quantifiers.{all_pairs_push}
use Rattle.std.proofs.lemmas.Option.{slice_get-get_or}
use Rattle.pcb_model.specs.declared.item.Item.{Item}
use Rattle.pcb_model.specs.declared.design.Design.{Design}
use Rattle.pcb_model.specs.Pairs.{Agrees, ProbeAgrees}
use Rattle.pcb_model.specs.Pieces.{wire_piece}
use Rattle.pcb_model.specs.Plain.{IsPlain, IsPlainItem}
use Rattle.pcb_model.specs.Rules.{width_for}
use Rattle.pcb_model.specs.Scale.{is_whole, is_whole_point, is_whole_metal, scale_of}
use Rattle.pcb_model.specs.Sound.{IsCopper, IsFixedSound, IsSound}
use Rattle.plane_joins.specs.declared.area.PlaneArea.{PlaneArea}
use Rattle.plane_joins.specs.declared.candidate.Candidate.{Candidate}
use Rattle.plane_joins.specs.Holding.{AgreesIfAdded, HoldAsRibs, IsRibOf}
use Rattle.plane_joins.specs.inner.Laying.{IsCandidateFit}
use Rattle.plane_joins.specs.Planes.{IsPlaneOf, candidates}
use Rattle.plane_joins.specs.Ribs.{AreRibs, IsRib, TakesPlanes, TakesRibs, rib_item, rib_probe}
use Rattle.plane_joins.proofs.Fitting.{candidates_fit}
use Rattle.plane_joins.proofs.Places.{each_more}
use Rattle.plane_joins.proofs.Ribbing.{wire_of_design}
use Rattle.plane_joins.proofs.Whole.{IsWholeCandidate, candidates_whole, width_whole}

-- the items so far are the design's and ribs behind them
record Built (d : Design) (planes : List PlaneArea) (items : List Item) : Type 0 where
  ribs : List Item
  is : items ≡ d.fixed ++ ribs
  hold : HoldAsRibs d planes ribs

-- a candidate, as both tests of it say
record IsGood (d : Design) (c : Candidate) : Type 0 where
  fit : IsCandidateFit c
  whole : IsWholeCandidate (scale_of d).nm c

agrees_as : (d : Design) (p : PlaneArea) (id : ℕ) (c : Candidate) (b : Item) → ProbeAgrees d p.net (rib_probe d p c) b
    → Agrees d (rib_item d p id c) b
agrees_as d p id c b h = record { keep = h.keep; stay_off = h.stay_off }

-- ---- no rib yet
module _ (d : Design) (s : IsSound d) (planes : List PlaneArea) where
  first_pairs : AllPairs (AgreesIfAdded d) d.fixed
  first_pairs = λ i j e before within. record {
    agrees = λ past.
        let n = (s.fixed j (get_or d.fixed j e) (slice_get-get_or d.fixed j e within)).numbered in
        absurd (omega (arith, past, n, within));
  }

  built_first : Built d planes d.fixed
  built_first = record {
    ribs = [];
    is = sym (append-nil d.fixed);
    hold = record {
      follow = record {
        each = λ i a at. s.fixed i a (ap (λ (xs : List Item). slice_get xs i) (sym (append-nil d.fixed)) ∙ at);
        copper = All-nil (λ (a : Item). IsCopper a.metal);
      };
      of_planes = All-nil (λ (a : Item). Any (IsRibOf d a) planes);
      agree = subst (AllPairs (AgreesIfAdded d)) (sym (append-nil d.fixed)) first_pairs;
      plain = All-nil IsPlainItem;
      on_scale = refl;
    };
  }

  -- ---- one rib more
  module _ (p : PlaneArea) (plane : IsPlaneOf d p) (there : Contains planes p) where
    one_whole : (id : ℕ) (c : Candidate) → IsGood d c
        → is_whole_metal d (scale_of d).nm (rib_item d p id c).metal ≡ true
    one_whole id c good =
        let nm = (scale_of d).nm in
        and_from (is_whole nm (width_for d p.net)) (is_whole_point nm c.from && (is_whole_point nm c.to && true))
        (width_whole d p.net plane.net_there)
        (and_from (is_whole_point nm c.from) (is_whole_point nm c.to && true) good.whole.from_whole
        (and_from (is_whole_point nm c.to) true good.whole.to_whole refl))

    built_more : (items : List Item) (c : Candidate) → IsGood d c → IsRib d p items c → Built d planes items
        → Built d planes (items ++ rib_item d p (length items) c ∷ [])
    built_more items c good rib built =
        let ribs = built.ribs in
        let a = rib_item d p (length items) c in
        let h = built.hold in
        let grown : items ++ a ∷ [] ≡ d.fixed ++ (ribs ++ a ∷ []) =
        ap (λ (xs : List Item). xs ++ a ∷ []) built.is ∙ append_assoc d.fixed ribs (a ∷ []) in
        let id_is : length items ≡ length (d.fixed ++ ribs) = ap (λ (xs : List Item). length xs) built.is in
        record {
          ribs = ribs ++ a ∷ [];
          is = grown;
          hold = record {
            follow = record {
              each = λ i b at. each_more (IsFixedSound d) (d.fixed ++ ribs) a h.follow.each
                  (record {
                    numbered = id_is;
                    fixed = refl;
                    item = wire_of_design d p (length items) true c s plane good.fit;
                  })
                  i b (ap (λ (xs : List Item). slice_get xs i) (append_assoc d.fixed ribs (a ∷ [])) ∙ at);
              copper = All-append (λ (b : Item). IsCopper b.metal) ribs (a ∷ []) h.follow.copper
                  (All-cons (λ (b : Item). IsCopper b.metal) a [] tt (All-nil (λ (b : Item). IsCopper b.metal)));
            };
            of_planes = All-append (λ (b : Item). Any (IsRibOf d b) planes) ribs (a ∷ []) h.of_planes
                (All-cons (λ (b : Item). Any (IsRibOf d b) planes) a [] (
                  there.0,
                  p,
                  there.1,
                  there.2,
                  record {
                    candidate = c;
                    net_is = refl;
                    metal_is = refl;
                    begins = rib.begins;
                    keeps = rib.keeps;
                  },
                ) (All-nil (λ (b : Item). Any (IsRibOf d b) planes)));
            agree = subst (AllPairs (AgreesIfAdded d)) grown
                (all_pairs_push (AgreesIfAdded d) items a
                (subst (AllPairs (AgreesIfAdded d)) (sym built.is) h.agree)
                (λ k e within. record {
                  agrees = λ past. agrees_as d p (length items) c (get_or items k e)
                      (rib.agrees (get_or items k e) (Contains-get_or items k e within));
                }));
            plain = All-append IsPlainItem ribs (a ∷ []) h.plain
                (All-cons IsPlainItem a []
                (record {
                  plain = λ net e. All-cons IsPlain (wire_piece p.layer (width_for d p.net) (c.from ∷ c.to ∷ [])) [] tt
                      (All-nil IsPlain);
                }) (All-nil IsPlainItem));
            on_scale = list_all-append (λ (b : Item). is_whole_metal d (scale_of d).nm b.metal) ribs (a ∷ [])
                ∙ and_from (list_all (λ (b : Item). is_whole_metal d (scale_of d).nm b.metal) ribs)
                (is_whole_metal d (scale_of d).nm a.metal && true) h.on_scale
                (and_from (is_whole_metal d (scale_of d).nm a.metal) true (one_whole (length items) c good) refl);
          };
        }

    built_ribs : (items after : List Item) (cs : List Candidate) → All (IsGood d) cs → TakesRibs d p items cs after
        → Built d planes items → Built d planes after
    built_ribs items after [] good takes built = subst (Built d planes) (sym takes) built
    built_ribs items after (c ∷ cs) good (inl (rib, rest)) built =
        built_ribs (items ++ rib_item d p (length items) c ∷ []) after cs (All-tail (IsGood d) c cs good) rest
        (built_more items c (All-head (IsGood d) c cs good) rib built)
    built_ribs items after (c ∷ cs) good (inr (none, rest)) built =
        built_ribs items after cs (All-tail (IsGood d) c cs good) rest built

  all_good : (p : PlaneArea) → IsPlaneOf d p → All (IsGood d) (candidates d p)
  all_good p plane = λ k e within. record {
    fit = candidates_fit d p plane k e within;
    whole = candidates_whole d p k e within;
  }

  built_planes : (items after : List Item) (ps : List PlaneArea) → All (IsPlaneOf d) ps → All (Contains planes) ps
      → TakesPlanes d items ps after → Built d planes items → Built d planes after
  built_planes items after [] sound there takes built = subst (Built d planes) (sym takes) built
  built_planes items after (p ∷ ps) sound there (next, ribs, rest) built =
      let plane = All-head (IsPlaneOf d) p ps sound in
      built_planes next after ps (All-tail (IsPlaneOf d) p ps sound) (All-tail (Contains planes) p ps there) rest
      (built_ribs p plane (All-head (Contains planes) p ps there) items next (candidates d p) (all_good p plane) ribs
      built)

-- ---- the same list behind the same list
abbrev tail_of : List Item → List Item
tail_of [] = []
tail_of (x ∷ xs) = xs

behind : (xs ys zs : List Item) → xs ++ ys ≡ xs ++ zs → ys ≡ zs
behind [] ys zs e = e
behind (x ∷ xs) ys zs e = behind xs ys zs (ap tail_of e)

pub ribs_hold : (d : Design) (planes : List PlaneArea) (found : List Item) → IsSound d → All (IsPlaneOf d) planes
    → AreRibs d planes found → HoldAsRibs d planes found
ribs_hold d planes found s sound are =
    let built = built_planes d s planes d.fixed (d.fixed ++ found) planes sound (All-contains_itself planes) are
    (built_first d s planes) in
    subst (HoldAsRibs d planes) (sym (behind d.fixed found built.ribs built.is)) built.hold

-- ---- planes have one list of ribs
ribs_one : (d : Design) (p : PlaneArea) (items a b : List Item) (cs : List Candidate) → TakesRibs d p items cs a
    → TakesRibs d p items cs b → a ≡ b
ribs_one d p items a b [] h k = h ∙ sym k
ribs_one d p items a b (c ∷ cs) (inl (rib, h)) (inl (again, k)) =
    ribs_one d p (items ++ rib_item d p (length items) c ∷ []) a b cs h k
ribs_one d p items a b (c ∷ cs) (inl (rib, h)) (inr (none, k)) = absurd (none rib)
ribs_one d p items a b (c ∷ cs) (inr (none, h)) (inl (rib, k)) = absurd (none rib)
ribs_one d p items a b (c ∷ cs) (inr (none, h)) (inr (again, k)) = ribs_one d p items a b cs h k

planes_one : (d : Design) (items a b : List Item) (ps : List PlaneArea) → TakesPlanes d items ps a
    → TakesPlanes d items ps b → a ≡ b
planes_one d items a b [] h k = h ∙ sym k
planes_one d items a b (p ∷ ps) (x, ribs, h) (y, again, k) =
    planes_one d x a b ps h
    (subst (λ (z : List Item). TakesPlanes d z ps b) (sym (ribs_one d p items x y (candidates d p) ribs again)) k)

pub ribs_are_one : (d : Design) (planes : List PlaneArea) (found others : List Item) → AreRibs d planes found
    → AreRibs d planes others → found ≡ others
ribs_are_one d planes found others h k =
    behind d.fixed found others (planes_one d d.fixed (d.fixed ++ found) (d.fixed ++ others) planes h k)
