-- What is laid: no rib at first, and one more.
use Rattle.std.proofs.Common.{◌≡◌, ℕ, ◌⊎◌, inl, inr, arith, refl, sym, ap, ◌∙◌, subst, List, [], ◌∷◌, ◌++◌}
use Rattle.std.proofs.Common.{length, Bool, true, false, Some, All, Contains, ◌==◌}
use Rattle.std.specs.Prelude.{map, slice_get, not, ◌&&◌}
use Rattle.std.specs.List.{list_any}
use Rattle.std.proofs.lemmas.Bool.{and_from, and_parts, and_right, eq-eqb, false≢true, not_from_true, or_parts}
use Rattle.std.proofs.lemmas.Bool.{true≢false}
use Rattle.std.proofs.lemmas.List.{append-nil, append_assoc, map-append}
use Rattle.std.proofs.lemmas.List.Elements.{All-nil, All-cons, All-tail, Contains-append_left, Contains-push}
use Rattle.std.proofs.lemmas.List.Elements.{Contains-push_cases}
use Rattle.pcb_model.specs.declared.item.Item.{Item}
use Rattle.pcb_model.specs.declared.design.Design.{Design}
use Rattle.pcb_model.specs.Pairs.{KeepsFrom, PieceKeeps, ProbeAgrees, is_same_net}
use Rattle.pcb_model.specs.Pieces.{probe_item, wire_piece}
use Rattle.pcb_model.specs.Rules.{clearance_of, width_for}
use Rattle.pcb_model.specs.Sound.{IsFixedSound, IsSound}
use Rattle.pcb_tiles.specs.Spread.{Spread, holding}
use Rattle.plane_joins.specs.declared.area.PlaneArea.{PlaneArea}
use Rattle.plane_joins.specs.declared.candidate.Candidate.{Candidate}
use Rattle.plane_joins.specs.declared.laid.Laid.{Laid}
use Rattle.plane_joins.specs.Planes.{IsPlaneOf}
use Rattle.plane_joins.specs.Ribs.{rib_item, rib_probe}
use Rattle.plane_joins.specs.Stubs.{loose}
use Rattle.plane_joins.specs.inner.Laying.{AgreesWithEach, Holds, IsBare, IsCandidateFit, IsLaid, items_of, meets}
use Rattle.plane_joins.proofs.Places.{each_more}
use Rattle.plane_joins.proofs.Ribbing.{wire_of_design}

-- ---- what is laid at first
none_there : {X : Type 0} (x : X) → Contains [] x → ⊥
none_there x (k, within, is) = absurd (omega arith)

pub laid_first : (d : Design) → IsSound d → (planes : List PlaneArea) (l : Laid) → IsBare d l → IsLaid d planes l
laid_first d s planes l bare =
    let whole : d.fixed ++ l.ribs ≡ d.fixed = ap (λ (xs : List Item). d.fixed ++ xs) bare.none ∙ append-nil d.fixed in
    record {
      kept = [];
      held = bare.held ∙ sym (append-nil d.fixed);
      from_ribs = λ a there. absurd (none_there a there);
      others = λ a there. absurd (none_there a (subst (λ (xs : List Item). Contains xs a) bare.none there));
      reach = bare.reach;
      each = λ i a at. s.fixed i a (sym (ap (λ (xs : List Item). slice_get xs i) whole) ∙ at);
    }

-- ---- ribs that no plane to come asks for
-- a wire agrees with one of its net, and with one on another layer
apart_agree : (d : Design) (p q : PlaneArea) (id : ℕ) (c e : Candidate) → meets p q ≡ false
    → ProbeAgrees d q.net (rib_probe d q e) (rib_item d p id c)
apart_agree d p q id c e apart =
    let x = wire_piece q.layer (width_for d q.net) (e.from ∷ e.to ∷ []) in
    let r = wire_piece p.layer (width_for d p.net) (c.from ∷ c.to ∷ []) in
    let a = probe_item d q.net (rib_probe d q e) in
    let b = rib_item d p id c in
    let m = clearance_of d a.net a.kind b.net b.kind in record {
      keep = λ must. record {
        each = All-cons (KeepsFrom m (r ∷ [])) x [] (record {
          each = All-cons (PieceKeeps m x) r [] (record {
            keep = λ same. absurd (true≢false
                (sym (and_from (q.layer == p.layer) (not (q.net == p.net)) (eq-eqb q.layer p.layer same)
                (and_parts (not (q.net == p.net)) true must).0) ∙ apart));
          }) (All-nil (PieceKeeps m x));
        }) (All-nil (KeepsFrom m (r ∷ [])));
      };
      stay_off = λ must. absurd (false≢true
          (and_parts (not d.via_at_smd && is_same_net a.net b.net) false must).1);
    }

-- so a rib that no plane behind its own meets agrees with all candidates to come
unmet_each : (d : Design) (p : PlaneArea) (id : ℕ) (c : Candidate) (planes : List PlaneArea)
    → list_any (meets p) planes ≡ false → All (AgreesWithEach d (rib_item d p id c)) planes
unmet_each d p id c [] e = All-nil (AgreesWithEach d (rib_item d p id c))
unmet_each d p id c (q ∷ qs) e =
    let parts = or_parts (meets p q) (list_any (meets p) qs) e in
    All-cons (AgreesWithEach d (rib_item d p id c)) q qs
    (record { each = λ f. apart_agree d p q id c f parts.0 }) (unmet_each d p id c qs parts.1)

-- no plane meets itself
own_net : (p : PlaneArea) → meets p p ≡ false
own_net p =
    and_right (p.layer == p.layer) (not (p.net == p.net)) (not_from_true (p.net == p.net) (eq-eqb p.net p.net refl))

unmet_agrees : (d : Design) (p : PlaneArea) (later : List PlaneArea) (id : ℕ) (c : Candidate)
    → list_any (meets p) later ≡ false → All (AgreesWithEach d (rib_item d p id c)) (p ∷ later)
unmet_agrees d p later id c e =
    All-cons (AgreesWithEach d (rib_item d p id c)) p later
    (record { each = λ f. apart_agree d p p id c f (own_net p) }) (unmet_each d p id c later e)

-- ---- one rib more
module _ (d : Design) (s : IsSound d) (p : PlaneArea) (plane : IsPlaneOf d p) (later : List PlaneArea) (c : Candidate)
    (fit : IsCandidateFit c) (l : Laid) (h : IsLaid d (p ∷ later) l) where
  abbrev rib : Item
  rib = rib_item d p (length (items_of d l)) c

  each_with : (i : ℕ) (a : Item) → slice_get (d.fixed ++ (l.ribs ++ rib ∷ [])) i ≡ Some a → IsFixedSound d i a
  each_with i a at =
      each_more (IsFixedSound d) (items_of d l) rib h.each (record {
        numbered = refl;
        fixed = refl;
        item = wire_of_design d p (length (items_of d l)) true c s plane fit;
      }) i a (ap (λ (xs : List Item). slice_get xs i) (append_assoc d.fixed l.ribs (rib ∷ [])) ∙ at)

  -- where the rib is put into the tiles
  from_more : (a : Item) → Contains h.kept a ⊎ (rib ≡ a) → Contains (l.ribs ++ rib ∷ []) a
  from_more a (inl k) = Contains-append_left l.ribs (rib ∷ []) a (h.from_ribs a k)
  from_more a (inr e) = subst (Contains (l.ribs ++ rib ∷ [])) e (Contains-push l.ribs rib)

  kept_more : (a : Item) → Contains h.kept a ⊎ All (AgreesWithEach d a) (p ∷ later)
      → Contains (h.kept ++ rib ∷ []) a ⊎ All (AgreesWithEach d a) (p ∷ later)
  kept_more a (inl k) = inl (Contains-append_left h.kept (rib ∷ []) a k)
  kept_more a (inr all) = inr all

  others_more : (a : Item) → Contains l.ribs a ⊎ (rib ≡ a)
      → Contains (h.kept ++ rib ∷ []) a ⊎ All (AgreesWithEach d a) (p ∷ later)
  others_more a (inl k) = kept_more a (h.others a k)
  others_more a (inr e) = inl (subst (Contains (h.kept ++ rib ∷ [])) e (Contains-push h.kept rib))

  laid_held : IsLaid d (p ∷ later)
      (record { tiles = holding l.tiles (l.tiles.items ++ loose rib ∷ []); ribs = l.ribs ++ rib ∷ [] })
  laid_held = record {
    kept = h.kept ++ rib ∷ [];
    held = ap (λ (xs : List Item). xs ++ loose rib ∷ []) h.held
        ∙ append_assoc d.fixed (map loose h.kept) (loose rib ∷ [])
        ∙ ap (λ (xs : List Item). d.fixed ++ xs) (sym (map-append loose h.kept (rib ∷ [])));
    from_ribs = λ a there. from_more a (Contains-push_cases h.kept rib a there);
    others = λ a there. others_more a (Contains-push_cases l.ribs rib a there);
    reach = h.reach;
    each = each_with;
  }

  -- where it isn't
  passed : All (AgreesWithEach d rib) (p ∷ later) → (a : Item) → Contains l.ribs a ⊎ (rib ≡ a)
      → Contains h.kept a ⊎ All (AgreesWithEach d a) (p ∷ later)
  passed all a (inl k) = h.others a k
  passed all a (inr e) = inr (subst (λ (b : Item). All (AgreesWithEach d b) (p ∷ later)) e all)

  laid_passed : All (AgreesWithEach d rib) (p ∷ later)
      → IsLaid d (p ∷ later) (record { tiles = l.tiles; ribs = l.ribs ++ rib ∷ [] })
  laid_passed all = record {
    kept = h.kept;
    held = h.held;
    from_ribs = λ a there. Contains-append_left l.ribs (rib ∷ []) a (h.from_ribs a there);
    others = λ a there. passed all a (Contains-push_cases l.ribs rib a there);
    reach = h.reach;
    each = each_with;
  }

  pub laid_more : (met : Bool) → met ≡ list_any (meets p) later → (id : ℕ) → id ≡ length (items_of d l)
      → (tiles : Spread) → Holds d p met id c l.tiles tiles → (made : Item) → made ≡ rib_item d p id c
      → (ribs : List Item) → ribs ≡ l.ribs ++ made ∷ []
      → IsLaid d (p ∷ later) (record { tiles = tiles; ribs = ribs })
  laid_more met met_is id id_is tiles holds made made_is ribs ribs_are =
      subst (λ (xs : List Item). IsLaid d (p ∷ later) (record { tiles = tiles; ribs = xs }))
      (sym (ribs_are ∙ ap (λ (a : Item). l.ribs ++ a ∷ []) (made_is ∙ ap (λ (n : ℕ). rib_item d p n c) id_is)))
      (by holds)
    where
      by : Holds d p met id c l.tiles tiles
          → IsLaid d (p ∷ later) (record { tiles = tiles; ribs = l.ribs ++ rib ∷ [] })
      by (inl e) =
          subst (λ (t : Spread). IsLaid d (p ∷ later) (record { tiles = t; ribs = l.ribs ++ rib ∷ [] }))
          (sym (e ∙ ap (λ (n : ℕ). holding l.tiles (l.tiles.items ++ loose (rib_item d p n c) ∷ [])) id_is)) laid_held
      by (inr (unmet, e)) =
          subst (λ (t : Spread). IsLaid d (p ∷ later) (record { tiles = t; ribs = l.ribs ++ rib ∷ [] })) (sym e)
          (laid_passed (unmet_agrees d p later (length (items_of d l)) c (sym met_is ∙ unmet)))

-- ---- the next plane
-- the planes to come, as they were given
pub laid_same : (d : Design) (p q : PlaneArea) (ps qs : List PlaneArea) (l : Laid) → q ≡ p → qs ≡ ps
    → IsLaid d (p ∷ ps) l → IsLaid d (q ∷ qs) l
laid_same d p q ps qs l e f h =
    subst (λ (rs : List PlaneArea). IsLaid d (q ∷ rs) l) (sym f)
    (subst (λ (r : PlaneArea). IsLaid d (r ∷ ps) l) (sym e) h)

pub laid_on : (d : Design) (p : PlaneArea) (later : List PlaneArea) (l : Laid) → IsLaid d (p ∷ later) l
    → IsLaid d later l
laid_on d p later l h = record {
  kept = h.kept;
  held = h.held;
  from_ribs = h.from_ribs;
  others = λ a there. by a (h.others a there);
  reach = h.reach;
  each = h.each;
}
  where
    by : (a : Item) → Contains h.kept a ⊎ All (AgreesWithEach d a) (p ∷ later)
        → Contains h.kept a ⊎ All (AgreesWithEach d a) later
    by a (inl k) = inl k
    by a (inr all) = inr (All-tail (AgreesWithEach d a) p later all)
