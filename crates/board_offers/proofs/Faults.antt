-- The clauses of an offer, as they are decided by the added items.
use Rattle.std.proofs.Common.{◌≡◌, ◌≢◌, ◌↔◌, inl, inr, ℕ, ◌+◌, ◌<◌, ◌≤◌, Bool, false, true≢false, IsTrue, Option, Some}
use Rattle.std.proofs.Common.{None, refl, sym, ◌∙◌, subst, List, [], ◌∷◌, length}
use Rattle.std.specs.Prelude.{All, slice_get}
use Rattle.std.specs.Option.{IsSomeAnd}
use Rattle.std.proofs.lemmas.List.Elements.{All-nil, All-cons, All-head, All-tail, All-weaker}
use Rattle.pcb_model.specs.declared.item.Metal.{Metal}
use Rattle.pcb_model.specs.declared.item.Item.{Item}
use Rattle.pcb_model.specs.declared.design.Design.{Design}
use Rattle.pcb_model.specs.Bounds.{IsItemFit, IsMetalFit}
use Rattle.pcb_model.specs.Board.{AreInside}
use Rattle.pcb_model.specs.Sound.{IsSound}
use Rattle.board_offers.specs.declared.offer.Shoved.{Shoved}
use Rattle.board_offers.specs.declared.offer.Offer.{Offer}
use Rattle.board_offers.specs.Items.{added_from, replaced_from, added}
use Rattle.board_offers.specs.Offers.{Known, IsOfNet, IsTimely, HasEnds, HasMetals, LeadsAcross, LiesInside, NamesOnce}
use Rattle.board_offers.specs.Offers.{RipsInTheWay, ShovesInTheWay, NewAgree, IsAddable, IsInTheWay, IsShovable, Named}
use Rattle.board_offers.specs.Offers.{FailsFirst}
use Rattle.board_offers.specs.Given.{AreGiven}
use Rattle.board_offers.specs.Judging.{known_by}
use Rattle.board_offers.specs.inner.Adding.{LeadsBetween, IsInTheWayOf, IsShovableOf, MayShove}
use Rattle.board_offers.proofs.Lists.{all_from, found_at, that}
use Rattle.board_offers.proofs.Fitting.{addable_fits}
use Rattle.board_offers.proofs.New.{shoved_given}

-- ---- what fits
pub given_fit : (d : Design) (given : List Item) → AreGiven d given → All IsItemFit given
given_fit d given are =
    all_from IsItemFit given (λ a there. let f = found_at given a there in (are f.place a f.there).fits.fits)

pub metals_fit : (d : Design) (net : ℕ) (ms : List Metal) → IsSound d → net < length d.nets → All (IsAddable d net) ms
    → All IsMetalFit ms
metals_fit d net ms sound n all =
    All-weaker (IsAddable d net) IsMetalFit (λ m h. (addable_fits d 0 net m sound n h).metal_fits) ms all

pub added_fit : (d : Design) (net first : ℕ) (ms : List Metal) → IsSound d → net < length d.nets
    → All (IsAddable d net) ms
    → All IsItemFit (added_from d net first ms)
added_fit d net first [] sound n all = All-nil IsItemFit
added_fit d net first (m ∷ ms) sound n all =
    All-cons IsItemFit _ (added_from d net (first + 1) ms)
    (addable_fits d first net m sound n (All-head (IsAddable d net) m ms all)).fits
    (added_fit d net (first + 1) ms sound n (All-tail (IsAddable d net) m ms all))

pub replaced_fit : (d : Design) (given : List Item) (net : ℕ) (items : List Item) (first : ℕ) (ss : List Shoved)
    → IsSound d → AreGiven d given
    → All (MayShove d given net items) ss → All IsItemFit (replaced_from d given first ss)
replaced_fit d given net items first [] sound are all = All-nil IsItemFit
replaced_fit d given net items first (s ∷ ss) sound are all =
    let t = that (slice_get given s.id) (IsShovableOf d net items s) (All-head (MayShove d given net items) s ss all) in
    let f = t.holds in
    All-cons IsItemFit _ (replaced_from d given (first + 1) ss)
    (shoved_given d given first s t.value sound are t.is f.in_the_way.routed f.wire f.points f.within).fits.fits
    (replaced_fit d given net items (first + 1) ss sound are (All-tail (MayShove d given net items) s ss all))

-- ---- clause by clause
-- a test that answers no
pub refuted : (r : Bool) (P Q : Type 0) → (P ↔ Q) → (P → IsTrue r) → r ≡ false → ¬ Q
refuted r P Q same back off = λ q. true≢false (sym (back (same.1 q)) ∙ off)

some_weaker : {X : Type 0} (P Q : X → Type 0) → ((x : X) → P x → Q x) → (o : Option X) → IsSomeAnd o P → IsSomeAnd o Q
some_weaker P Q to None h = absurd h
some_weaker P Q to (Some x) h = to x h

module _ (d : Design) (given : List Item) (entries : ℕ) (o : Offer) where
  abbrev here : Known
  here = known_by d given entries

  pub timely_is : (o.base ≤ entries) × (o.worker ≤ 16) ↔ IsTimely here o
  timely_is = (λ t. record { base = t.0; worker = t.1 }, λ h. (h.base, h.worker))

  pub ends_are : (o.net < length d.nets) × (o.from ≢ o.to) × IsOfNet given o.net o.from
      × IsOfNet given o.net o.to ↔ HasEnds here o
  ends_are = (λ e. record { net = e.0; apart = e.1; from = e.2; to = e.3 }, λ h. (h.net, h.apart, h.from, h.to))

  pub metals_are : (add : List Metal) → add ≡ o.add → (0 < length add) × All (IsAddable d o.net) add ↔ HasMetals here o
  metals_are add is =
      let F : List Metal → Type 0 = λ ms. (0 < length ms) × All (IsAddable d o.net) ms in
      (λ m. let n = subst F is m in record { some = n.0; each = n.1 }, λ h. subst F (sym is) (h.some, h.each))

  pub across_is : (items : List Item) → items ≡ added d given o
      → LeadsBetween given o.from items o.to ↔ LeadsAcross here o
  across_is items is =
      let F : List Item → Type 0 = λ xs. LeadsBetween given o.from xs o.to in (
        λ l. let h =
            subst F is l in
            record { from = h.first; from_is = h.first_is; to = h.last; to_is = h.last_is; leads = h.leads },
        λ h. subst F (sym is)
            (record { first = h.from; first_is = h.from_is; last = h.to; last_is = h.to_is; leads = h.leads }),
      )

  pub inside_is : (items : List Item) → items ≡ added d given o
      → All (λ (a : Item). AreInside d.bounds a.pieces) items ↔ LiesInside here o
  inside_is items is =
      let F : List Item → Type 0 = All (λ (a : Item). AreInside d.bounds a.pieces) in
      (λ l. record { each = subst F is l }, λ h. subst F (sym is) h.each)

  way_from : (a : Item) → IsInTheWayOf d o.net (added d given o) a → IsInTheWay here o a
  way_from a h = record { routed = h.routed; other_net = h.other_net; disagrees = h.disagrees }

  way_to : (a : Item) → IsInTheWay here o a → IsInTheWayOf d o.net (added d given o) a
  way_to a h = record { routed = h.routed; other_net = h.other_net; disagrees = h.disagrees }

  abbrev MayRip : List Item → ℕ → Type 0
  MayRip items x = IsSomeAnd (slice_get given x) (IsInTheWayOf d o.net items)

  abbrev Rips : ℕ → Type 0
  Rips x = IsSomeAnd (slice_get given x) (IsInTheWay here o)

  pub rips_are : (items : List Item) → items ≡ added d given o → (rip : List ℕ) → rip ≡ o.rip
      → All (MayRip items) rip ↔ RipsInTheWay here o
  rips_are items is rip same =
      let new = added d given o in
      let F : List Item → Type 0 = λ xs. All (MayRip xs) rip in
      let G : List ℕ → Type 0 = λ ids. All Rips ids in (
        λ l. record {
          each = subst G same (All-weaker (MayRip new) Rips
              (λ x. some_weaker (IsInTheWayOf d o.net new) (IsInTheWay here o) way_from (slice_get given x)) rip
              (subst F is l));
        },
        λ h. subst F (sym is) (All-weaker Rips (MayRip new)
            (λ x. some_weaker (IsInTheWay here o) (IsInTheWayOf d o.net new) way_to (slice_get given x)) rip
            (subst G (sym same) h.each)),
      )

  shovable_from : (s : Shoved) (a : Item) → IsShovableOf d o.net (added d given o) s a → IsShovable here o s a
  shovable_from s a h =
      record {
        in_the_way = way_from a h.in_the_way;
        wire = h.wire;
        points = h.points;
        within = h.within;
        inside = h.inside;
      }

  shovable_to : (s : Shoved) (a : Item) → IsShovable here o s a → IsShovableOf d o.net (added d given o) s a
  shovable_to s a h =
      record {
        in_the_way = way_to a h.in_the_way;
        wire = h.wire;
        points = h.points;
        within = h.within;
        inside = h.inside;
      }

  abbrev Shoves : Shoved → Type 0
  Shoves s = IsSomeAnd (slice_get given s.id) (IsShovable here o s)

  pub shoves_are : (items : List Item) → items ≡ added d given o → (ss : List Shoved) → ss ≡ o.shoves
      → All (MayShove d given o.net items) ss ↔ ShovesInTheWay here o
  shoves_are items is ss same =
      let new = added d given o in
      let F : List Item → Type 0 = λ xs. All (MayShove d given o.net xs) ss in
      let G : List Shoved → Type 0 = λ ts. All Shoves ts in (
        λ l. record {
          each = subst G same (All-weaker (MayShove d given o.net new) Shoves
              (λ s. some_weaker (IsShovableOf d o.net new s) (IsShovable here o s) (shovable_from s)
              (slice_get given s.id)) ss (subst F is l));
        },
        λ h. subst F (sym is) (All-weaker Shoves (MayShove d given o.net new)
            (λ s. some_weaker (IsShovable here o s) (IsShovableOf d o.net new s) (shovable_to s) (slice_get given s.id))
            ss (subst G (sym same) h.each)),
      )

  -- ---- the first that fails
  pub fails_first : ¬ (IsTimely here o) → FailsFirst here o 1
  fails_first not = inl (refl, not)

  pub fails_second : IsTimely here o → ¬ (HasEnds here o) → FailsFirst here o 2
  fails_second a not = inr (a, inl (refl, not))

  pub fails_third : IsTimely here o → HasEnds here o → ¬ (HasMetals here o) → FailsFirst here o 3
  fails_third a b not = inr (a, inr (b, inl (refl, not)))

  pub record Begins : Type 0 where
    pub timely : IsTimely here o
    pub ends : HasEnds here o
    pub metals : HasMetals here o

  pub fails_fourth : Begins → ¬ (LeadsAcross here o) → FailsFirst here o 4
  fails_fourth b not = inr (b.timely, inr (b.ends, inr (b.metals, inl (refl, not))))

  pub fails_fifth : Begins → LeadsAcross here o → ¬ (LiesInside here o) → FailsFirst here o 5
  fails_fifth b across not = inr (b.timely, inr (b.ends, inr (b.metals, inr (across, inl (refl, not)))))

  pub fails_sixth : Begins → LeadsAcross here o → LiesInside here o → ¬ (NamesOnce o) → FailsFirst here o 6
  fails_sixth b across inside not =
      inr (b.timely, inr (b.ends, inr (b.metals, inr (across, inr (inside, inl (refl, not))))))

  pub record Goes (b : Begins) : Type 0 where
    pub across : LeadsAcross here o
    pub inside : LiesInside here o
    pub once : NamesOnce o

  pub fails_seventh : (b : Begins) → Goes b → ¬ (RipsInTheWay here o) → FailsFirst here o 7
  fails_seventh b g not =
      inr (b.timely, inr (b.ends, inr (b.metals, inr (g.across, inr (g.inside, inr (g.once, inl (refl, not)))))))

  pub fails_eighth : (b : Begins) → Goes b → RipsInTheWay here o → ¬ (ShovesInTheWay here o) → FailsFirst here o 8
  fails_eighth b g rips not =
      let later : Named 8 7 (RipsInTheWay here o) (Named 8 8 (ShovesInTheWay here o) (Named 8 9 (NewAgree here o) ⊥)) =
      inr (rips, inl (refl, not)) in
      inr (b.timely, inr (b.ends, inr (b.metals, inr (g.across, inr (g.inside, inr (g.once, later))))))

  pub fails_ninth : (b : Begins) → Goes b → RipsInTheWay here o → ShovesInTheWay here o → ¬ (NewAgree here o)
      → FailsFirst here o 9
  fails_ninth b g rips shoves not =
      let later : Named 9 7 (RipsInTheWay here o) (Named 9 8 (ShovesInTheWay here o) (Named 9 9 (NewAgree here o) ⊥)) =
      inr (rips, inr (shoves, inl (refl, not))) in
      inr (b.timely, inr (b.ends, inr (b.metals, inr (g.across, inr (g.inside, inr (g.once, later))))))
