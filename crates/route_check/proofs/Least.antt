-- The least first pin of a false cut, cut by cut and net by net.
use Rattle.std.proofs.Common.{◌≡◌, ◌∙◌, ◌⊎◌, ◌+◌, ℕ, List, Option, Some, None}
use Rattle.std.proofs.Common.{ap, arith, inl, inr, length, refl}
use Rattle.std.proofs.Common.{subst, sym}
use Rattle.std.specs.Prelude.{slice_get}
use Rattle.std.proofs.lemmas.Bool.{cases_lt}
use Rattle.std.proofs.lemmas.Option.{same_Some, slice_get_within}
use Rattle.pcb_model.specs.declared.item.Item.{Item}
use Rattle.pcb_model.specs.declared.design.Design.{Design}
use Rattle.pcb_islands.specs.declared.net.Island.{Island}
use Rattle.route_lattice.specs.Mesh.{Mesh}
use Rattle.report_form.specs.declared.reading.ReadCut.{ReadCut}
use Rattle.route_check.specs.Judged.{first_of}
use Rattle.route_check.specs.inner.Kept.{AreAllJudged, AreJudged, IsKeptFalse, IsKeptTrue, IsPinBelow}
use Rattle.route_check.specs.inner.Kept.{IsReachedBy}

module _ (d : Design) (m : Mesh) (items : List Item) where
  -- ---- cut by cut
  module _ (own : List Island) (cuts : List ReadCut) where
    pub judged_none : (bound : Option ℕ) → AreJudged d m items own cuts 0 bound bound
    judged_none bound = record {
      below = λ pin h. h;
      true_ = λ k island cut less at there low. absurd (omega (arith, less));
      reached = inl refl;
    }

    -- a true one
    pub judged_true : (k : ℕ) (old least : Option ℕ) (one : ReadCut) → AreJudged d m items own cuts k old least
        → slice_get cuts k ≡ Some one → IsKeptTrue d m items own k one → AreJudged d m items own cuts (k + 1) old least
    judged_true k old least one before one_at is = record {
      below = before.below;
      true_ = λ j island cut less at there low. elim (cases_lt j k) [
        | inl early ↦ before.true_ j island cut early at there low
        | inr late ↦
            let same : k ≡ j = omega (arith, less, late) in
            let cut_is : one ≡ cut =
            same_Some one cut (sym one_at ∙ ap (λ (i : ℕ). slice_get cuts i) same ∙ there) in
            subst (λ (i : ℕ). IsKeptTrue d m items own i cut) same
            (subst (λ (c : ReadCut). IsKeptTrue d m items own k c) cut_is is)
      ];
      reached = before.reached;
    }

    -- a false one
    pub judged_false : (k : ℕ) (old least new : Option ℕ) (island : Island) (one : ReadCut)
        → AreJudged d m items own cuts k old least → slice_get own k ≡ Some island → slice_get cuts k ≡ Some one
        → IsKeptFalse d m items own k one → (new ≡ least) ⊎ (new ≡ Some (first_of island.pins))
        → ((other : ℕ) → IsPinBelow new other → IsPinBelow least other)
        → (IsPinBelow new (first_of island.pins) → ⊥) → AreJudged d m items own cuts (k + 1) old new
    judged_false k old least new island one before island_at one_at is comes below none = record {
      below = λ pin h. before.below pin (below pin h);
      true_ = λ j isle cut less at there low. elim (cases_lt j k) [
        | inl early ↦ before.true_ j isle cut early at there (below (first_of isle.pins) low)
        | inr late ↦
            let same : j ≡ k = omega (arith, less, late) in
            let isle_is : isle ≡ island =
            same_Some isle island (sym at ∙ ap (λ (i : ℕ). slice_get own i) same ∙ island_at) in
            absurd (none (subst (λ (s : Island). IsPinBelow new (first_of s.pins)) isle_is low))
      ];
      reached = elim comes [
        | inl e ↦ elim before.reached [
          | inl f ↦ inl (e ∙ f)
          | inr h ↦ inr (h.0, e ∙ h.1, h.2)
        ]
        | inr e ↦ inr (
          first_of island.pins,
          e,
          record {
            k = k;
            island = island;
            island_is = island_at;
            cut = one;
            cut_is = one_at;
            pin_is = refl;
            false_ = is;
          },
        )
      ];
    }

  -- ---- net by net
  module _ (found : List (List Island)) (nets : List (List ReadCut)) where
    pub all_none : AreAllJudged d m items found nets 0 None
    all_none = record {
      true_ = λ net k own cuts island cut less own_at cuts_at at there low. absurd (omega (arith, less));
      reached = tt;
    }

    pub all_more : (net : ℕ) (old new : Option ℕ) (own : List Island) (cuts : List ReadCut)
        → AreAllJudged d m items found nets net old → slice_get found net ≡ Some own → slice_get nets net ≡ Some cuts
        → AreJudged d m items own cuts (length cuts) old new → AreAllJudged d m items found nets (net + 1) new
    all_more net old new own cuts before own_at cuts_at judged = record {
      true_ = λ n k os ks island cut less os_at ks_at at there low. elim (cases_lt n net) [
        | inl early ↦
            before.true_ n k os ks island cut early os_at ks_at at there (judged.below (first_of island.pins) low)
        | inr late ↦
            let same : n ≡ net = omega (arith, less, late) in
            let own_is : os ≡ own =
            same_Some os own (sym os_at ∙ ap (λ (i : ℕ). slice_get found i) same ∙ own_at) in
            let cuts_is : ks ≡ cuts =
            same_Some ks cuts (sym ks_at ∙ ap (λ (i : ℕ). slice_get nets i) same ∙ cuts_at) in
            let there_in : slice_get cuts k ≡ Some cut =
            subst (λ (cs : List ReadCut). slice_get cs k ≡ Some cut) cuts_is there in
            subst (λ (s : List Island). IsKeptTrue d m items s k cut) (sym own_is)
            (judged.true_ k island cut (slice_get_within cuts k cut there_in)
            (subst (λ (s : List Island). slice_get s k ≡ Some island) own_is at) there_in low)
      ];
      reached = elim judged.reached [
        | inl e ↦ subst (IsReachedBy d m items found nets) (sym e) before.reached
        | inr h ↦ subst (IsReachedBy d m items found nets) (sym h.1)
            (record { net = net; own = own; own_is = own_at; cuts = cuts; cuts_is = cuts_at; at = h.2 })
      ];
    }
