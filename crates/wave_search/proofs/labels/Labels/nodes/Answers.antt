use Rattle.std.proofs.Common.{List, ℕ, Option, subst, sym, ◌∙◌}
use Rattle.std.proofs.lemmas.List.Filters.{dedup_is}
use Rattle.std.proofs.lemmas.List.Kept.{Contains-dedup_nat, Contains-from_dedup}
use Rattle.std.proofs.lemmas.List.Sorted.{Contains-permutation, IsPermutation-sym}
use Rattle.std.proofs.lemmas.Map.Keys.{IsStrictlyIncreasing-dedup}
use Rattle.std.specs.Prelude.{Contains}
use Rattle.wave_search.specs.declared.rows.Label.{Label}
use Rattle.wave_search.specs.inner.State.{IsListed}
use Rattle.wave_search.proofs.labels.Labels.nodes.Goals as goal

pub returns : goal.returns
returns c =
    let is = dedup_is _ _ _ c.dedup.ensures.filtered in
    let moved = c.sort_unstable.ensures.permutation in
    let same = c.in_ok-nodes.ensures.items ∙ c.as_slice.ensures.value in
    subst (λ (t : List (Option Label)). IsListed t c.dedup.new.self.items) c.self.view_is (record {
      ascends = rw is (IsStrictlyIncreasing-dedup _ c.sort_unstable.ensures.sorted);
      labelled = λ v h.
          let listed =
          Contains-permutation _ _ v (IsPermutation-sym _ _ moved) (Contains-from_dedup _ _ v (rw is at h)) in
          c.self.invariant.labelled c.if-self.false v (subst (λ (xs : List ℕ). Contains xs v) same listed);
      complete = λ v l h.
          let touched = c.self.invariant.covers c.if-self.false v l h in
          let listed = subst (λ (xs : List ℕ). Contains xs v) (sym same) touched in
          rw is (Contains-dedup_nat _ v (Contains-permutation _ _ v moved listed));
    })
