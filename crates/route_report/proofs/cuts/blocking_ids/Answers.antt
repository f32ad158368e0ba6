use Rattle.std.proofs.Common.{◌∙◌}
use Rattle.std.proofs.lemmas.List.Filters.{dedup_is}
use Rattle.std.proofs.lemmas.List.Kept.{Contains-dedup_nat, Contains-from_dedup, AllPairs-from_increasing}
use Rattle.std.proofs.lemmas.List.Sorted.{Contains-permutation, IsPermutation-sym}
use Rattle.std.proofs.lemmas.Map.Keys.{IsStrictlyIncreasing-dedup}
use Rattle.route_report.proofs.Named.{holds_same}
use Rattle.route_report.proofs.cuts.blocking_ids.Goals as goal

pub returns : goal.returns
returns c =
    let is = dedup_is _ _ _ c.dedup.ensures.filtered in
    let moved = c.sort_unstable.ensures.permutation in
    let same = holds_same _ _ (λ id there. Contains-dedup_nat _ id (Contains-permutation _ _ id moved there))
    (λ id there. Contains-permutation _ _ id (IsPermutation-sym _ _ moved) (Contains-from_dedup _ _ id there)) in
    rw is (record {
      named = record { named = λ id. same id ∙ c.in_ok-ids.ensures.named id };
      once = AllPairs-from_increasing _ (IsStrictlyIncreasing-dedup _ c.sort_unstable.ensures.sorted);
    })
