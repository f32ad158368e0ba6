use Rattle.std.proofs.Common.{false}
use Rattle.wave_search.proofs.Touched.{untouched}
use Rattle.wave_search.proofs.labels.Labels.new.Goals as goal

pub invariant_of-result : goal.invariant_of-result
invariant_of-result c =
    untouched c.in_ok-rows.rows false c.new-2.result.items c.in_ok-rows.ensures.none c.new-2.ensures.items
