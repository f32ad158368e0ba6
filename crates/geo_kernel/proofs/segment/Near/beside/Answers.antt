use Rattle.std.proofs.Common.{ap, ◌∙◌, ℤ, ◌*ℤ◌}
use Rattle.geo_kernel.proofs.Bounds.{area_value, middle, middle_within, wide_kept}
use Rattle.geo_kernel.proofs.segment.Near.beside.Goals as goal

pub returns-clause-above : goal.returns-clause-above
returns-clause-above c =
    area_value c.cross-area.result c.wide.result c.wide.ensures.within c.cross-area.ensures.within
    c.wide.ensures.value ∙ ap (λ (z : ℤ). z *ℤ z) c.cross-area.ensures.value

pub returns-clause-below : goal.returns-clause-below
returns-clause-below c = middle c.dot.result c.dot.ensures.within ∙ c.dot.ensures.value

pub invariant_of-result : goal.invariant_of-result
invariant_of-result c = record {
  above_within = wide_kept c.wide.result c.wide.ensures.within;
  below_within = middle_within c.dot.result c.dot.ensures.within;
}

pub wide-requires-clause-a_within : goal.wide-requires-clause-a_within
wide-requires-clause-a_within c = middle_within c.cross-area.result c.cross-area.ensures.within

pub wide-requires-clause-b_within : goal.wide-requires-clause-b_within
wide-requires-clause-b_within c = middle_within c.cross-area.result c.cross-area.ensures.within
