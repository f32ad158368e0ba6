use Rattle.std.proofs.Common.{arith, ap, ap₂, ◌∙◌, ◌^◌}
use Rattle.geo_kernel.specs.declared.point.Point.{Point}
use Rattle.dsn_units.specs.Length.{nearest}
use Rattle.dsn_units.specs.Turn.{one}
use Rattle.dsn_units.proofs.Turns.{difference_fits, difference_small, difference_value, product_is}
use Rattle.dsn_units.proofs.Turns.{sum_fits, sum_near, sum_value, unseen, seen_small}
use Rattle.dsn_units.proofs.turn.slanted.Goals as goal

pub rounded-requires : goal.rounded-requires
rounded-requires c = difference_small c.times.result c.times-2.result c.times.ensures.within c.times-2.ensures.within

pub overflow_sub-times : goal.overflow_sub-times
overflow_sub-times c = difference_fits c.times.result c.times-2.result c.times.ensures.within c.times-2.ensures.within

pub rounded-requires-2 : goal.rounded-requires-2
rounded-requires-2 c = sum_near c.times-3.result c.times-4.result c.times-3.ensures.within c.times-4.ensures.within

pub overflow_add-times : goal.overflow_add-times
overflow_add-times c = sum_fits c.times-3.result c.times-4.result c.times-3.ensures.within c.times-4.ensures.within

pub returns-clause-value : goal.returns-clause-value
returns-clause-value c = ap₂ (λ x y. let q : Point = record { x = x; y = y } in q)
    (unseen c.rounded.result (omega arith) ∙ c.rounded.ensures.value
    ∙ ap (λ z. nearest z one)
    (difference_value c.times.result c.times-2.result _ _ c.times.ensures.within c.times-2.ensures.within
    (product_is c.args.p.x c.args.c c.times.result c.requires.p_within.0 c.requires.c_within c.times.ensures.value)
    (product_is c.args.p.y c.args.s c.times-2.result c.requires.p_within.1 c.requires.s_within
    c.times-2.ensures.value)))
    (unseen c.rounded-2.result (omega arith) ∙ c.rounded-2.ensures.value
    ∙ ap (λ z. nearest z one)
    (sum_value c.times-3.result c.times-4.result _ _ c.times-3.ensures.within c.times-4.ensures.within
    (product_is c.args.p.x c.args.s c.times-3.result c.requires.p_within.0 c.requires.s_within c.times-3.ensures.value)
    (product_is c.args.p.y c.args.c c.times-4.result c.requires.p_within.1 c.requires.c_within
    c.times-4.ensures.value)))

pub returns-clause-within : goal.returns-clause-within
returns-clause-within c = (
  seen_small c.rounded.result (2 ^ 36) c.rounded.ensures.within (omega arith),
  seen_small c.rounded-2.result (2 ^ 36) c.rounded-2.ensures.within (omega arith),
)

pub times-requires-4-clause-b_within : goal.times-requires-4-clause-b_within
times-requires-4-clause-b_within c = seen_small c.args.c 8000000000000 c.requires.c_within (omega arith)

pub times-requires-4-clause-a_within : goal.times-requires-4-clause-a_within
times-requires-4-clause-a_within c = seen_small c.args.p.y (2 ^ 31) c.requires.p_within.1 (omega arith)

pub times-requires-3-clause-b_within : goal.times-requires-3-clause-b_within
times-requires-3-clause-b_within c = seen_small c.args.s 8000000000000 c.requires.s_within (omega arith)

pub times-requires-3-clause-a_within : goal.times-requires-3-clause-a_within
times-requires-3-clause-a_within c = seen_small c.args.p.x (2 ^ 31) c.requires.p_within.0 (omega arith)

pub times-requires-2-clause-b_within : goal.times-requires-2-clause-b_within
times-requires-2-clause-b_within c = seen_small c.args.s 8000000000000 c.requires.s_within (omega arith)

pub times-requires-2-clause-a_within : goal.times-requires-2-clause-a_within
times-requires-2-clause-a_within c = seen_small c.args.p.y (2 ^ 31) c.requires.p_within.1 (omega arith)
