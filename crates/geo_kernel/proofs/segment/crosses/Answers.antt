use Rattle.std.proofs.Common.{inl, inr, ⊎_elim, sym, ◌∙◌, true≢false}
use Rattle.geo_kernel.proofs.Bounds.{middle, opposite, opposite_fits}
use Rattle.geo_kernel.proofs.Segments.{cross_is}
use Rattle.geo_kernel.proofs.segment.crosses.Goals as goal

pub returns-then-meets : goal.returns-then-meets
returns-then-meets c =
    let i = cross_is c.args.a.at c.args.b.at c.args.c.at c.args.d.at c.minus-w.result
    c.minus-u.result c.minus-v.result
    c.cross-all.result c.cross-first.result c.cross-second.result
    c.minus-w.ensures.x c.minus-w.ensures.y c.minus-u.ensures.x c.minus-u.ensures.y c.minus-v.ensures.x
    c.minus-v.ensures.y
    c.cross-all.ensures.value c.cross-first.ensures.value c.cross-second.ensures.value in
    let ahead = rw (
      middle c.cross-all.result c.cross-all.ensures.within,
      middle c.cross-first.result c.cross-first.ensures.within,
      middle c.cross-second.result c.cross-second.ensures.within,
    ) at c.meets.ensures in
    (λ t. i.0 (inl (ahead.0 t)), λ x. c.if-meets.true)

pub returns-else-meets : goal.returns-else-meets
returns-else-meets c =
    let i = cross_is c.args.a.at c.args.b.at c.args.c.at c.args.d.at c.minus-w.result
    c.minus-u.result c.minus-v.result
    c.cross-all.result c.cross-first.result c.cross-second.result
    c.minus-w.ensures.x c.minus-w.ensures.y c.minus-u.ensures.x c.minus-u.ensures.y c.minus-v.ensures.x
    c.minus-v.ensures.y
    c.cross-all.ensures.value c.cross-first.ensures.value c.cross-second.ensures.value in
    let ahead = rw (
      middle c.cross-all.result c.cross-all.ensures.within,
      middle c.cross-first.result c.cross-first.ensures.within,
      middle c.cross-second.result c.cross-second.ensures.within,
    ) at c.meets.ensures in
    let back = rw (
      opposite c.cross-all.result c.cross-all.ensures.within,
      opposite c.cross-first.result c.cross-first.ensures.within,
      opposite c.cross-second.result c.cross-second.ensures.within,
    ) at c.meets-else-meets.ensures in (
      λ t. i.0 (inr (back.0 t)),
      λ x. ⊎_elim (λ m. absurd (true≢false (sym (ahead.1 m) ∙ c.if-meets.false)))
          (λ m. back.1 m) (i.1 x),
    )

pub overflow_sub-all : goal.overflow_sub-all
overflow_sub-all c = opposite_fits c.cross-all.result c.cross-all.ensures.within

pub overflow_sub-first : goal.overflow_sub-first
overflow_sub-first c = opposite_fits c.cross-first.result c.cross-first.ensures.within

pub overflow_sub-second : goal.overflow_sub-second
overflow_sub-second c = opposite_fits c.cross-second.result c.cross-second.ensures.within
