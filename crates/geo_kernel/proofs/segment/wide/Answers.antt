use Rattle.std.proofs.Common.{◌*ℤ◌, refl}
use mir.Syntax.{w128}
use mir.Val.{SFits}
use Rattle.geo_kernel.proofs.Bounds.{seen, seen_wide, widened, wide_fits, wide_value, wide_within}
use Rattle.geo_kernel.proofs.segment.wide.Goals as goal

pub overflow_mul-result : goal.overflow_mul-result
overflow_mul-result c =
    let a = c.args.a in
    let b = c.args.b in
    let seen_fits : SFits w128 (seen_wide (seen a) *ℤ seen_wide (seen b)) =
    rw (widened a a c.requires.a_within refl, widened b b c.requires.b_within refl)
    (wide_fits a b c.requires.a_within c.requires.b_within) in
    seen_fits

pub returns-clause-value : goal.returns-clause-value
returns-clause-value c = wide_value c.args.a c.args.b c.requires.a_within c.requires.b_within

pub returns-clause-within : goal.returns-clause-within
returns-clause-within c =
    wide_within c.args.a c.args.b _ c.requires.a_within c.requires.b_within
    (wide_value c.args.a c.args.b c.requires.a_within c.requires.b_within)
