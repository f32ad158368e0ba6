use Rattle.std.proofs.Common.{arith, rules, w64, SFits, ap}
use Rattle.std.specs.Prelude.{unsigned_abs}
use Rattle.std.proofs.lemmas.Int.{to_z-of_z}
use Rattle.dsn_units.proofs.Limits.{coord_far, coord_past, coord_value}
use Rattle.dsn_units.proofs.length.coord.Goals as goal

pub returns-in_default-clause-value : goal.returns-in_default-clause-value
returns-in_default-clause-value c = coord_far c.args.d.now c.args.s.nm c.in_default.ensures

pub returns-then-unsigned_abs-gt-FURTHEST-clause-value : goal.returns-then-unsigned_abs-gt-FURTHEST-clause-value
returns-then-unsigned_abs-gt-FURTHEST-clause-value c =
    let fits : SFits w64 c.nearest_half-nearest.result = search rules in
    let size = ap unsigned_abs (to_z-of_z w64 c.nearest_half-nearest.result fits) in
    coord_past c.args.d.now c.args.s.nm _ _ c.nearest_half-nearest.result c.in-Some.ensures
    c.nearest_half-nearest.ensures (omega (arith, size, c.unsigned_abs.ensures.value))

pub returns-clause-value : goal.returns-clause-value
returns-clause-value c =
    let fits : SFits w64 c.nearest_half-nearest.result = search rules in
    let size = ap unsigned_abs (to_z-of_z w64 c.nearest_half-nearest.result fits) in
    rw (to_z-of_z w64 c.nearest_half-nearest.result fits)
    (coord_value c.args.d.now c.args.s.nm _ _ c.nearest_half-nearest.result c.in-Some.ensures
    c.nearest_half-nearest.ensures (omega (arith, size, c.unsigned_abs.ensures.value)))
