use Rattle.std.proofs.Common.{rules, w64, SFits, sym, ◌∙◌}
use Rattle.std.proofs.lemmas.Int.{to_z-of_z}
use Rattle.dsn_units.proofs.Limits.{angle_past, angle_value}
use Rattle.dsn_units.proofs.angle.Angle.of.Goals as goal

pub returns-then-is_past-clause-value : goal.returns-then-is_past-clause-value
returns-then-is_past-clause-value c =
    angle_past c.args.d.now _ _ c.in-Some.ensures (sym c.is_past.ensures ∙ c.if-is_past.true)

pub returns-clause-value : goal.returns-clause-value
returns-clause-value c =
    let fits : SFits w64 c.nearest_half-nearest.result = search rules in
    let rem_fits : SFits w64 c.rem_euclid.result = search rules in
    rw (to_z-of_z w64 c.rem_euclid.result rem_fits)
    (angle_value c.args.d.now _ _ c.nearest_half-nearest.result c.rem_euclid.result c.in-Some.ensures
    (sym c.is_past.ensures ∙ c.if-is_past.false) c.nearest_half-nearest.ensures
    (rw (to_z-of_z w64 c.nearest_half-nearest.result fits) at c.rem_euclid.ensures.value))
