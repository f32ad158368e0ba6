use Rattle.std.proofs.Common.{sym, ◌∙◌}
use Rattle.dsn_units.proofs.Limits.{extent_far, extent_past, extent_value}
use Rattle.dsn_units.proofs.length.extent.Goals as goal

pub returns-in_default-clause-value : goal.returns-in_default-clause-value
returns-in_default-clause-value c = extent_far c.args.d.now c.args.s.nm c.in_default.ensures

pub returns-then-size-gt-WIDEST-clause-value : goal.returns-then-size-gt-WIDEST-clause-value
returns-then-size-gt-WIDEST-clause-value c =
    extent_past c.args.d.now c.args.s.nm _ _ _ c.in-Some.ensures c.roof_half-size.ensures c.if-size-gt-WIDEST.true

pub returns-clause-value : goal.returns-clause-value
returns-clause-value c =
    extent_value c.args.d.now c.args.s.nm _ _ _ (sym c.is_below_zero.ensures ∙ c.if-is_below_zero.false)
    c.in-Some.ensures c.roof_half-size.ensures c.if-size-gt-WIDEST.false
