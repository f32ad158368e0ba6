use Rattle.std.proofs.Common.{◌∙◌, ap, subst, sym}
use Rattle.std.specs.List.Sorted.{IsStrictlySortedBy}
use Rattle.std.specs.Ordering.{int_cmp}
use Rattle.route_lattice.specs.Ground.{GroundOf}
use Rattle.shove.proofs.line.ys_of.Goals as goal

pub invariant_of-result : goal.invariant_of-result
invariant_of-result g c =
    subst (IsStrictlySortedBy int_cmp) (sym (c.as_slice.ensures ∙ c.ys.ensures)) c.on.invariant.fits.ys_ascend

pub returns : goal.returns
returns g c = c.as_slice.ensures ∙ c.ys.ensures ∙ ap (λ (s : GroundOf). s.lat.ys) c.on.view_is
