use Rattle.std.proofs.Common.{◌≡◌, ℕ, ℤ, ap, ◌∙◌, subst, List, length}
use Rattle.std.specs.Prelude.{IfOk}
use Rattle.pcb_model.specs.declared.design.SesScale.{SesScale}
use Rattle.geo_kernel.specs.declared.point.Point.{Point}
use Rattle.route_lattice.specs.Gather.{least_box}
use Rattle.plane_joins.specs.declared.limits.TheConstants.{MESH}
use Rattle.plane_joins.specs.Planes.{lines_in}
use Rattle.plane_joins.proofs.Along.{same_lines}
use Rattle.plane_joins.proofs.Few.{few_lines}
use Rattle.plane_joins.proofs.lines.count.Goals as goal

pub returns-clause-value : goal.returns-clause-value
unfolding lines_in
returns-clause-value c =
    subst (λ (ys : List ℤ). IfOk c.line_count.result (λ (n : ℕ). n ≡ length ys))
    (same_lines _ _ c.least_box-frame.result _ _ _ c.args.upright
    (ap (λ (s : SesScale). s.nm) c.pick-unit.ensures.value)
    (c.least_box-frame.ensures.value ∙ ap (λ (ps : List Point). least_box ps) c.as_slice.ensures)
    (c.as_slice-2.ensures.value ∙ c.in_ok-anchors.ensures.value)) c.line_count.ensures.value

pub returns-clause-small : goal.returns-clause-small
returns-clause-small c =
    few_lines c.pick-unit.result.nm MESH c.args.upright c.least_box-frame.result c.as_slice-2.result.now
    c.line_count.result c.least_box-frame.ensures.within c.line_count.ensures.value
