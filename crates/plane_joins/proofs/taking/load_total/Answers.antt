use Rattle.std.proofs.Common.{◌+◌, ◌∙◌, List, ap, length}
use Rattle.std.specs.Prelude.{sum_by}
use Rattle.std.proofs.lemmas.List.{take_all}
use Rattle.plane_joins.specs.declared.area.PlaneArea.{PlaneArea}
use Rattle.plane_joins.specs.Planes.{candidates, load_of}
use Rattle.plane_joins.proofs.taking.load_total.Goals as goal

pub returns : goal.returns
unfolding load_of
returns c =
    let d = c.args.d.now in
    c.loop-i.invariant.counted
    ∙ ap (λ (ps : List PlaneArea). length d.fixed + length d.free + sum_by (λ p. length (candidates d p)) ps)
    (take_all c.loop-i.i c.args.planes.now c.loop-i-test.false)
