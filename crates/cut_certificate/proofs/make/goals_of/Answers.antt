use Rattle.std.proofs.Common.{ℕ, List, subst}
use Rattle.std.proofs.lemmas.Result.{IfOk-weaker}
use Rattle.pcb_islands.specs.declared.net.Island.{Island}
use Rattle.route_lattice.specs.Anchors.{AreAnchorsAmong}
use Rattle.cut_certificate.specs.inner.Checks.{AreIdsOf}
use Rattle.cut_certificate.proofs.Making.{goals_exact}
use Rattle.cut_certificate.proofs.make.goals_of.Goals as goal

pub returns : goal.returns
returns g c = IfOk-weaker _ _ _ (λ goals are.
    goals_exact c.args.d.now c.args.lat.now (g.C.Copper.items c.args.c.now) c.args.others.now c.in_ok-ids.ids.items
    goals
    (subst (λ (others : List Island). AreIdsOf others c.in_ok-ids.ids.items) c.as_slice.ensures c.in_ok-ids.ensures)
    (subst (λ (ids : List ℕ). AreAnchorsAmong c.args.d.now c.args.lat.now (g.C.Copper.items c.args.c.now) ids
    goals) c.as_slice-2.ensures.value are)) c.anchors_among.ensures
