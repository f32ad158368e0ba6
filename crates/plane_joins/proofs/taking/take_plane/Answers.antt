use Rattle.std.proofs.Common.{◌∙◌, List, subst}
use Rattle.std.proofs.lemmas.Result.{on_ok_weaker}
use Rattle.plane_joins.specs.declared.area.PlaneArea.{PlaneArea}
use Rattle.plane_joins.specs.declared.candidate.Candidate.{Candidate}
use Rattle.plane_joins.specs.Planes.{candidates}
use Rattle.plane_joins.specs.Ribs.{TakesRibs}
use Rattle.plane_joins.specs.inner.Laying.{IsLaid, items_of}
use Rattle.plane_joins.proofs.Growing.{laid_on, laid_same}
use Rattle.plane_joins.proofs.taking.take_plane.Goals as goal

pub take_all-requires-clause-laid : goal.take_all-requires-clause-laid
take_all-requires-clause-laid c =
    laid_same c.args.d.now c.args.p.now c.in_ok-t.t.p.now c.args.later.now c.in_ok-t.t.later.now c.args.laid.now
    c.in_ok-t.ensures.p c.in_ok-t.ensures.later c.requires.laid

pub returns-clause-laid : goal.returns-clause-laid
returns-clause-laid c =
    on_ok_weaker c.take_all.result
    (λ h. subst (λ (ps : List PlaneArea). IsLaid c.args.d.now ps c.take_all.new.laid) c.in_ok-t.ensures.later
    (laid_on c.args.d.now c.in_ok-t.t.p.now c.in_ok-t.t.later.now c.take_all.new.laid h)) c.take_all.ensures.laid

pub returns-clause-all : goal.returns-clause-all
returns-clause-all c =
    let d = c.args.d.now in
    let items = items_of d c.args.laid.now in
    let after = items_of d c.take_all.new.laid in
    on_ok_weaker c.take_all.result
    (λ h. subst (λ (q : PlaneArea). TakesRibs d q items (candidates d c.args.p.now) after) c.in_ok-t.ensures.p
    (subst (λ (cs : List Candidate). TakesRibs d c.in_ok-t.t.p.now items cs after)
    (c.as_slice.ensures.value ∙ c.in_ok-found.ensures.value) h)) c.take_all.ensures.all
