use Rattle.std.proofs.Common.{◌+◌, List, refl, subst, sym}
use Rattle.std.proofs.lemmas.List.{drop_all, take_rest}
use Rattle.plane_joins.specs.declared.area.PlaneArea.{PlaneArea}
use Rattle.plane_joins.specs.Planes.{IsPlaneOf}
use Rattle.plane_joins.specs.Ribs.{TakesPlanes}
use Rattle.plane_joins.specs.inner.Laying.{IsLaid, LeadsPlanes, items_of}
use Rattle.plane_joins.proofs.Places.{split_at_place}
use Rattle.plane_joins.proofs.Ribbing.{leads_plane}
use Rattle.plane_joins.proofs.taking.take_planes.Goals as goal

pub take_plane-requires-clause-plane : goal.take_plane-requires-clause-plane
take_plane-requires-clause-plane c =
    subst (IsPlaneOf c.args.d.now) (sym c.index-planes-i.is)
    (c.requires.planes c.loop-i.i c.index-planes-i.result c.loop-i-test.true)

pub take_plane-requires-clause-laid : goal.take_plane-requires-clause-laid
take_plane-requires-clause-laid c =
    subst (λ (ps : List PlaneArea). IsLaid c.args.d.now ps c.loop-i.laid)
    (split_at_place c.args.planes.now c.loop-i.i c.index-planes-i.result c.loop-i-test.true c.index-planes-i.is)
    c.loop-i.invariant.laid

pub loop-i-preserved : goal.loop-i-preserved
loop-i-preserved c =
    let d = c.args.d.now in
    let all = c.args.planes.now in
    let i = c.loop-i.i in
    let first = items_of d c.args.laid.now in
    let now = items_of d c.loop-i.laid in
    let after = items_of d c.take_plane.new.laid in
    record {
      laid = subst (λ (ps : List PlaneArea). IsLaid d ps c.take_plane.new.laid) (take_rest all (i + 1))
          c.in_ok-take_plane.ensures.laid;
      leads = subst (λ (ps : List PlaneArea). LeadsPlanes d first all after ps) (take_rest all (i + 1))
          (leads_plane d first all now after c.index-planes-i.result _
          (subst (λ (ps : List PlaneArea). LeadsPlanes d first all now ps)
          (split_at_place all i c.index-planes-i.result c.loop-i-test.true c.index-planes-i.is)
          c.loop-i.invariant.leads) c.in_ok-take_plane.ensures.all);
    }

pub returns : goal.returns
returns c =
    let items = items_of c.args.d.now c.loop-i.laid in
    c.loop-i.invariant.leads.on items
    (subst (λ (ps : List PlaneArea). TakesPlanes c.args.d.now items ps items)
    (sym (drop_all c.loop-i.i c.args.planes.now c.loop-i-test.false)) refl)
