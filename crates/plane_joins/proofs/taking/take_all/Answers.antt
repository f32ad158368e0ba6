use Rattle.std.proofs.Common.{refl, sym, subst, List}
use Rattle.std.proofs.lemmas.List.{drop_all}
use Rattle.plane_joins.specs.declared.candidate.Candidate.{Candidate}
use Rattle.plane_joins.specs.Ribs.{TakesRibs}
use Rattle.plane_joins.specs.inner.Laying.{items_of}
use Rattle.plane_joins.proofs.Places.{copied}
use Rattle.plane_joins.proofs.Ribbing.{leads_on}
use Rattle.plane_joins.proofs.taking.take_all.Goals as goal

pub loop-c-preserved : goal.loop-c-preserved
loop-c-preserved c = record {
  laid = c.in_ok-take_one.ensures.laid;
  leads = leads_on c.args.d.now c.args.t.now.p.now (items_of c.args.d.now c.args.laid.now) c.args.candidates.now
      (items_of c.args.d.now c.loop-c.laid) _ c.loop-c.c-index _ c.loop-c-test.true
      (copied c.args.candidates.now c.loop-c.c-index _ c.loop-c-test.true)
      c.loop-c.invariant.leads c.in_ok-take_one.ensures.one;
}

pub returns-clause-all : goal.returns-clause-all
returns-clause-all c =
    let items = items_of c.args.d.now c.loop-c.laid in
    c.loop-c.invariant.leads.on items
    (subst (λ (cs : List Candidate). TakesRibs c.args.d.now c.args.t.now.p.now items cs items)
    (sym (drop_all c.loop-c.c-index c.args.candidates.now c.loop-c-test.false)) refl)
