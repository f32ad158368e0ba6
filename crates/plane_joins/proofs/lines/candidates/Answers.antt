use Rattle.std.proofs.Common.{◌≡◌, sym, subst, All, Vec, Global}
use Rattle.std.proofs.lemmas.Result.{IfOk-weaker}
use Rattle.plane_joins.specs.declared.candidate.Candidate.{Candidate}
use Rattle.plane_joins.specs.inner.Laying.{IsCandidateFit}
use Rattle.plane_joins.specs.Planes.{candidates}
use Rattle.plane_joins.proofs.Fitting.{candidates_fit}
use Rattle.plane_joins.proofs.lines.candidates.Goals as goal

pub returns-clause-fit : goal.returns-clause-fit
returns-clause-fit c =
    IfOk-weaker c.listed.result (λ (v : Vec Candidate Global). v.items ≡ candidates c.args.d.now c.args.p.now)
    (λ (v : Vec Candidate Global). All IsCandidateFit v.items)
    (λ v e. subst (All IsCandidateFit) (sym e) (candidates_fit c.args.d.now c.args.p.now c.requires.plane))
    c.listed.ensures
