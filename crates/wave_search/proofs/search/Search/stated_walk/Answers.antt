use Rattle.std.proofs.Common.{List, ℕ, subst, sym}
use Rattle.std.specs.Prelude.{IfOk}
use Rattle.wave_search.specs.Stated.{AnswersStated}
use Rattle.wave_search.specs.Bounds.{IsBound}
use Rattle.wave_search.proofs.search.Search.stated_walk.Goals as goal

pub invariant_of-query-clause-bound : goal.invariant_of-query-clause-bound
invariant_of-query-clause-bound g c =
    subst (λ (xs : List ℕ). IsBound (g.M.Moves.graph c.args.m.now) xs (g.B.Bound.low_of c.args.b.now))
    (sym c.in_ok-sought.ensures) c.requires.bound

pub returns-clause-answers : goal.returns-clause-answers
returns-clause-answers g c =
    subst (λ (xs : List ℕ).
    IfOk c.run_stated.result (AnswersStated (g.M.Moves.graph c.args.m.now) c.args.starts.now xs))
    c.in_ok-sought.ensures c.run_stated.ensures.answers
