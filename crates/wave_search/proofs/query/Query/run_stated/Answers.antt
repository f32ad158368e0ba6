use Rattle.wave_search.proofs.query.Query.run_stated.Goals as goal

pub returns-in_default-clause-answers : goal.returns-in_default-clause-answers
returns-in_default-clause-answers g c =
    let all = rw c.in_default.is at c.in_ok-goal.ensures.found in
    (all.none, all.reach c.in_ok-all.all.nodes c.in_ok-all.ensures)
