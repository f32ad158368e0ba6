use Rattle.std.proofs.Common.{ℕ, ◌≤◌, subst, sym}
use Rattle.std.proofs.lemmas.Bool.{le-leb, leb-true}
use Rattle.pcb_islands.proofs.Whole.{whole}
use Rattle.pcb_islands.proofs.net.is_whole.Goals as goal

pub returns-clause-complete : goal.returns-clause-complete
returns-clause-complete c = λ d items net sound serves are.
    let w = whole d items net sound serves c.pairs_are_symmetric.ensures.touch c.args.found.now are in (
      λ t. w.0 (subst (λ (n : ℕ). n ≤ 1) c.len.ensures (leb-true c.len.result 1 t)),
      λ h. le-leb c.len.result 1 (subst (λ (n : ℕ). n ≤ 1) (sym c.len.ensures) (w.1 h)),
    )
