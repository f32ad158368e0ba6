use Rattle.std.proofs.Common.{ℕ, sym, subst, arith}
use Rattle.route_lattice.specs.Walks.{NoneCostsLess}
use Rattle.wave_search.proofs.Run.{price_small}
use Rattle.wave_search.proofs.query.Query.run.Goals as goal

pub returns-in_default-clause-answers : goal.returns-in_default-clause-answers
returns-in_default-clause-answers g c =
    let all = rw c.in_default.is at c.in_ok-goal.ensures.found in
    (all.none, all.reach c.in_ok-all.all.nodes c.in_ok-all.ensures)

pub returns-clause-answers : goal.returns-clause-answers
returns-clause-answers g c =
    let first = rw c.in-Some.is at c.in_ok-goal.ensures.found in
    let small = price_small c.args.self.now.sound first.state c.in-Some.goal.node c.in-Some.goal.label first.there in
    record {
      walk = c.in_ok-walk.ensures.walk;
      least = subst (λ (p : ℕ). NoneCostsLess
          (g.M.Moves.graph c.args.self.now.m.now) c.args.self.now.starts.now c.args.self.now.goals.now p)
          (sym c.in_ok-walk.ensures.price) first.none_less;
      small = omega (arith, c.in_ok-walk.ensures.price, small);
    }
