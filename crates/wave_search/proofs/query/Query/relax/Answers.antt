use Rattle.std.proofs.Common.{ℕ, ◌≡◌, ◌+◌, subst, refl, ◌∙◌, arith}
use Rattle.wave_search.specs.inner.State.{IsState}
use Rattle.wave_search.proofs.query.Query.relax.Goals as goal

pub relax_one-requires-clause-there : goal.relax_one-requires-clause-there
relax_one-requires-clause-there g c =
    c.loop-i.invariant.kept c.args.node c.args.label c.requires.there c.requires.is_done

pub loop-i-preserved : goal.loop-i-preserved
loop-i-preserved g c = record {
  kept = λ v l h d. c.in_ok-relax_one.ensures.kept v l (c.loop-i.invariant.kept v l h d) d;
  size = c.in_ok-relax_one.ensures.size ∙ c.loop-i.invariant.size;
  len = omega (arith, c.in_ok-relax_one.ensures.len, c.loop-i.invariant.len);
  state = c.in_ok-relax_one.ensures.state;
}

pub loop-i-init : goal.loop-i-init
loop-i-init g c = record {
  kept = λ v l h d. h;
  size = refl;
  len = omega arith;
  state = c.requires.state;
}

pub returns-clause-state : goal.returns-clause-state
returns-clause-state g c =
    let all : c.loop-i.i ≡ (g.M.Moves.graph c.args.self.now.m.now).arity =
    omega (arith, c.loop-i-test.false, c.loop-i.auto.i-end, c.arity-i-end.ensures) in
    subst (λ (k : ℕ). IsState (g.M.Moves.graph c.args.self.now.m.now) c.args.self.now.starts.now
    c.args.self.now.goals.now (g.B.Bound.low_of c.args.self.now.b.now) c.loop-i.table c.loop-i.front
    (c.args.label.price + g.B.Bound.low_of c.args.self.now.b.now c.args.node) c.args.label.rank c.args.node k) all
    c.loop-i.invariant.state
