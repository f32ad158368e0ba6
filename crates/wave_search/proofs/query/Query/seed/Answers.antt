use Rattle.std.proofs.Common.{◌∙◌, arith}
use Rattle.wave_search.proofs.Spared.{all_seeded}
use Rattle.wave_search.proofs.Ends.{seed_step}
use Rattle.wave_search.proofs.query.Query.seed.Goals as goal

pub loop-s-preserved : goal.loop-s-preserved
loop-s-preserved g c = record {
  size = c.in_ok-let_wait.ensures.size ∙ c.loop-s.invariant.size;
  state = seed_step (g.M.Moves.graph c.args.self.now.m.now) c.args.self.now.starts.now c.as_slice-s-items.result.now
      c.args.self.now.goals.now (g.B.Bound.low_of c.args.self.now.b.now)
      c.loop-s.table c.loop-s.front c.loop-s.s-index _ c.as_slice-s-items.ensures c.loop-s-test.true
      c.loop-s.invariant.state (omega arith) c.let_wait.new.table c.let_wait.new.front c.in_ok-let_wait.ensures.put
      c.in_ok-let_wait.ensures.added;
}

pub returns-clause-state : goal.returns-clause-state
returns-clause-state g c = all_seeded (g.M.Moves.graph c.args.self.now.m.now) c.args.self.now.starts.now
    c.as_slice-s-items.result.now c.args.self.now.goals.now (g.B.Bound.low_of c.args.self.now.b.now) c.loop-s.table
    c.loop-s.front c.loop-s.s-index c.as_slice-s-items.ensures (omega (arith, c.loop-s-test.false))
    c.loop-s.invariant.state
