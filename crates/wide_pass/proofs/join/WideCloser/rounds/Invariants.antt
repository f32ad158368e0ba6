use Rattle.wide_pass.specs.inner.Passes.{HasRounded}
use Rattle.wide_pass.proofs.Rounding.{open_of}
use Rattle.wide_pass.proofs.join.WideCloser.rounds.Given as goal

abbrev pub invariant-loop-round : goal.invariant-loop-round
invariant-loop-round l = HasRounded l.self.lat.now l.self.via_cost l.self.tries l.fn.board l.round

abbrev pub decreases-loop-round : goal.decreases-loop-round
decreases-loop-round l = open_of l.round.ends
