use Rattle.wide_pass.proofs.Passing.{IsPassing}
use Rattle.wide_pass.proofs.join.WideCloser.pass.Given as goal

abbrev pub invariant-loop-net : goal.invariant-loop-net
invariant-loop-net l = IsPassing l.self.lat.now l.self.via_cost l.fn.board l.board l.ends l.net l.wide l.led
