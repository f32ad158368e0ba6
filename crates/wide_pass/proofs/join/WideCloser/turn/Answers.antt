use Rattle.wide_pass.proofs.join.WideCloser.turn.Goals as goal

pub leads_on-requires-clause-can : goal.leads_on-requires-clause-can
leads_on-requires-clause-can c = c.requires.reaches

pub leads_on-requires-clause-ends : goal.leads_on-requires-clause-ends
leads_on-requires-clause-ends c = c.requires.ends
