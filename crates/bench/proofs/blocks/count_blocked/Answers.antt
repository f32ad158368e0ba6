use Rattle.bench.proofs.blocks.count_blocked.Goals as goal

pub count-requires-clause-step_fits : goal.count-requires-clause-step_fits
count-requires-clause-step_fits g c = c.step.ensures c.args.d.now
