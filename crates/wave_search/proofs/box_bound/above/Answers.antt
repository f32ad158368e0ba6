use Rattle.wave_search.proofs.Spared.{above_is}
use Rattle.wave_search.proofs.box_bound.above.Goals as goal

pub returns-then-b-a-clause-value : goal.returns-then-b-a-clause-value
returns-then-b-a-clause-value c = above_is c.args.a c.args.b c.unsigned_abs.result c.requires.a c.requires.b
    c.if-b-a.true c.unsigned_abs.ensures.value
