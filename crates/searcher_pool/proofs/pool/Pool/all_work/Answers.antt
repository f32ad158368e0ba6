use Rattle.std.proofs.Common.{arith}
use Rattle.searcher_pool.proofs.pool.Pool.all_work.Goals as goal

pub returns-then-count-eq0 : goal.returns-then-count-eq0
returns-then-count-eq0 g c = λ k d lt. absurd (omega (arith, lt, c.if-count-eq0.true))
