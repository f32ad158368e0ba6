use Rattle.std.proofs.Common.{All, Any, take}
use Rattle.searcher_pool.specs.declared.log.OfferNote.{OfferNote}
use Rattle.searcher_pool.specs.declared.log.WorkerLog.{WorkerLog}
use Rattle.searcher_pool.specs.Passes.{IsFullAnswer}
use Rattle.searcher_pool.proofs.log.is_full.Given as goal

abbrev pub invariant-loop-log : goal.invariant-loop-log
invariant-loop-log l =
    All (λ (w : WorkerLog). ¬ (Any (λ (n : OfferNote). IsFullAnswer n.answer) w.notes)) (take l.log-index l.logs)
