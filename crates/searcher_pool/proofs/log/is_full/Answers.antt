use Rattle.std.proofs.Common.{Any}
use Rattle.pcb_model.proofs.Answered.{found_here, missed_here, all_missed}
use Rattle.searcher_pool.specs.Passes.{IsFullAnswer}
use Rattle.searcher_pool.specs.declared.log.WorkerLog.{WorkerLog}
use Rattle.searcher_pool.specs.declared.log.OfferNote.{OfferNote}
use Rattle.searcher_pool.proofs.log.is_full.Goals as goal

pub loop-log-preserved : goal.loop-log-preserved
loop-log-preserved c =
    missed_here (λ (w : WorkerLog). Any (λ (n : OfferNote). IsFullAnswer n.answer) w.notes) c.args.logs.now
    c.loop-log.log-index c.log-item.result c.is_log_full.result c.loop-log-test.true c.log-item.is
    c.is_log_full.ensures c.if-is_log_full.false c.loop-log.invariant

pub returns-then-is_log_full : goal.returns-then-is_log_full
returns-then-is_log_full c =
    found_here (λ (w : WorkerLog). Any (λ (n : OfferNote). IsFullAnswer n.answer) w.notes) c.args.logs.now
    c.loop-log.log-index c.log-item.result c.loop-log-test.true c.log-item.is
    (c.is_log_full.ensures.0 c.if-is_log_full.true)

pub returns : goal.returns
returns c =
    all_missed (λ (w : WorkerLog). Any (λ (n : OfferNote). IsFullAnswer n.answer) w.notes) c.args.logs.now
    c.loop-log.log-index c.loop-log-test.false c.loop-log.invariant
