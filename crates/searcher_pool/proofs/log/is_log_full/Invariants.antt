use Rattle.std.proofs.Common.{All, take}
use Rattle.searcher_pool.specs.declared.log.OfferNote.{OfferNote}
use Rattle.searcher_pool.specs.Passes.{IsFullAnswer}
use Rattle.searcher_pool.proofs.log.is_log_full.Given as goal

abbrev pub invariant-loop-note : goal.invariant-loop-note
invariant-loop-note l = All (λ (n : OfferNote). ¬ (IsFullAnswer n.answer)) (take l.note-index l.note-items)
