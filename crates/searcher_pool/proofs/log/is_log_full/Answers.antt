use Rattle.std.proofs.Common.{IsTrue, ◌↔◌, Any, List, true, false, subst}
use Rattle.pcb_model.proofs.Answered.{found_here, missed_here, all_missed}
use Rattle.searcher_pool.specs.Passes.{IsFullAnswer}
use Rattle.searcher_pool.specs.declared.log.OfferNote.{OfferNote}
use Rattle.searcher_pool.proofs.log.is_log_full.Goals as goal

pub loop-note-preserved : goal.loop-note-preserved
loop-note-preserved c =
    missed_here (λ (n : OfferNote). IsFullAnswer n.answer) c.as_slice-note-items.result.now c.loop-note.note-index
    c.note-item.result c.is_full_answer.result c.loop-note-test.true c.note-item.is c.is_full_answer.ensures
    c.if-is_full_answer.false c.loop-note.invariant

pub returns-then-is_full_answer : goal.returns-then-is_full_answer
returns-then-is_full_answer c =
    subst (λ (notes : List OfferNote). IsTrue true ↔ Any (λ (n : OfferNote). IsFullAnswer n.answer) notes)
    c.as_slice-note-items.ensures
    (found_here (λ (n : OfferNote). IsFullAnswer n.answer) c.as_slice-note-items.result.now c.loop-note.note-index
    c.note-item.result c.loop-note-test.true c.note-item.is (c.is_full_answer.ensures.0 c.if-is_full_answer.true))

pub returns : goal.returns
returns c =
    subst (λ (notes : List OfferNote). IsTrue false ↔ Any (λ (n : OfferNote). IsFullAnswer n.answer) notes)
    c.as_slice-note-items.ensures
    (all_missed (λ (n : OfferNote). IsFullAnswer n.answer) c.as_slice-note-items.result.now c.loop-note.note-index
    c.loop-note-test.false c.loop-note.invariant)
