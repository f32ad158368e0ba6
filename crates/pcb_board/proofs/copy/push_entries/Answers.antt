use Rattle.std.proofs.Common.{◌++◌, ◌∷◌, [], List, ap, sym, take, ◌∙◌}
use Rattle.std.proofs.lemmas.List.{append-nil, append_assoc, take_all, take_more}
use Rattle.pcb_board.specs.declared.answer.Entry.{Entry}
use Rattle.pcb_board.proofs.copy.push_entries.Goals as goal

pub loop-entry-init : goal.loop-entry-init
loop-entry-init c = sym (append-nil c.args.copies.now)

pub loop-entry-preserved : goal.loop-entry-preserved
loop-entry-preserved c =
    let front = take c.loop-entry.entry-index c.args.history.now in
    c.in_ok-push.ensures.ok
    ∙ ap (λ (e : Entry). c.loop-entry.copies ++ e ∷ []) c.in_ok-copy_entry.ensures
    ∙ ap (λ (xs : List Entry). xs ++ c.entry-item.result ∷ []) c.loop-entry.invariant
    ∙ append_assoc c.args.copies.now front (c.entry-item.result ∷ [])
    ∙ ap (λ (xs : List Entry). c.args.copies.now ++ xs)
    (ap (λ (e : Entry). front ++ e ∷ []) c.entry-item.is
    ∙ sym (take_more c.args.history.now c.loop-entry.entry-index c.entry-item.result c.loop-entry-test.true))

pub returns : goal.returns
returns c =
    c.loop-entry.invariant
    ∙ ap (λ (xs : List Entry). c.args.copies.now ++ xs)
    (take_all c.loop-entry.entry-index c.args.history.now c.loop-entry-test.false)
