use Rattle.std.proofs.Common.{◌∙◌, ℕ, min, ap}
use Rattle.fault_notes.proofs.Shown.{front_taken, front_text}
use Rattle.fault_notes.proofs.seen.front_word.Goals as goal

pub returns-in-Ok : goal.returns-in-Ok
returns-in-Ok c =
    c.in-Ok.ensures.cases.0
    ∙ front_taken c.args.bytes.now c.min-count.result
    (c.min-count.ensures ∙ ap (λ (n : ℕ). min n 40) c.front_length.ensures)

pub returns-in-Err : goal.returns-in-Err
returns-in-Err c = absurd (c.in-Err.ensures.cases.0 (front_text c.args.bytes.now c.min-count.result
    (c.min-count.ensures ∙ ap (λ (n : ℕ). min n 40) c.front_length.ensures)))
