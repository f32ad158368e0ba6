use Rattle.std.proofs.Common.{◌∙◌}
use Rattle.fault_notes.proofs.Digits.{cut_digits}
use Rattle.fault_notes.proofs.number.front_number.Goals as goal

pub returns-in-Some-clause-whole : goal.returns-in-Some-clause-whole
returns-in-Some-clause-whole c = λ n rest small ends is.
    let cut = cut_digits n rest c.args.bytes.now c.count_of_digits.result small ends is c.count_of_digits.ensures in
    (c.in-Some.ensures.whole n small (c.split_at.ensures.front ∙ cut.0), c.split_at.ensures.back ∙ cut.1)

pub returns-in-None-clause-whole : goal.returns-in-None-clause-whole
returns-in-None-clause-whole c = λ n rest small ends is.
    let cut = cut_digits n rest c.args.bytes.now c.count_of_digits.result small ends is c.count_of_digits.ensures in
    c.in-None.ensures.whole n small (c.split_at.ensures.front ∙ cut.0)
