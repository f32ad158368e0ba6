use Rattle.std.proofs.Common.{◌++◌, ◌∙◌, ap, List, ℕ, flat_map}
use Rattle.fault_notes.specs.inner.Parts.{part_word}
use Rattle.fault_notes.proofs.Parts.{parts_are}
use Rattle.fault_notes.proofs.notes.text_of.Goals as goal

pub returns : goal.returns
returns c =
    c.in_ok-put_parts.ensures
    ∙ ap (λ (l : List ℕ). l ++ flat_map part_word c.args.parts.now) c.new-text.ensures.bytes
    ∙ parts_are c.args.parts.now
