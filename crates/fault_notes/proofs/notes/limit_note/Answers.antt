use Rattle.std.proofs.Common.{◌++◌, ◌∙◌}
use Rattle.std.proofs.lemmas.Result.{IfOk-weaker}
use Rattle.std.specs.Prelude.{codes, decimal}
use Rattle.fault_notes.specs.Lines.{word_of}
use Rattle.fault_notes.proofs.Parts.{framed}
use Rattle.fault_notes.proofs.notes.limit_note.Goals as goal

pub returns : goal.returns
returns c =
    let words = c.limit_words-words.result.now in
    let text = rw c.word-what.ensures at c.text_of.ensures in
    IfOk-weaker c.text_of.result _ _ (λ note is. record {
      words = words;
      plain = c.limit_words-words.ensures;
      is = is
          ∙ framed c.args.file.now (codes ": too large: ") (decimal c.args.number) (codes " ")
          (word_of c.args.counted) (words ++ codes "\n");
    }) text
