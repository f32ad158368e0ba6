use Rattle.std.proofs.lemmas.Result.{IfOk-weaker}
use Rattle.fault_notes.proofs.notes.usage_note.Goals as goal

pub returns : goal.returns
returns c = IfOk-weaker c.text_of.result _ _ (λ note is. record {
  words = c.usage_words-words.result.now;
  plain = c.usage_words-words.ensures;
  is = is;
}) c.text_of.ensures
