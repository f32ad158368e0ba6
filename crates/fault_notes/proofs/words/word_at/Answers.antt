use Rattle.std.proofs.Common.{refl, sym}
use Rattle.std.proofs.lemmas.Option.{slice_get_read}
use Rattle.fault_notes.proofs.words.word_at.Goals as goal

pub returns : goal.returns
returns c = record {
  at = c.args.at;
  found = c.index-words-at.result;
  there = slice_get_read c.args.words.now _ c.args.at c.index-words-at.result refl c.requires c.index-words-at.is;
  is = sym c.as_str.ensures.value;
}
