use Rattle.told_words.proofs.Spelling.{spelled_tells}
use Rattle.told_words.proofs.spelled_names_tell.Goals as goal

pub returns : goal.returns
returns c = spelled_tells
