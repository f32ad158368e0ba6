use Rattle.std.proofs.Common.{sym}
use Rattle.session_law.proofs.ToldNumbers.{near}
use Rattle.session_law.proofs.whole_lengths_are_exact.Goals as goal

pub returns : goal.returns
returns c = λ nm x some whole. sym (near nm x some whole).back
