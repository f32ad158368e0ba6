use Rattle.session_law.proofs.ToldWhole.{sessions_tell}
use Rattle.session_law.proofs.sessions_tell_copper.Goals as goal

pub returns : goal.returns
returns c = sessions_tell
