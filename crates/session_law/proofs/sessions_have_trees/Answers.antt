use Rattle.session_law.proofs.TreeWhole.{session_has_tree}
use Rattle.session_law.proofs.sessions_have_trees.Goals as goal

pub returns : goal.returns
returns c = session_has_tree
