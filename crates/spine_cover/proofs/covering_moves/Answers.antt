use Rattle.spine_cover.proofs.Moving.{covers_moved, simple_moved}
use Rattle.spine_cover.proofs.covering_moves.Goals as goal

pub returns-clause-covers : goal.returns-clause-covers
returns-clause-covers c = covers_moved

pub returns-clause-simple : goal.returns-clause-simple
returns-clause-simple c = simple_moved
