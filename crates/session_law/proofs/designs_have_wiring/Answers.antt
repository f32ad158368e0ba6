use Rattle.session_law.proofs.BoardDesigns.{wiring_of_read}
use Rattle.session_law.proofs.designs_have_wiring.Goals as goal

pub returns : goal.returns
returns c = wiring_of_read
