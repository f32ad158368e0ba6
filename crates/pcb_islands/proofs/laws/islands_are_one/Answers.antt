use Rattle.pcb_islands.specs.Islands.{pins_of}
use Rattle.pcb_islands.proofs.Pads.{net_pins}
use Rattle.pcb_islands.proofs.Merging.{one_list_of_islands}
use Rattle.pcb_islands.proofs.laws.islands_are_one.Goals as goal

pub returns : goal.returns
returns c = λ d items net found others sound serves are too.
    one_list_of_islands d items net sound (pins_of d net) serves c.pairs_are_symmetric.ensures.touch
    (net_pins d net sound).0 found others are too
