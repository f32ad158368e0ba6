use Rattle.pcb_islands.specs.Islands.{pins_of}
use Rattle.pcb_islands.proofs.Pads.{net_pins}
use Rattle.pcb_islands.proofs.Merging.{no_more_islands, fewer_islands}
use Rattle.pcb_islands.proofs.laws.joining_falls.Goals as goal

pub returns-clause-never_more : goal.returns-clause-never_more
returns-clause-never_more c = λ d items later net old found sound serves more was is.
    no_more_islands d items later net sound serves c.pairs_are_symmetric.ensures.touch more (pins_of d net)
    (net_pins d net sound).0 old found was is

pub returns-clause-fewer : goal.returns-clause-fewer
returns-clause-fewer c =
    λ d items later net old found sound serves up more was is i j a b a_in b_in at_i at_j apart joined.
    fewer_islands d items later net sound serves c.pairs_are_symmetric.ensures.touch more (pins_of d net)
    (net_pins d net sound).0 old found was is up i j a b a_in b_in at_i at_j apart joined
