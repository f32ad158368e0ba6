use Rattle.pcb_islands.proofs.Others.{islands_stay}
use Rattle.pcb_islands.proofs.laws.others_change_nothing.Goals as goal

pub returns : goal.returns
returns c = λ d items added net found sound serves none are. islands_stay items added net none d sound serves found are
