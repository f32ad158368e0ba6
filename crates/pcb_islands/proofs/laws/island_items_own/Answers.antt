use Rattle.pcb_islands.proofs.Others.{item_net}
use Rattle.pcb_islands.proofs.laws.island_items_own.Goals as goal

pub returns : goal.returns
returns c = λ d items net place found b sound serves up are there at. item_net d items net place found b sound up are
    there at
