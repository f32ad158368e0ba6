use Rattle.pcb_tiles.proofs.Scans.{met_by}
use Rattle.pcb_tiles.proofs.tiles.Tiles.any_in_items.Goals as goal

pub returns-in-Some-clause-yes : goal.returns-in-Some-clause-yes
returns-in-Some-clause-yes g c = met_by _ _ _ _ _ _ _ c.in-Some.ensures.so
