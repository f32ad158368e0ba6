use Rattle.fault_notes.proofs.told.outside_front.Goals as goal

pub returns : goal.returns
returns c = rw c.name.ensures at rw c.from.ensures at rw c.from-2.ensures at c.text_of.ensures
