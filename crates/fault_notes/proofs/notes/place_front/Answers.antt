use Rattle.fault_notes.proofs.notes.place_front.Goals as goal

pub returns-in-Some : goal.returns-in-Some
returns-in-Some c =
    rw c.in-Some.is (rw (c.place_of-place.ensures.line, c.place_of-place.ensures.column) at c.text_of.ensures)

pub returns-in-None : goal.returns-in-None
returns-in-None c = rw c.in-None.is c.text_of-in-None.ensures
