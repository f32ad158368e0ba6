use Rattle.fault_notes.proofs.notes.note_text.Goals as goal

pub returns-in-Session : goal.returns-in-Session
returns-in-Session c = rw c.in-Session.is c.unwritten_note.ensures
