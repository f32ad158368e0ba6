use Rattle.pcb_model.proofs.copper.Copper.is_clear.Given as goal

abbrev pub ghosts-is_clear_by : goal.ghosts-is_clear_by
ghosts-is_clear_by g a = record { name = a.blank.name; parts = a.blank.parts }
