use Rattle.pcb_board.proofs.load.fits.Given as goal

abbrev pub ghosts-is_agreed_by : goal.ghosts-is_agreed_by
ghosts-is_agreed_by a = record { name = a.blank.name; parts = a.blank.parts }
