use Rattle.tests_board.proofs.same.same.Given as goal

abbrev pub ghosts-same_counting : goal.ghosts-same_counting
ghosts-same_counting a = record { name = a.blank.name; parts = a.blank.parts }
