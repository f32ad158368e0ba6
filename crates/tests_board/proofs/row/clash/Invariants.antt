use Rattle.tests_board.proofs.row.clash.Given as goal

abbrev pub ghosts-clash_counting : goal.ghosts-clash_counting
ghosts-clash_counting a = record { name = a.blank.name; parts = a.blank.parts }
