use Rattle.tests_board.proofs.pairs.agree.Given as goal

abbrev pub ghosts-agree_counting : goal.ghosts-agree_counting
ghosts-agree_counting a = record { name = a.blank.name; parts = a.blank.parts }
