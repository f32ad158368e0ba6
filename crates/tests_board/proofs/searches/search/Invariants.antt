use Rattle.tests_board.proofs.searches.search.Given as goal

abbrev pub ghosts-search_counting : goal.ghosts-search_counting
ghosts-search_counting a = record { name = a.blank.name; parts = a.blank.parts }
