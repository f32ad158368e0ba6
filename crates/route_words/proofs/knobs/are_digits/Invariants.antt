use Rattle.std.proofs.Common.{◌≡◌, drop}
use Rattle.std.specs.List.{list_all}
use Rattle.route_words.specs.Words.{is_digit}
use Rattle.route_words.proofs.knobs.are_digits.Given as goal

abbrev pub invariant-loop-c : goal.invariant-loop-c
invariant-loop-c l = list_all is_digit (drop l.c-index l.word) ≡ list_all is_digit l.word
