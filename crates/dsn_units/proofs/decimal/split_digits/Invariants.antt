use Rattle.std.proofs.Common.{◌≡◌, ◌++◌, take, drop, true}
use Rattle.std.specs.List.{list_all}
use Rattle.std.specs.Char.{is_ascii_digit}
use Rattle.dsn_units.specs.Reading.{digits_of}
use Rattle.dsn_units.proofs.decimal.split_digits.Given as goal

abbrev pub invariant-loop-i : goal.invariant-loop-i
invariant-loop-i l = record {
  digits : take l.i l.text ++ (digits_of (drop l.i l.text)).0 ≡ (digits_of l.text).0;
  rest : (digits_of (drop l.i l.text)).1 ≡ (digits_of l.text).1;
  all : list_all is_ascii_digit (take l.i l.text) ≡ true;
}
