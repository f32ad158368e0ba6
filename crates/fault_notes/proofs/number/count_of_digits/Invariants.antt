use Rattle.std.proofs.Common.{◌≡◌, ◌+◌, drop}
use Rattle.std.specs.Char.{is_ascii_digit}
use Rattle.std.specs.List.{prefix_len}
use Rattle.fault_notes.proofs.number.count_of_digits.Given as goal

-- so many digits stand at the front, and as many more as at the front of what is left
abbrev pub invariant-loop-b : goal.invariant-loop-b
invariant-loop-b l = record {
  count_is : l.count ≡ l.b-index;
  left : prefix_len is_ascii_digit l.bytes ≡ l.b-index + prefix_len is_ascii_digit (drop l.b-index l.bytes);
}
