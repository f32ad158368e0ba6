use Rattle.std.proofs.Common.{◌≡◌, ◌+◌, drop}
use Rattle.std.specs.List.{prefix_len}
use Rattle.fault_notes.specs.Places.{is_word_byte}
use Rattle.fault_notes.proofs.seen.word_length.Given as goal

-- so many bytes of a word stand at the front, and as many more as at the front of what is left
abbrev pub invariant-loop-b : goal.invariant-loop-b
invariant-loop-b l = record {
  count_is : l.count ≡ l.b-index;
  left : prefix_len is_word_byte l.bytes ≡ l.b-index + prefix_len is_word_byte (drop l.b-index l.bytes);
}
