use Rattle.std.proofs.Common.{◌≡◌, ◌+◌, ◌≤◌, take, not}
use Rattle.std.specs.List.{count_by, suffix_len}
use Rattle.fault_notes.specs.Places.{is_line_feed}
use Rattle.fault_notes.proofs.place.place_of.Given as goal

-- the place so far
abbrev pub invariant-loop-byte : goal.invariant-loop-byte
invariant-loop-byte l =
    let front = take l.byte-index l.byte-items in
    record {
      line_is : l.line ≡ count_by is_line_feed front + 1;
      column_is : l.column ≡ suffix_len (λ c. not (is_line_feed c)) front + 1;
      line_fits : l.line ≤ l.byte-index + 1;
      column_fits : l.column ≤ l.byte-index + 1;
    }
