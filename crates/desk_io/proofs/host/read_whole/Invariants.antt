use Rattle.std.proofs.Common.{◌≤◌, vec_len}
use Rattle.std.specs.Io.KnownBytes.{Consumes}
use Rattle.desk_io.proofs.host.read_whole.Given as goal

-- what was read so far is what the reader has lost
abbrev pub invariant-loop : goal.invariant-loop
invariant-loop g l =
    record {
      within : vec_len l.bytes ≤ l.limit;
      so_far : Consumes (g.F.Read.remaining l.fn.reader) (g.F.Read.remaining l.reader) l.bytes.items;
    }
