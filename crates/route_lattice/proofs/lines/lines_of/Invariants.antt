use Rattle.std.proofs.Common.{◌≡◌}
use Rattle.std.specs.Prelude.{map}
use Rattle.route_lattice.specs.Lines.{up_from}
use Rattle.route_lattice.specs.Spans.{line_of}
use Rattle.route_lattice.proofs.lines.lines_of.Given as goal

abbrev pub invariant-loop-i : goal.invariant-loop-i
invariant-loop-i l = l.lines.items ≡ map (line_of l.r.unit l.r.grid) (up_from l.s.first l.i)
