use Rattle.std.proofs.Common.{◌*◌, ◌++◌, drop}
use Rattle.board_gen.specs.Board.{net_lines}
use Rattle.board_gen.proofs.Puts.{Leads}
use Rattle.board_gen.proofs.text.put_nets.Given as goal

abbrev pub invariant-loop-net : goal.invariant-loop-net
invariant-loop-net l = Leads l.out.items (net_lines l.net (drop (2 * l.net) l.order)) (l.fn.out.items
    ++ net_lines 0 l.order)
