use Rattle.std.proofs.Common.{◌-◌, ◌++◌, flat_map}
use Rattle.std.specs.List.{range_with_len}
use Rattle.board_gen.specs.Board.{place_line}
use Rattle.board_gen.proofs.Puts.{Leads}
use Rattle.board_gen.proofs.text.put_places.Given as goal

abbrev pub invariant-loop-site : goal.invariant-loop-site
invariant-loop-site l = Leads l.out.items (flat_map (place_line l.side) (range_with_len l.site (l.count - l.site)))
    (l.fn.out.items ++ flat_map (place_line l.side) (range_with_len 0 l.count))
