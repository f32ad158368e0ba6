use Rattle.std.proofs.Common.{◌∙◌, ◌*◌, refl}
use Rattle.std.proofs.lemmas.List.FromFn.{length-range_with_len}
use Rattle.board_gen.specs.Board.{order_of}
use Rattle.board_gen.proofs.order.order_of.Goals as goal

pub returns : goal.returns
unfolding order_of
returns c = c.shuffled.ensures ∙ rw (c.in_ok-entries.ensures, length-range_with_len 0 (2 * c.args.n), c.from.ensures)
    refl
