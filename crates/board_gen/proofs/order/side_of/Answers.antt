use Rattle.std.proofs.Common.{◌∙◌, arith, sym, ap, unwrap_or}
use Rattle.board_gen.specs.Board.{side_of}
use Rattle.board_gen.proofs.Orders.{le_square, root_some, side_here, side_next}
use Rattle.board_gen.proofs.order.side_of.Goals as goal

pub loop-side-preserved : goal.loop-side-preserved
loop-side-preserved c =
    let square = le_square c.loop-side.side in
    record {
      small = omega arith;
      still = sym (side_next c.args.count c.loop-side.side c.loop-side.invariant.small c.loop-side-test.true)
          ∙ c.loop-side.invariant.still;
    }

pub returns-clause-least : goal.returns-clause-least
unfolding side_of
returns-clause-least c =
    sym (ap (λ found. unwrap_or found 0) (sym c.loop-side.invariant.still ∙ side_here c.args.count c.loop-side.side
    c.loop-side.invariant.small c.loop-side-test.false))

pub returns-clause-some : goal.returns-clause-some
returns-clause-some c = λ some. root_some c.loop-side.side c.args.count some c.loop-side-test.false
