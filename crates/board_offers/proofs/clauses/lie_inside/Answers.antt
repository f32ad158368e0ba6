use Rattle.std.proofs.Common.{refl, IsTrue, rules, tests}
use Rattle.pcb_model.specs.declared.item.Item.{Item}
use Rattle.pcb_model.specs.Bounds.{IsItemFit}
use Rattle.pcb_model.specs.Board.{AreInside}
use Rattle.board_offers.proofs.Lists.{at_place_of, front_more, front_all}
use Rattle.board_offers.proofs.clauses.lie_inside.Goals as goal

pub inside_board-requires-clause-a_fits : goal.inside_board-requires-clause-a_fits
inside_board-requires-clause-a_fits c =
    at_place_of IsItemFit c.args.items.now c.requires.fit c.loop-a.a-index c.a-item.result c.loop-a-test.true
    c.a-item.is

pub returns-then-not-inside_board : goal.returns-then-not-inside_board
returns-then-not-inside_board c = (
  λ t. cc,
  λ all.
      let h = at_place_of (λ (a : Item). AreInside c.args.d.now.bounds a.pieces) c.args.items.now all c.loop-a.a-index
      c.a-item.result c.loop-a-test.true c.a-item.is in
      let t = c.inside_board.ensures.1 h in
      search (rules, tests),
)

pub loop-a-preserved : goal.loop-a-preserved
loop-a-preserved c =
    let t : IsTrue c.inside_board.result = search (rules, tests) in
    front_more (λ (a : Item). AreInside c.args.d.now.bounds a.pieces) c.args.items.now c.loop-a.a-index c.a-item.result
    c.loop-a-test.true c.a-item.is c.loop-a.invariant (c.inside_board.ensures.0 t)

pub returns : goal.returns
returns c = (
  λ t. front_all (λ (a : Item). AreInside c.args.d.now.bounds a.pieces) c.args.items.now c.loop-a.a-index
      c.loop-a-test.false c.loop-a.invariant,
  λ all. refl,
)
