use Rattle.std.proofs.Common.{refl}
use Rattle.std.proofs.lemmas.Bool.{false≢true}
use Rattle.pcb_model.specs.declared.item.Item.{Item}
use Rattle.shove.proofs.Touching.{unless}
use Rattle.least_offer.specs.Together.{StandsWith}
use Rattle.route_plan.specs.inner.Ways.{shove_of, IsReshaped}
use Rattle.board_offers.proofs.Lists.{at_place_of, front_more, front_all}
use Rattle.route_plan.proofs.moved.all_stand_with.Goals as goal

pub stands_with-requires-clause-a_moved : goal.stands_with-requires-clause-a_moved
stands_with-requires-clause-a_moved g c =
    at_place_of (IsReshaped c.args.on.now.d c.args.on.now.items) c.args.moved.now c.requires.moved
    c.loop-a.a-index c.a-item.result c.loop-a-test.true c.a-item.is

pub loop-a-preserved : goal.loop-a-preserved
loop-a-preserved g c =
    let items = c.args.on.now.items in
    front_more (λ (a : Item). StandsWith c.args.on.now.d items (shove_of a) (shove_of c.args.item.now)) c.args.moved.now
    c.loop-a.a-index c.a-item.result c.loop-a-test.true c.a-item.is c.loop-a.invariant
    (c.stands_with.ensures.0 c.if-not-stands_with.false)

pub returns : goal.returns
returns g c =
    let items = c.args.on.now.items in (
      λ t. front_all (λ (a : Item). StandsWith c.args.on.now.d items (shove_of a) (shove_of c.args.item.now))
          c.args.moved.now c.loop-a.a-index c.loop-a-test.false c.loop-a.invariant,
      λ h. refl,
    )

pub returns-then-not-stands_with : goal.returns-then-not-stands_with
returns-then-not-stands_with g c =
    let items = c.args.on.now.items in (
      λ t. absurd (false≢true t),
      λ all. absurd (unless c.stands_with.result _ c.stands_with.ensures c.if-not-stands_with.true
          (at_place_of (λ (a : Item). StandsWith c.args.on.now.d items (shove_of a) (shove_of c.args.item.now))
          c.args.moved.now all c.loop-a.a-index c.a-item.result c.loop-a-test.true c.a-item.is)),
    )
