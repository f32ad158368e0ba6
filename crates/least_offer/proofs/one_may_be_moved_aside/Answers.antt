use Rattle.least_offer.proofs.Yielding.{may_move_one}
use Rattle.least_offer.proofs.one_may_be_moved_aside.Goals as goal

pub returns : goal.returns
returns c = λ m via_cost b o item r way_up chain board up plain fits base worker there least none item_in wire fit
    shoves_are no_rip way.
    may_move_one m via_cost b o
    (λ d net i j x y. c.own_copper_agrees.ensures d net i j x y) c.joining_falls.ensures.fewer board up plain fits base
    worker there least none item item_in wire r way_up chain fit shoves_are no_rip way
