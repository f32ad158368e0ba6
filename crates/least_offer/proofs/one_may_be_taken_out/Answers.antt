use Rattle.least_offer.proofs.Yielding.{may_take_one}
use Rattle.least_offer.proofs.one_may_be_taken_out.Goals as goal

pub returns : goal.returns
returns c = λ m via_cost b o id board up plain fits base worker there least none rip_is no_shove way.
    may_take_one m via_cost b o
    (λ d net i j x y. c.own_copper_agrees.ensures d net i j x y) c.joining_falls.ensures.fewer board up plain fits base
    worker there least none id rip_is no_shove way
