use Rattle.least_offer.proofs.Yielding.{may_be_made}
use Rattle.least_offer.proofs.least_offers_may_be_made.Goals as goal

pub returns : goal.returns
returns c = λ m via_cost b o board up plain fits base worker there least takes.
    may_be_made m via_cost b o
    (λ d net i j x y. c.own_copper_agrees.ensures d net i j x y) c.joining_falls.ensures.fewer board up plain fits base
    worker there least takes
