use Rattle.least_offer.proofs.Yielding.{may_shove}
use Rattle.least_offer.proofs.shoves_may_be_made.Goals as goal

pub returns : goal.returns
returns c = λ m via_cost b o penalty ids board up plain fits base worker there laid some in_way shoves_are no_rip
    together.
    may_shove m via_cost b o
    (λ d net i j x y. c.own_copper_agrees.ensures d net i j x y) c.joining_falls.ensures.fewer board up plain fits base
    worker there laid penalty some ids in_way shoves_are no_rip together
