use Rattle.wave_search.proofs.query.Query.ends_at.Goals as goal

pub returns-then-label-price : goal.returns-then-label-price
returns-then-label-price g c = (
  λ h. (
    c.has.ensures.0 h,
    record {
      label = c.in-Some.label;
      there = c.in-Some.ensures.0;
      done = c.in-Some.ensures.1;
      price_is = c.if-label-price.true;
    },
  ),
  λ p. c.has.ensures.1 p.0,
)
