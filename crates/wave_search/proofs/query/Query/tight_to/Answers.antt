use Rattle.std.proofs.Common.{inl, inr, arith}
use Rattle.std.proofs.lemmas.Bool.{cases_lt}
use Rattle.wave_search.proofs.query.Query.tight_to.Goals as goal

pub returns-in-Some : goal.returns-in-Some
returns-in-Some g c = record {
  tight = c.in-Some.ensures.tight;
  move_is = c.in-Some.ensures.move_is;
  least = λ o. elim (cases_lt o.hop.index c.loop-i.i) [
    | inl lt ↦ absurd (c.loop-i.invariant o lt)
    | inr ge ↦ omega (arith, ge, c.in-Some.ensures.index_is)
  ];
}
