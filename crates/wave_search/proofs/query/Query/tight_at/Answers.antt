use Rattle.std.proofs.Common.{refl, sym, ◌∙◌}
use Rattle.wave_search.proofs.Steps.{hop}
use Rattle.wave_search.proofs.query.Query.tight_at.Goals as goal

pub returns : goal.returns
returns g c = record {
  tight = record {
    hop = hop c.args.i c.in-Some.mv c.in-Some.there c.price.result;
    opens = record {
      listed = c.requires.index;
      leads = sym c.at.ensures ∙ c.in-Some.is;
      is_open = c.if-not-is_open.ensures.opens;
      costs = c.price.ensures;
    };
    to_is = c.if-there-to.false;
    price_is = sym c.if-before-price.false;
  };
  move_is = refl;
  index_is = refl;
}
