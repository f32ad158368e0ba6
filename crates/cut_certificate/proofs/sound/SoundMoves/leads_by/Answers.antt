use Rattle.std.proofs.Common.{◌≡◌, Some, sym, refl, ◌∙◌, subst}
use Rattle.cut_certificate.proofs.sound.SoundMoves.leads_by.Goals as goal

pub returns-clause-yes : goal.returns-clause-yes
returns-clause-yes g c =
    let graph = g.M.Moves.graph c.args.self.now in
    let leads : graph.at c.args.from c.args.i ≡ Some (c.in-Some.field-0-0, c.in-Some.there) =
    sym (subst (λ m. c.at.result ≡ (g.M.Moves.graph m).at c.args.from c.args.i) c.self.view_is c.at.ensures)
    ∙ c.in-Some.is in record {
      hop = record {
        index = c.args.i;
        move = c.in-Some.field-0-0;
        to = c.in-Some.there;
        price = c.price-price.result;
      };
      opens = record {
        listed = c.requires.index;
        leads = leads;
        is_open = subst (λ m. (g.M.Moves.graph m).open_at c.args.from c.args.i) c.self.view_is
            c.if-not-is_open.ensures.opens;
        costs = subst (λ m. (g.M.Moves.graph m).priced c.args.from c.args.i c.price-price.result) c.self.view_is
            c.price-price.ensures;
      };
      index_is = refl;
      to_is = c.if-there-to.false;
    }
