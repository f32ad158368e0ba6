use Rattle.std.proofs.Common.{sym, ◌∙◌, refl, arith, true≢false}
use Rattle.wave_search.proofs.Steps.{hop}
use Rattle.wave_search.proofs.Stating.{step_to, step_node}
use Rattle.wave_search.proofs.query.Query.new_over.Goals as goal

pub returns-in_default-done_label : goal.returns-in_default-done_label
returns-in_default-done_label g c v s e = absurd (omega (
  arith,
  s.done,
  c.in_default-done_label.ensures s.after
      (step_to (g.M.Moves.graph c.args.self.now.m.now) c.args.table.now c.args.node v s c.args.i c.in-Some.mv
      c.in-Some.to e (sym c.at.ensures ∙ c.in-Some.is)),
))

pub returns : goal.returns
returns g c = record {
  step = record {
    before = c.args.here;
    was = c.requires.there;
    was_done = c.requires.is_done;
    after = c.in-Some-done_label.after;
    there = c.in-Some-done_label.ensures.0;
    done = c.in-Some-done_label.ensures.1;
    tight = record {
      hop = hop c.args.i c.in-Some.mv c.in-Some.to c.price.result;
      opens = record {
        listed = c.requires.index;
        leads = sym c.at.ensures ∙ c.in-Some.is;
        is_open = c.if-not-is_open.ensures.opens;
        costs = c.price.ensures;
      };
      to_is = refl;
      price_is = sym c.if-here-price.false;
    };
  };
  new = λ m. true≢false (sym (c.is_marked.ensures.1 m) ∙ c.if-is_marked.false);
  only = λ w s e. step_node (g.M.Moves.graph c.args.self.now.m.now) c.args.table.now c.args.node w s c.args.i
      c.in-Some.mv c.in-Some.to e (sym c.at.ensures ∙ c.in-Some.is);
}
