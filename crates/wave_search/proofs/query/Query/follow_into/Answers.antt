use Rattle.std.proofs.Common.{refl, sym, ℕ, List, [], ◌∷◌, ◌++◌, ◌∙◌, ap}
use Rattle.wave_search.proofs.Tracing.{passed_walk, none_of, begun, passed_on}
use Rattle.wave_search.proofs.query.Query.follow_into.Goals as goal

pub tight_to-requires-clause-small : goal.tight_to-requires-clause-small
tight_to-requires-clause-small g c = c.requires.small c.loop-way.at c.loop-way.here c.loop-way.invariant.there

pub loop-way-init : goal.loop-way-init
loop-way-init g c = record {
  there = c.in-Some.ensures.0;
  inside = c.in-Some.ensures.2;
  small = c.in-Some.ensures.3;
  passed = begun (g.M.Moves.graph c.args.self.now.m.now) c.args.self.now.starts.now c.args.table.now c.requires.roots
      c.args.start.node c.in-Some.here c.in-Some.ensures.0
      (none_of c.in-Some.here.origin (sym c.is_some.ensures ∙ c.if-is_some.false)) c.push.new.self.items
      c.args.moves.now.items
      (c.in_ok-push.ensures.items ∙ ap (λ (xs : List ℕ). xs ++ c.args.start.node ∷ []) c.requires.no_nodes)
      c.requires.no_moves;
}

pub loop-way-preserved : goal.loop-way-preserved
loop-way-preserved g c = record {
  there = c.in-Some-label_after.ensures.0;
  inside = c.in-Some-label_after.ensures.2;
  small = c.in-Some-label_after.ensures.3;
  passed = passed_on (g.M.Moves.graph c.args.self.now.m.now) c.args.self.now.starts.now c.loop-way.nodes.items
      c.loop-way.moves.items c.loop-way.at c.loop-way.here.price c.in-Some-on.way.to c.in-Some-label_after.after.price
      c.loop-way.invariant.passed c.in-Some-tight_to.mv c.in-Some-tight_to.ensures.tight
      c.in-Some-tight_to.ensures.move_is c.push-in-Some-on-2.new.self.items
      c.push-in-Some-on.new.self.items c.in_ok-push-3.ensures.items c.in_ok-push-2.ensures.items;
}

pub returns : goal.returns
returns g c =
    passed_walk (g.M.Moves.graph c.args.self.now.m.now) c.args.self.now.starts.now c.args.self.now.goals.now
    c.loop-way.nodes.items c.loop-way.moves.items c.loop-way.at c.loop-way.here.price c.loop-way.invariant.passed
    (c.has.ensures.0 c.if-not-has.false) _ refl refl (sym c.if-here-price.false)
