use Rattle.std.proofs.Common.{ℕ, List, [], ◌∷◌, ◌++◌, ap, sym, refl, ◌∙◌, arith}
use Rattle.wave_search.proofs.Tracing.{rank_falls, tight_from, origin_in, rank_pos, trace_step, walked_walk}
use Rattle.wave_search.proofs.Spared.{none_walked}
use Rattle.wave_search.proofs.query.Query.trace_into.Goals as goal

pub get-requires : goal.get-requires
get-requires g c =
    let h = origin_in (g.M.Moves.graph c.args.self.now.m.now) c.args.self.now.starts.now c.args.table.now
    c.requires.roots c.loop-here.at c.loop-here.here c.loop-here.invariant.there c.in-Some.from c.in-Some.is in
    omega (arith, h, c.requires.roots.size)

pub tight_to-requires-clause-node : goal.tight_to-requires-clause-node
tight_to-requires-clause-node g c =
    origin_in (g.M.Moves.graph c.args.self.now.m.now) c.args.self.now.starts.now c.args.table.now c.requires.roots
    c.loop-here.at c.loop-here.here c.loop-here.invariant.there c.in-Some.from c.in-Some.is

pub tight_to-requires-clause-small : goal.tight_to-requires-clause-small
tight_to-requires-clause-small g c =
    c.requires.small c.in-Some.from c.in-Some-get.before (sym c.get.ensures ∙ c.in-Some-get.is)

pub loop-here-preserved : goal.loop-here-preserved
loop-here-preserved g c =
    let was = sym c.get.ensures ∙ c.in-Some-get.is in record {
      there = was;
      is_done = rank_pos (g.M.Moves.graph c.args.self.now.m.now) c.args.self.now.starts.now c.args.table.now
          c.requires.roots c.loop-here.at c.loop-here.here c.loop-here.invariant.there c.in-Some.from c.in-Some.is
          c.in-Some-get.before was;
      walked = trace_step (g.M.Moves.graph c.args.self.now.m.now) c.loop-here.nodes.items c.loop-here.moves.items
          c.loop-here.at c.args.node c.loop-here.here.price c.args.label.price c.in-Some.from c.in-Some-get.before.price
          c.loop-here.invariant.walked c.in-Some-tight_to.mv c.in-Some-tight_to.ensures.tight
          c.in-Some-tight_to.ensures.move_is c.push-in-Some-2.new.self.items
          c.push-in-Some.new.self.items c.in_ok-push-3.ensures.items c.in_ok-push-2.ensures.items;
    }

pub returns : goal.returns
returns g c =
    walked_walk (g.M.Moves.graph c.args.self.now.m.now) c.args.self.now.starts.now c.args.self.now.goals.now
    c.args.table.now c.requires.roots c.loop-here.at c.loop-here.here c.loop-here.invariant.there c.in_default.is
    c.loop-here.nodes.items c.loop-here.moves.items c.args.node c.args.label.price c.loop-here.invariant.walked
    c.requires.goal _ c.reverse.ensures.items c.reverse-2.ensures.items refl

pub loop-here-smaller : goal.loop-here-smaller
loop-here-smaller g c = rank_falls (g.M.Moves.graph c.args.self.now.m.now) c.args.self.now.starts.now
    c.args.table.now c.requires.roots c.loop-here.at c.loop-here.here c.loop-here.invariant.there c.in-Some.from
    c.in-Some.is c.in-Some-get.before (sym c.get.ensures ∙ c.in-Some-get.is) c.loop-here.invariant.is_done

pub loop-here-init : goal.loop-here-init
loop-here-init g c = record {
  there = c.requires.there;
  is_done = c.requires.is_done;
  walked = none_walked (g.M.Moves.graph c.args.self.now.m.now) c.push.new.self.items c.args.moves.now.items
      c.args.node c.args.label.price
      (c.in_ok-push.ensures.items ∙ ap (λ (xs : List ℕ). xs ++ c.args.node ∷ []) c.requires.no_nodes)
      c.requires.no_moves;
}

pub unreachable-requires-in_default-tight_to : goal.unreachable-requires-in_default-tight_to
unreachable-requires-in_default-tight_to g c = c.in_default-tight_to.ensures (tight_from
    (g.M.Moves.graph c.args.self.now.m.now) c.args.self.now.starts.now c.args.table.now c.requires.roots
    c.loop-here.at c.loop-here.here c.loop-here.invariant.there c.in-Some.from c.in-Some.is c.in-Some-get.before
    (sym c.get.ensures ∙ c.in-Some-get.is))
