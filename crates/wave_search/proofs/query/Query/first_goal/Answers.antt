use Rattle.std.proofs.Common.{◌+◌, arith, ◌∙◌, length, [], refl}
use Rattle.wave_search.proofs.Steps.{whole}
use Rattle.wave_search.proofs.Run.{node_in, node_below, price_small, origin_small, room, unbound, goalless, none_in}
use Rattle.wave_search.proofs.Run.{skipped, goal_key, none_less_now, state_now, taken_now, nothing_now, falls}
use Rattle.wave_search.proofs.Run.{exhausted}
use Rattle.wave_search.proofs.query.Query.first_goal.Goals as goal

pub waiting-requires-clause-node : goal.waiting-requires-clause-node
waiting-requires-clause-node g c = node_in c.args.self.now.sound c.args.self.now.bound c.search.invariant.state
    (taken_now c.search.front c.pop.new.self _ c.in-Some.entry c.in_ok-entry.ensures c.in-Some.is)

pub overflow_add-label : goal.overflow_add-label
overflow_add-label g c =
    let r = room c.args.self.now.sound c.args.self.now.bound c.search.invariant.state
    (taken_now c.search.front c.pop.new.self _ c.in-Some.entry c.in_ok-entry.ensures c.in-Some.is)
    c.in-Some-waiting.ensures.0 c.in-Some-waiting.ensures.1 in omega (arith, r, c.args.self.now.sound.nodes)

pub place-requires-clause-node : goal.place-requires-clause-node
place-requires-clause-node g c = node_in c.args.self.now.sound c.args.self.now.bound c.search.invariant.state
    (taken_now c.search.front c.pop.new.self _ c.in-Some.entry c.in_ok-entry.ensures c.in-Some.is)

pub place-requires-clause-price : goal.place-requires-clause-price
place-requires-clause-price g c =
    omega (
      arith,
      price_small c.args.self.now.sound c.search.invariant.state.1 c.in-Some.entry.node c.in-Some-waiting.found
          c.in-Some-waiting.ensures.0,
    )

pub place-requires-clause-origin : goal.place-requires-clause-origin
place-requires-clause-origin g c =
    origin_small c.args.self.now.sound c.search.invariant.state.1.roots c.in-Some.entry.node c.in-Some-waiting.found
    c.in-Some-waiting.ensures.0

pub overflow_add-finished : goal.overflow_add-finished
overflow_add-finished g c =
    let r = room c.args.self.now.sound c.args.self.now.bound c.search.invariant.state
    (taken_now c.search.front c.pop.new.self _ c.in-Some.entry c.in_ok-entry.ensures c.in-Some.is)
    c.in-Some-waiting.ensures.0 c.in-Some-waiting.ensures.1 in omega (arith, r, c.args.self.now.sound.nodes)

pub relax-requires-clause-node : goal.relax-requires-clause-node
relax-requires-clause-node g c = node_below c.args.self.now.sound c.args.self.now.bound c.search.invariant.state
    (taken_now c.search.front c.pop.new.self _ c.in-Some.entry c.in_ok-entry.ensures c.in-Some.is)

pub relax-requires-clause-state : goal.relax-requires-clause-state
relax-requires-clause-state g c =
    state_now c.args.self.now.sound c.args.self.now.bound c.search.invariant.state
    (taken_now c.search.front c.pop.new.self _ c.in-Some.entry c.in_ok-entry.ensures c.in-Some.is)
    c.in-Some-waiting.ensures.0 c.in-Some-waiting.ensures.1
    (λ h. c.if-is_goal.ensures.no
    (goal_key c.args.self.now.sound c.args.self.now.bound c.search.invariant.state
    (taken_now c.search.front c.pop.new.self _ c.in-Some.entry c.in_ok-entry.ensures c.in-Some.is)
    c.in-Some-waiting.ensures.0 c.in-Some-waiting.ensures.1 h)
    h) c.place.new.table c.in_ok-place.ensures.put

pub search-smaller : goal.search-smaller
search-smaller g c = falls (g.M.Moves.graph c.args.self.now.m.now).count c.search.finished
    (g.M.Moves.graph c.args.self.now.m.now).arity (length c.search.front) (length c.pop.new.self)
    (length c.relax.new.front)
    (room c.args.self.now.sound c.args.self.now.bound c.search.invariant.state
    (taken_now c.search.front c.pop.new.self _ c.in-Some.entry c.in_ok-entry.ensures c.in-Some.is)
    c.in-Some-waiting.ensures.0 c.in-Some-waiting.ensures.1)
    (taken_now c.search.front c.pop.new.self _ c.in-Some.entry c.in_ok-entry.ensures c.in-Some.is).len
    c.in_ok-relax.ensures.len

pub search-preserved : goal.search-preserved
search-preserved g c = record {
  size = c.in_ok-relax.ensures.size ∙ c.in_ok-place.ensures.size ∙ c.search.invariant.size;
  state = (
    c.in-Some-waiting.found.price + g.B.Bound.low_of c.args.self.now.b.now c.in-Some.entry.node,
    whole (g.M.Moves.graph c.args.self.now.m.now) c.args.self.now.starts.now c.args.self.now.goals.now
        (g.B.Bound.low_of c.args.self.now.b.now) c.args.self.now.sound c.args.self.now.bound c.relax.new.table
        c.relax.new.front
        (c.in-Some-waiting.found.price + g.B.Bound.low_of c.args.self.now.b.now c.in-Some.entry.node)
        (c.search.finished + 1) c.in-Some.entry.node 0 c.in_ok-relax.ensures.state,
  );
}

pub waiting-requires-clause-there : goal.waiting-requires-clause-there
waiting-requires-clause-there g c =
    let e = c.search.invariant.state.1.labelled c.in-Some.entry (taken_now c.search.front c.pop.new.self _
    c.in-Some.entry c.in_ok-entry.ensures c.in-Some.is).there in (e.1.label, e.1.there)

pub search-preserved-in_default-waiting : goal.search-preserved-in_default-waiting
search-preserved-in_default-waiting g c = record {
  size = c.search.invariant.size;
  state = skipped c.args.self.now.sound c.args.self.now.bound c.search.invariant.state
      (taken_now c.search.front c.pop.new.self _ c.in-Some.entry c.in_ok-entry.ensures c.in-Some.is)
      c.in_default-waiting.ensures;
}

pub search-init : goal.search-init
search-init g c = record { size = c.in_ok-seed.ensures.size; state = (0, c.in_ok-seed.ensures.state) }

pub returns-clause-size : goal.returns-clause-size
returns-clause-size g c = c.search.invariant.size

pub returns-in_err-place-clause-size : goal.returns-in_err-place-clause-size
returns-in_err-place-clause-size g c = c.place.ensures.size ∙ c.search.invariant.size

pub returns-in_err-relax-clause-size : goal.returns-in_err-relax-clause-size
returns-in_err-relax-clause-size g c = c.relax.ensures.size ∙ c.in_ok-place.ensures.size ∙ c.search.invariant.size

pub returns-then-is_goal-clause-size : goal.returns-then-is_goal-clause-size
returns-then-is_goal-clause-size g c = c.in_ok-place.ensures.size ∙ c.search.invariant.size

pub returns-then-is_goal-clause-found : goal.returns-then-is_goal-clause-found
returns-then-is_goal-clause-found g c = record {
  there = c.in_ok-place.ensures.put.here;
  is_done = omega arith;
  is_goal = c.if-is_goal.ensures.yes;
  none_less = none_less_now c.args.self.now.sound c.args.self.now.bound c.search.invariant.state
      (taken_now c.search.front c.pop.new.self _ c.in-Some.entry c.in_ok-entry.ensures c.in-Some.is)
      c.in-Some-waiting.ensures.0 c.in-Some-waiting.ensures.1
      c.if-is_goal.ensures.yes;
  state = state_now c.args.self.now.sound (unbound [] refl c.args.self.now.bound)
      (c.search.invariant.state.0, goalless [] refl c.search.invariant.state.1)
      (taken_now c.search.front c.pop.new.self _ c.in-Some.entry c.in_ok-entry.ensures c.in-Some.is)
      c.in-Some-waiting.ensures.0 c.in-Some-waiting.ensures.1
      (none_in [] refl c.in-Some.entry.node) c.place.new.table c.in_ok-place.ensures.put;
}

pub returns-clause-found : goal.returns-clause-found
returns-clause-found g c = exhausted c.args.self.now.sound c.args.self.now.bound c.search.invariant.state
    (nothing_now c.search.front c.pop.new.self _ c.in_ok-entry.ensures c.in_default.is)
