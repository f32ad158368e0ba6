use Rattle.std.proofs.Common.{◌+◌, arith, ◌∙◌, length}
use Rattle.wave_search.proofs.Table.{within}
use Rattle.wave_search.proofs.Steps.{whole}
use Rattle.wave_search.proofs.Run.{node_in, node_below, price_small, origin_small, room, none_in, put_keeps, state_now}
use Rattle.wave_search.proofs.Run.{skipped, taken_now, falls}
use Rattle.wave_search.proofs.Run.{nothing_now}
use Rattle.wave_search.proofs.Settling.{exact_past, exact_none}
use Rattle.wave_search.proofs.query.Query.settle.Goals as goal

pub waiting-requires-clause-node : goal.waiting-requires-clause-node
waiting-requires-clause-node g c = node_in c.args.self.now.sound c.args.self.now.bound c.settle.invariant.state
    (taken_now c.settle.front c.pop.new.self _ c.in-Some.entry c.in_ok-entry.ensures c.in-Some.is)

pub overflow_add-label : goal.overflow_add-label
overflow_add-label g c =
    let r = room c.args.self.now.sound c.args.self.now.bound c.settle.invariant.state
    (taken_now c.settle.front c.pop.new.self _ c.in-Some.entry c.in_ok-entry.ensures c.in-Some.is)
    c.in-Some-waiting.ensures.0 c.in-Some-waiting.ensures.1 in omega (arith, r, c.args.self.now.sound.nodes)

pub place-requires-clause-node : goal.place-requires-clause-node
place-requires-clause-node g c = node_in c.args.self.now.sound c.args.self.now.bound c.settle.invariant.state
    (taken_now c.settle.front c.pop.new.self _ c.in-Some.entry c.in_ok-entry.ensures c.in-Some.is)

pub place-requires-clause-price : goal.place-requires-clause-price
place-requires-clause-price g c =
    omega (
      arith,
      price_small c.args.self.now.sound c.settle.invariant.state.1 c.in-Some.entry.node c.in-Some-waiting.found
          c.in-Some-waiting.ensures.0,
    )

pub place-requires-clause-origin : goal.place-requires-clause-origin
place-requires-clause-origin g c =
    origin_small c.args.self.now.sound c.settle.invariant.state.1.roots c.in-Some.entry.node c.in-Some-waiting.found
    c.in-Some-waiting.ensures.0

pub overflow_add-finished : goal.overflow_add-finished
overflow_add-finished g c =
    let r = room c.args.self.now.sound c.args.self.now.bound c.settle.invariant.state
    (taken_now c.settle.front c.pop.new.self _ c.in-Some.entry c.in_ok-entry.ensures c.in-Some.is)
    c.in-Some-waiting.ensures.0 c.in-Some-waiting.ensures.1 in omega (arith, r, c.args.self.now.sound.nodes)

pub relax-requires-clause-node : goal.relax-requires-clause-node
relax-requires-clause-node g c = let w = within c.args.table.now c.args.node c.args.last c.requires.there in
    omega (arith, w, c.requires.state.roots.size)

pub relax-requires-in-Some-clause-node : goal.relax-requires-in-Some-clause-node
relax-requires-in-Some-clause-node g c = node_below c.args.self.now.sound c.args.self.now.bound c.settle.invariant.state
    (taken_now c.settle.front c.pop.new.self _ c.in-Some.entry c.in_ok-entry.ensures c.in-Some.is)

pub relax-requires-in-Some-clause-state : goal.relax-requires-in-Some-clause-state
relax-requires-in-Some-clause-state g c = state_now c.args.self.now.sound c.args.self.now.bound c.settle.invariant.state
    (taken_now c.settle.front c.pop.new.self _ c.in-Some.entry c.in_ok-entry.ensures c.in-Some.is)
    c.in-Some-waiting.ensures.0 c.in-Some-waiting.ensures.1
    (none_in c.args.self.now.goals.now c.requires.no_goals c.in-Some.entry.node) c.place.new.table
    c.in_ok-place.ensures.put

pub settle-smaller : goal.settle-smaller
settle-smaller g c = falls (g.M.Moves.graph c.args.self.now.m.now).count c.settle.finished
    (g.M.Moves.graph c.args.self.now.m.now).arity (length c.settle.front) (length c.pop.new.self)
    (length c.relax-in-Some.new.front)
    (room c.args.self.now.sound c.args.self.now.bound c.settle.invariant.state
    (taken_now c.settle.front c.pop.new.self _ c.in-Some.entry c.in_ok-entry.ensures c.in-Some.is)
    c.in-Some-waiting.ensures.0 c.in-Some-waiting.ensures.1)
    (taken_now c.settle.front c.pop.new.self _ c.in-Some.entry c.in_ok-entry.ensures c.in-Some.is).len
    c.in_ok-relax-2.ensures.len

pub settle-preserved : goal.settle-preserved
settle-preserved g c = record {
  size = c.in_ok-relax-2.ensures.size ∙ c.in_ok-place.ensures.size ∙ c.settle.invariant.size;
  kept = λ v l h d. c.in_ok-relax-2.ensures.kept v l
      (put_keeps c.args.self.now.sound c.args.self.now.bound c.settle.invariant.state
      (taken_now c.settle.front c.pop.new.self _ c.in-Some.entry c.in_ok-entry.ensures c.in-Some.is)
      c.in-Some-waiting.ensures.0 c.in-Some-waiting.ensures.1 _ c.place.new.table
      c.in_ok-place.ensures.put v l
      (c.settle.invariant.kept v l h d) d) d;
  state = (
    c.in-Some-waiting.found.price + g.B.Bound.low_of c.args.self.now.b.now c.in-Some.entry.node,
    whole (g.M.Moves.graph c.args.self.now.m.now) c.args.self.now.starts.now c.args.self.now.goals.now
        (g.B.Bound.low_of c.args.self.now.b.now) c.args.self.now.sound c.args.self.now.bound c.relax-in-Some.new.table
        c.relax-in-Some.new.front
        (c.in-Some-waiting.found.price + g.B.Bound.low_of c.args.self.now.b.now c.in-Some.entry.node)
        (c.settle.finished + 1) c.in-Some.entry.node 0 c.in_ok-relax-2.ensures.state,
  );
}

pub returns-clause-roots : goal.returns-clause-roots
returns-clause-roots g c = c.settle.invariant.state.1.roots

pub returns-clause-small : goal.returns-clause-small
returns-clause-small g c = price_small c.args.self.now.sound c.settle.invariant.state.1

pub returns-then-entry-last-clause-small : goal.returns-then-entry-last-clause-small
returns-then-entry-last-clause-small g c = price_small c.args.self.now.sound c.settle.invariant.state.1

pub waiting-requires-clause-there : goal.waiting-requires-clause-there
waiting-requires-clause-there g c =
    let e = c.settle.invariant.state.1.labelled c.in-Some.entry (taken_now c.settle.front c.pop.new.self _
    c.in-Some.entry c.in_ok-entry.ensures c.in-Some.is).there in (e.1.label, e.1.there)

pub settle-preserved-in_default-waiting : goal.settle-preserved-in_default-waiting
settle-preserved-in_default-waiting g c = record {
  size = c.settle.invariant.size;
  kept = c.settle.invariant.kept;
  state = skipped c.args.self.now.sound c.args.self.now.bound c.settle.invariant.state
      (taken_now c.settle.front c.pop.new.self _ c.in-Some.entry c.in_ok-entry.ensures c.in-Some.is)
      c.in_default-waiting.ensures;
}

pub settle-init : goal.settle-init
settle-init g c = record {
  size = c.in_ok-relax.ensures.size;
  kept = c.in_ok-relax.ensures.kept;
  state = (
    c.args.last.price + g.B.Bound.low_of c.args.self.now.b.now c.args.node,
    whole (g.M.Moves.graph c.args.self.now.m.now) c.args.self.now.starts.now c.args.self.now.goals.now
        (g.B.Bound.low_of c.args.self.now.b.now) c.args.self.now.sound c.args.self.now.bound c.relax.new.table
        c.relax.new.front
        (c.args.last.price + g.B.Bound.low_of c.args.self.now.b.now c.args.node) c.args.last.rank c.args.node 0
        c.in_ok-relax.ensures.state,
  );
}

pub returns-clause-kept : goal.returns-clause-kept
returns-clause-kept g c = c.settle.invariant.kept

pub returns-clause-size : goal.returns-clause-size
returns-clause-size g c = c.settle.invariant.size

pub returns-then-entry-last-clause-kept : goal.returns-then-entry-last-clause-kept
returns-then-entry-last-clause-kept g c = c.settle.invariant.kept

pub returns-then-entry-last-clause-roots : goal.returns-then-entry-last-clause-roots
returns-then-entry-last-clause-roots g c = c.settle.invariant.state.1.roots

pub returns-then-entry-last-clause-size : goal.returns-then-entry-last-clause-size
returns-then-entry-last-clause-size g c = c.settle.invariant.size

pub returns-clause-exact : goal.returns-clause-exact
returns-clause-exact g c = exact_none c.settle.invariant.state c.args.last.price
    (nothing_now c.settle.front c.pop.new.self _ c.in_ok-entry.ensures c.in_default.is)

pub returns-then-entry-last-clause-exact : goal.returns-then-entry-last-clause-exact
returns-then-entry-last-clause-exact g c = exact_past c.settle.invariant.state c.args.last.price c.in-Some.entry
    c.pop.new.self
    (taken_now c.settle.front c.pop.new.self _ c.in-Some.entry c.in_ok-entry.ensures c.in-Some.is)
    c.if-entry-last.true
