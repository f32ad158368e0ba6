use Rattle.std.proofs.Common.{◌∙◌, sym, subst, inl, inr, ◌<◌, length, arith, refl}
use Rattle.pcb_model.specs.declared.design.Design.{Design}
use Rattle.closing_pass.proofs.Closings.{net_none, net_same, net_on, closing_ends}
use Rattle.closing_pass.proofs.join.Closer.close.Goals as goal

pub join_some-requires-clause-islands : goal.join_some-requires-clause-islands
join_some-requires-clause-islands c = record {
  net_there = subst (λ (d : Design). c.args.net < length d.nets)
      (sym c.loop-alloc.invariant.closing.joins.grows.design_stays) c.requires.net;
  islands = c.loop-alloc.invariant.closing.islands;
}

pub islands_on-requires-in-loop-alloc : goal.islands_on-requires-in-loop-alloc
islands_on-requires-in-loop-alloc c =
    subst (λ (d : Design). c.args.net < length d.nets)
    (sym (c.in_ok-join_some.ensures.joins.grows.design_stays ∙
    c.loop-alloc.invariant.closing.joins.grows.design_stays)) c.requires.net

pub loop-alloc-init : goal.loop-alloc-init
loop-alloc-init c = record {
  closing = record {
    joins = net_none c.args.self.now.lat.now c.args.self.now.via_cost c.args.net c.args.board.now;
    islands = c.in_ok-found.ensures;
  };
  ready = c.requires.ready;
}

pub loop-alloc-preserved : goal.loop-alloc-preserved
loop-alloc-preserved c = record {
  closing = record {
    joins = net_on c.args.self.now.lat.now c.args.self.now.via_cost c.args.net c.args.board.now c.loop-alloc.board
        c.join_some.new.board
        c.loop-alloc.invariant.closing.joins c.in_ok-join_some.ensures.joins;
    islands = c.in_ok-found-2.ensures;
  };
  ready = c.in_ok-join_some.ensures.ready;
}

pub loop-alloc-smaller : goal.loop-alloc-smaller
loop-alloc-smaller c = (c.in_ok-join_some.ensures.fewer c.if-not-branch.false).fewer c.in_ok-found-2.found
    c.in_ok-found-2.ensures

pub returns-in_err-found-clause-joins : goal.returns-in_err-found-clause-joins
returns-in_err-found-clause-joins c = net_none c.args.self.now.lat.now c.args.self.now.via_cost c.args.net
    c.args.board.now

pub returns-in_err-join_some-clause-joins : goal.returns-in_err-join_some-clause-joins
returns-in_err-join_some-clause-joins c =
    let m = c.args.self.now.lat.now in
    let cost = c.args.self.now.via_cost in
    net_on m cost c.args.net c.args.board.now c.loop-alloc.board c.join_some.new.board
    c.loop-alloc.invariant.closing.joins
    (net_same m cost c.args.net c.loop-alloc.board c.join_some.new.board c.in_err-join_some.ensures.err)

pub returns-then-not-branch-clause-closed : goal.returns-then-not-branch-clause-closed
returns-then-not-branch-clause-closed c =
    let tries = rw c.if-not-branch.true at c.in_ok-join_some.ensures.tries in
    closing_ends c.args.self.now.lat.now c.args.self.now.via_cost c.args.net c.args.board.now c.loop-alloc.board
    c.join_some.new.board c.loop-alloc.found
    c.loop-alloc.invariant.closing tries.1 (inr tries.0)

pub returns-then-not-branch-clause-joins : goal.returns-then-not-branch-clause-joins
returns-then-not-branch-clause-joins c =
    net_on c.args.self.now.lat.now c.args.self.now.via_cost c.args.net c.args.board.now c.loop-alloc.board
    c.join_some.new.board
    c.loop-alloc.invariant.closing.joins c.in_ok-join_some.ensures.joins

pub returns-in_err-found-2-clause-joins : goal.returns-in_err-found-2-clause-joins
returns-in_err-found-2-clause-joins c =
    net_on c.args.self.now.lat.now c.args.self.now.via_cost c.args.net c.args.board.now c.loop-alloc.board
    c.join_some.new.board
    c.loop-alloc.invariant.closing.joins c.in_ok-join_some.ensures.joins

pub returns-clause-closed : goal.returns-clause-closed
returns-clause-closed c =
    let count = c.len.ensures in
    let few = c.loop-alloc-test.false in
    closing_ends c.args.self.now.lat.now c.args.self.now.via_cost c.args.net c.args.board.now c.loop-alloc.board
    c.loop-alloc.board c.loop-alloc.found
    c.loop-alloc.invariant.closing refl (inl (omega (arith, count, few)))

pub returns-clause-joins : goal.returns-clause-joins
returns-clause-joins c = c.loop-alloc.invariant.closing.joins
