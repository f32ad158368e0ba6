use Rattle.std.proofs.Common.{◌∙◌, ◌<◌, arith, length, subst, sym}
use Rattle.pcb_model.specs.declared.design.Design.{Design}
use Rattle.closing_pass.proofs.Rejoining.{rejoined_all, rejoined_none, rejoining_more, rejoining_none}
use Rattle.closing_pass.proofs.join.Closer.rejoin.Goals as goal

pub join_first-requires-clause-islands : goal.join_first-requires-clause-islands
join_first-requires-clause-islands c =
    let count = c.len.ensures in
    let more = c.loop-alloc-test.true in
    record {
      net_there = subst (λ (d : Design). c.args.net < length d.nets)
          (sym c.loop-alloc.invariant.rejoining.joins.grows.design_stays) c.requires.net;
      islands = c.loop-alloc.invariant.rejoining.islands;
      place_there = omega (arith, count, more);
    }

pub islands_on-requires-in-loop-alloc : goal.islands_on-requires-in-loop-alloc
islands_on-requires-in-loop-alloc c =
    let first = rw c.if-not-branch.false at c.in_ok-join_first.ensures.joins in
    subst (λ (d : Design). c.args.net < length d.nets)
    (sym (first.joins.grows.design_stays ∙ c.loop-alloc.invariant.rejoining.joins.grows.design_stays)) c.requires.net

pub loop-alloc-init : goal.loop-alloc-init
loop-alloc-init c = record {
  rejoining = rejoining_none c.args.self.now.lat.now c.args.self.now.via_cost c.args.net c.args.most c.args.board.now
      c.in_ok-found.found c.in_ok-found.ensures;
  ready = c.requires.ready;
}

pub loop-alloc-preserved : goal.loop-alloc-preserved
loop-alloc-preserved c =
    let count = c.len.ensures in
    let more = c.loop-alloc-test.true in
    let b = c.loop-alloc.board in
    record {
      rejoining = rejoining_more c.args.self.now.lat.now c.args.self.now.via_cost c.args.net c.args.most
          c.args.board.now b c.join_first.new.board c.loop-alloc.found c.in_ok-found-2.found c.islands_are_one.ensures
          c.keeps.ensures (c.boards_serve.ensures.serves b c.keeps.ensures) c.loop-alloc.invariant.rejoining
          (omega (arith, count, more)) (rw c.if-not-branch.false at c.in_ok-join_first.ensures.joins)
          c.in_ok-found-2.ensures;
      ready = c.in_ok-join_first.ensures.ready;
    }

pub loop-alloc-smaller : goal.loop-alloc-smaller
loop-alloc-smaller c = (c.in_ok-join_first.ensures.fewer c.if-not-branch.false).fewer c.in_ok-found-2.found
    c.in_ok-found-2.ensures

pub returns-then-not-branch-clause-rejoined : goal.returns-then-not-branch-clause-rejoined
returns-then-not-branch-clause-rejoined c =
    let count = c.len.ensures in
    let more = c.loop-alloc-test.true in
    let b = c.loop-alloc.board in
    rejoined_none c.args.self.now.lat.now c.args.self.now.via_cost c.args.net c.args.most c.args.board.now b
    c.join_first.new.board c.loop-alloc.found c.islands_are_one.ensures c.keeps.ensures
    (c.boards_serve.ensures.serves b c.keeps.ensures) c.loop-alloc.invariant.rejoining (omega (arith, count, more))
    (rw c.if-not-branch.true at c.in_ok-join_first.ensures.joins)

pub returns-clause-rejoined : goal.returns-clause-rejoined
returns-clause-rejoined c =
    let count = c.len.ensures in
    let few = c.loop-alloc-test.false in
    rejoined_all c.args.self.now.lat.now c.args.self.now.via_cost c.args.net c.args.most c.args.board.now
    c.loop-alloc.board c.loop-alloc.found c.loop-alloc.invariant.rejoining (omega (arith, count, few))
