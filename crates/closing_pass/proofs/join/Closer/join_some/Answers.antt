use Rattle.std.proofs.Common.{◌≡◌, ◌∙◌, sym, subst, List, length, arith}
use Rattle.pcb_islands.specs.declared.net.Island.{Island}
use Rattle.pcb_board.specs.Boards.{BoardOf}
use Rattle.closing_pass.specs.inner.Steps.{IsShutAt, JoinsNet}
use Rattle.closing_pass.proofs.Closings.{all_shut, shut_more, net_same}
use Rattle.closing_pass.proofs.Readiness.{ready_same}
use Rattle.closing_pass.proofs.join.Closer.join_some.Goals as goal

pub loop-place-preserved : goal.loop-place-preserved
loop-place-preserved c =
    let m = c.args.self.now.lat.now in
    let cost = c.args.self.now.via_cost in
    let b = c.args.board.now in
    let place = c.loop-place.place in
    let tries = rw c.if-joined.false at c.in_ok-same.ensures.tries in
    let here : IsShutAt b.design m cost b.items c.args.found place =
    subst (λ (fs : List Island). IsShutAt b.design m cost b.items fs place) c.loop-place.invariant.found
    (subst (λ (x : BoardOf). IsShutAt x.design m cost x.items c.loop-place.found place) c.loop-place.invariant.board
    tries.0) in
    record {
      found = c.in_ok-same.ensures.found ∙ c.loop-place.invariant.found;
      board = tries.1 ∙ c.loop-place.invariant.board;
      shut = shut_more b.design m cost place b.items c.args.found c.loop-place.invariant.shut here;
      ready = ready_same m cost (c.join_at.new.board) b c.join_at.new.state
          (sym (tries.1 ∙ c.loop-place.invariant.board))
          c.in_ok-same.ensures.ready;
    }

pub returns-then-joined-clause-joins : goal.returns-then-joined-clause-joins
returns-then-joined-clause-joins c =
    subst (λ (x : BoardOf). JoinsNet c.args.self.now.lat.now c.args.self.now.via_cost c.args.net x
    c.join_at.new.board) c.loop-place.invariant.board c.in_ok-same.ensures.joins

pub returns-clause-tries : goal.returns-clause-tries
returns-clause-tries c =
    let b = c.args.board.now in
    let count : c.len-place-end.result ≡ length c.args.found = c.len-place-end.ensures in
    let past = c.loop-place-test.false in (
      all_shut b.design c.args.self.now.lat.now c.args.self.now.via_cost c.loop-place.place b.items c.args.found
          (omega (arith, count, past)) c.loop-place.invariant.shut,
      c.loop-place.invariant.board,
    )

pub returns-clause-joins : goal.returns-clause-joins
returns-clause-joins c =
    net_same c.args.self.now.lat.now c.args.self.now.via_cost c.args.net c.args.board.now c.loop-place.board
    c.loop-place.invariant.board

pub join_at-requires-clause-ready : goal.join_at-requires-clause-ready
join_at-requires-clause-ready c =
    ready_same c.args.self.now.lat.now c.args.self.now.via_cost c.args.board.now c.loop-place.board c.loop-place.state
    c.loop-place.invariant.board c.loop-place.invariant.ready

pub returns-clause-ready : goal.returns-clause-ready
returns-clause-ready c =
    ready_same c.args.self.now.lat.now c.args.self.now.via_cost c.args.board.now c.loop-place.board c.loop-place.state
    c.loop-place.invariant.board c.loop-place.invariant.ready
