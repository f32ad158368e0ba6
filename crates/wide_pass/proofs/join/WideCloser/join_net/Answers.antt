use Rattle.std.proofs.Common.{◌∙◌, List, arith, sym, subst}
use Rattle.pcb_islands.specs.declared.net.Island.{Island}
use Rattle.pcb_board.specs.Boards.{BoardOf}
use Rattle.closing_pass.specs.inner.Steps.{HasIslandAt}
use Rattle.wide_pass.specs.inner.Joins.{IsWideShutAt}
use Rattle.wide_pass.proofs.Joining.{wide_shut, wide_shut_more}
use Rattle.wide_pass.proofs.join.WideCloser.join_net.Goals as goal

pub join_at-requires-clause-at : goal.join_at-requires-clause-at
join_at-requires-clause-at c =
    let count = c.len-place-end.ensures in
    let test = c.loop-place-test.true in
    subst (λ (p : BoardOf × List Island). HasIslandAt p.0.design p.0.items c.args.net p.1 c.loop-place.place)
    (λ i. (sym c.loop-place.invariant.board i, sym c.loop-place.invariant.found i))
    (record {
      net_there = c.requires.net;
      islands = c.in_ok-found.ensures;
      place_there = omega (arith, count, test);
    })

pub loop-place-preserved : goal.loop-place-preserved
loop-place-preserved c =
    let m = c.args.self.now.lat.now in
    let cost = c.args.self.now.via_cost in
    let b = c.args.board.now in
    let place = c.loop-place.place in
    let found = c.in_ok-found.found in
    let tries = rw c.if-joined.false at c.in_ok-same.ensures.tries in
    let here : IsWideShutAt b.design m cost b.items found place =
    subst (λ (p : BoardOf × List Island). IsWideShutAt p.0.design m cost p.0.items p.1 place)
    (λ i. (c.loop-place.invariant.board i, c.loop-place.invariant.found i)) tries.0 in
    record {
      found = c.in_ok-same.ensures.found ∙ c.loop-place.invariant.found;
      board = tries.1 ∙ c.loop-place.invariant.board;
      shut = wide_shut_more b.design m cost place b.items found c.loop-place.invariant.shut here;
    }

pub returns-clause-tries : goal.returns-clause-tries
returns-clause-tries c =
    let count = c.len-place-end.ensures in
    let test = c.loop-place-test.false in (
      wide_shut c.args.self.now.lat.now c.args.self.now.via_cost c.args.net c.args.board.now c.in_ok-found.found
          c.loop-place.place c.keeps.ensures c.in_ok-found.ensures (omega (arith, count, test))
          c.loop-place.invariant.shut,
      c.loop-place.invariant.board,
    )
