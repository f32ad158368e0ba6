use Rattle.std.proofs.Common.{◌≡◌, ◌∙◌, sym, ap, length, arith}
use Rattle.pcb_model.specs.declared.design.Design.{Design}
use Rattle.closing_pass.proofs.Closings.{grows_stays, joins_on, closed_none, closed_more}
use Rattle.closing_pass.proofs.join.Closer.close_all.Goals as goal

pub loop-net-init : goal.loop-net-init
loop-net-init c = record {
  closed = closed_none c.args.self.now.lat.now c.args.self.now.via_cost c.args.board.now
      c.keeps.ensures;
  ready = c.requires;
}

pub loop-net-preserved : goal.loop-net-preserved
loop-net-preserved c =
    let b = c.loop-net.board in
    let after = c.close.new.board in
    let before = c.loop-net.invariant.closed in
    record {
      closed = closed_more c.args.self.now.lat.now c.args.self.now.via_cost c.loop-net.net c.args.board.now b after
          before c.in_ok-close.ensures.joins
          c.keeps-in-loop-net.ensures (c.boards_serve.ensures.ascends after c.keeps-in-loop-net.ensures)
          c.in_ok-close.ensures.closed
          (λ net added found other islands.
          c.others_change_nothing.ensures b.design b.items added net found before.board.sound
          (c.boards_serve.ensures.serves b before.board) other islands);
      ready = c.in_ok-close.ensures.ready;
    }

pub close-requires-clause-net : goal.close-requires-clause-net
close-requires-clause-net c =
    let stays = c.loop-net.invariant.closed.closes.design_stays in
    let count : c.len-net-end.result ≡ length c.loop-net.board.design.nets =
    c.len-net-end.ensures ∙ ap (λ (d : Design). length d.nets) (c.design.ensures ∙ sym stays) in
    let test = c.loop-net-test.true in
    omega (arith, count, test)

pub returns-in_err-close-clause-closes : goal.returns-in_err-close-clause-closes
returns-in_err-close-clause-closes c =
    joins_on 16 c.args.self.now.lat.now c.args.self.now.via_cost c.args.board.now c.loop-net.board c.close.new.board
    c.loop-net.invariant.closed.closes
    c.in_err-close.ensures.joins.closes

pub returns-in_err-close-clause-stays : goal.returns-in_err-close-clause-stays
returns-in_err-close-clause-stays c = λ x h.
    grows_stays c.loop-net.net c.loop-net.board c.close.new.board c.in_err-close.ensures.joins.grows x
    (c.loop-net.invariant.closed.stays x h)

pub returns-clause-closed : goal.returns-clause-closed
returns-clause-closed c = λ net below.
    let stays = c.loop-net.invariant.closed.closes.design_stays in
    let count : c.len-net-end.result ≡ length c.loop-net.board.design.nets =
    c.len-net-end.ensures ∙ ap (λ (d : Design). length d.nets) (c.design.ensures ∙ sym stays) in
    let test = c.loop-net-test.false in
    c.loop-net.invariant.closed.closed net (omega (arith, count, test, below))
