use Rattle.std.proofs.Common.{◌≡◌, ◌∙◌, ◌≤◌, List, ap, arith, length, subst, sym}
use Rattle.pcb_model.specs.declared.design.Design.{Design}
use Rattle.cut_certificate.specs.declared.cut.Cut.{Cut}
use Rattle.pcb_board.specs.declared.answer.Entry.{Entry}
use Rattle.pcb_board.specs.Boards.{BoardOf}
use Rattle.closing_pass.specs.inner.Steps.{IsClosed}
use Rattle.closing_pass.proofs.Closings.{history_grows}
use Rattle.closing_pass.proofs.Rounding.{IsRounding, closed_then, grows_more, rounded, rounding_more, rounding_none}
use Rattle.closing_pass.proofs.Rounding.{same_length, unchanged}
use Rattle.closing_pass.proofs.join.Closer.round.Goals as goal

pub loop-net-init : goal.loop-net-init
loop-net-init c = record {
  round = subst (λ (ends : List (List Cut)). IsRounding c.args.self.now.lat.now c.args.self.now.via_cost
      c.args.self.now.tries 0 c.args.board.now c.args.board.now ends) (sym c.new-ends.ensures)
      (rounding_none c.args.self.now.lat.now c.args.self.now.via_cost c.args.self.now.tries c.args.board.now
      c.keeps.ensures);
  ready = c.requires.ready;
}

pub turn-requires-clause-ready : goal.turn-requires-clause-ready
turn-requires-clause-ready c = c.loop-net.invariant.ready

pub turn-requires-clause-net : goal.turn-requires-clause-net
turn-requires-clause-net c =
    let count : c.len-net-end.result ≡ length c.args.board.now.design.nets =
    c.len-net-end.ensures ∙ ap (λ (d : Design). length d.nets) c.design.ensures in
    let stays = ap (λ (d : Design). length d.nets) c.loop-net.invariant.round.closes.closes.design_stays in
    let test = c.loop-net-test.true in
    omega (arith, count, test, stays)

pub turn-requires-clause-closed : goal.turn-requires-clause-closed
turn-requires-clause-closed c = λ e.
    let m = c.args.self.now.lat.now in
    let cost = c.args.self.now.via_cost in
    let tries = c.args.self.now.tries in
    let old = c.args.board.now in
    let b = c.loop-net.board in
    let r = c.loop-net.invariant.round in
    let before : c.len-before.result ≡ length old.history = c.len-before.ensures
    ∙ ap (λ (es : List Entry). length es) c.history.ensures in
    let now : c.len.result ≡ length b.history = c.len.ensures
    ∙ ap (λ (es : List Entry). length es) c.history-in-loop-net.ensures in
    let count : c.len-net-end.result ≡ length c.args.board.now.design.nets =
    c.len-net-end.ensures ∙ ap (λ (d : Design). length d.nets) c.design.ensures in
    let test = c.loop-net-test.true in
    let len_is = same_length c.len.result c.len-before.result e in
    subst (λ (x : BoardOf). IsClosed m cost x c.loop-net.net)
    (sym (r.fewer.same (omega (arith, len_is, before, now))))
    (c.requires.closed c.loop-net.net (omega (arith, count, test)))

pub returns-in_err-cuts-clause-fewer : goal.returns-in_err-cuts-clause-fewer
returns-in_err-cuts-clause-fewer c =
    let m = c.args.self.now.lat.now in
    let cost = c.args.self.now.via_cost in
    let tries = c.args.self.now.tries in
    let old = c.args.board.now in
    let b = c.loop-net.board in
    let r = c.loop-net.invariant.round in
    let before : c.len-before.result ≡ length old.history = c.len-before.ensures
    ∙ ap (λ (es : List Entry). length es) c.history.ensures in
    let now : c.len.result ≡ length b.history = c.len.ensures
    ∙ ap (λ (es : List Entry). length es) c.history-in-loop-net.ensures in
    let first = history_grows 16 m cost old b r.closes.closes in
    let quiet = λ (le : length b.history ≤ length old.history). c.turn.ensures.fewer
    (unchanged c.len.result c.len-before.result (omega (arith, le, first, before, now))) in
    grows_more m cost tries old b c.turn.new.board c.keeps-in-loop-net.ensures r.fewer quiet c.turn.ensures.closes

pub returns-in_err-cuts-clause-closes : goal.returns-in_err-cuts-clause-closes
returns-in_err-cuts-clause-closes c =
    closed_then c.args.self.now.lat.now c.args.self.now.via_cost c.args.board.now c.loop-net.board c.turn.new.board
    c.keeps-in-loop-net.ensures c.loop-net.invariant.round.closes c.turn.ensures.closes

pub returns-in_err-push-clause-fewer : goal.returns-in_err-push-clause-fewer
returns-in_err-push-clause-fewer c =
    let m = c.args.self.now.lat.now in
    let cost = c.args.self.now.via_cost in
    let tries = c.args.self.now.tries in
    let old = c.args.board.now in
    let b = c.loop-net.board in
    let r = c.loop-net.invariant.round in
    let before : c.len-before.result ≡ length old.history = c.len-before.ensures
    ∙ ap (λ (es : List Entry). length es) c.history.ensures in
    let now : c.len.result ≡ length b.history = c.len.ensures
    ∙ ap (λ (es : List Entry). length es) c.history-in-loop-net.ensures in
    let first = history_grows 16 m cost old b r.closes.closes in
    let quiet = λ (le : length b.history ≤ length old.history). c.turn.ensures.fewer
    (unchanged c.len.result c.len-before.result (omega (arith, le, first, before, now))) in
    grows_more m cost tries old b c.turn.new.board c.keeps-in-loop-net.ensures r.fewer quiet c.turn.ensures.closes

pub returns-in_err-push-clause-closes : goal.returns-in_err-push-clause-closes
returns-in_err-push-clause-closes c =
    closed_then c.args.self.now.lat.now c.args.self.now.via_cost c.args.board.now c.loop-net.board c.turn.new.board
    c.keeps-in-loop-net.ensures c.loop-net.invariant.round.closes c.turn.ensures.closes

pub loop-net-preserved : goal.loop-net-preserved
loop-net-preserved c =
    let m = c.args.self.now.lat.now in
    let cost = c.args.self.now.via_cost in
    let tries = c.args.self.now.tries in
    let old = c.args.board.now in
    let b = c.loop-net.board in
    let r = c.loop-net.invariant.round in
    let before : c.len-before.result ≡ length old.history = c.len-before.ensures
    ∙ ap (λ (es : List Entry). length es) c.history.ensures in
    let now : c.len.result ≡ length b.history = c.len.ensures
    ∙ ap (λ (es : List Entry). length es) c.history-in-loop-net.ensures in
    let first = history_grows 16 m cost old b r.closes.closes in
    let quiet = λ (le : length b.history ≤ length old.history). c.turn.ensures.fewer
    (unchanged c.len.result c.len-before.result (omega (arith, le, first, before, now))) in
    record {
      round = rounding_more m cost tries c.loop-net.net old b c.turn.new.board c.loop-net.ends c.push.new.self
          c.in_ok-cuts.cuts c.keeps-in-loop-net.ensures r c.in_ok-cuts.ensures.turned quiet c.turn.ensures.closes
          c.in_ok-push.ensures.ok;
      ready = c.in_ok-cuts.ensures.ready;
    }

pub returns-clause-rounded : goal.returns-clause-rounded
returns-clause-rounded c =
    let count : c.len-net-end.result ≡ length c.args.board.now.design.nets =
    c.len-net-end.ensures ∙ ap (λ (d : Design). length d.nets) c.design.ensures in
    let test = c.loop-net-test.false in
    let most = c.loop-net.auto.net-end in
    rounded c.args.self.now.lat.now c.args.self.now.via_cost c.args.self.now.tries c.args.board.now c.loop-net.board
    c.loop-net.net c.loop-net.ends (omega (arith, count, test, most)) c.loop-net.invariant.round

pub returns-clause-fewer : goal.returns-clause-fewer
returns-clause-fewer c = c.loop-net.invariant.round.fewer

pub returns-clause-closes : goal.returns-clause-closes
returns-clause-closes c = c.loop-net.invariant.round.closes

pub returns-clause-ready : goal.returns-clause-ready
returns-clause-ready c = c.loop-net.invariant.ready
