use Rattle.std.proofs.Common.{◌≡◌, ◌∙◌, ◌+◌, ℕ, List, ap, arith, inl, length, get_or, refl, subst, sym}
use Rattle.pcb_model.specs.declared.design.Design.{Design}
use Rattle.cut_certificate.specs.declared.cut.Cut.{Cut}
use Rattle.pcb_board.proofs.Standing.{serves_now}
use Rattle.wide_pass.proofs.Passing.{IsPassing, has_grown, passed, passing_none, turn_broken, turn_comes, turn_taken}
use Rattle.wide_pass.proofs.join.WideCloser.pass.Goals as goal

pub returns-in_err-snap-clause-grown : goal.returns-in_err-snap-clause-grown
returns-in_err-snap-clause-grown c = inl refl

pub loop-net-init : goal.loop-net-init
loop-net-init c =
    subst (λ (wide : List ℕ). IsPassing c.args.self.now.lat.now c.args.self.now.via_cost c.args.board.now
    c.args.board.now c.args.ends.now 0 wide _) (sym c.new-wide.ensures)
    (passing_none c.args.self.now.lat.now c.args.self.now.via_cost c.args.board.now c.args.ends.now c.keeps.ensures
    c.requires.ends)

pub bounds-as_slice-net : goal.bounds-as_slice-net
bounds-as_slice-net c =
    let count : c.len-net-end.result ≡ length c.args.board.now.design.nets =
    c.len-net-end.ensures ∙ ap (λ (d : Design). length d.nets) c.design.ensures in
    let test = c.loop-net-test.true in
    let ends = ap (λ (xs : List (List Cut)). length xs) c.as_slice.ensures in
    let all = c.requires.ends.all in
    omega (arith, count, test, ends, all)

pub turn-requires : goal.turn-requires
turn-requires c =
    let count : c.len-net-end.result ≡ length c.args.board.now.design.nets =
    c.len-net-end.ensures ∙ ap (λ (d : Design). length d.nets) c.design.ensures in
    let test = c.loop-net-test.true in
    let all = c.requires.ends.all in
    let cuts = c.index-as_slice-net.result in
    turn_comes c.args.self.now.lat.now c.args.self.now.via_cost c.args.board.now c.loop-net.board c.in_ok-snap.snap
    c.args.ends.now c.loop-net.net cuts cuts c.loop-net.wide c.loop-net.led c.keeps.ensures c.in_ok-snap.ensures
    c.requires.can c.requires.ends (omega (arith, count, test, all))
    (c.index-as_slice-net.is ∙ ap (λ (xs : List (List Cut)). get_or xs c.loop-net.net cuts) c.as_slice.ensures)
    c.loop-net.invariant

pub returns-in_err-here-clause-grown : goal.returns-in_err-here-clause-grown
returns-in_err-here-clause-grown c =
    turn_broken c.args.self.now.lat.now c.args.self.now.via_cost c.args.board.now c.loop-net.board c.turn.new.board
    c.args.ends.now c.loop-net.net c.loop-net.wide c.loop-net.led c.in_err-here.ensures.err c.loop-net.invariant

pub returns-clause-grown : goal.returns-clause-grown
returns-clause-grown c =
    has_grown c.args.self.now.lat.now c.args.self.now.via_cost c.args.board.now c.loop-net.board c.args.ends.now
    c.loop-net.net c.loop-net.wide c.loop-net.led c.loop-net.invariant.so_far

pub returns-clause-looked : goal.returns-clause-looked
returns-clause-looked c =
    let count : c.len-net-end.result ≡ length c.args.board.now.design.nets =
    c.len-net-end.ensures ∙ ap (λ (d : Design). length d.nets) c.design.ensures in
    let test = c.loop-net-test.false in
    let all = c.requires.ends.all in
    passed c.args.self.now.lat.now c.args.self.now.via_cost c.args.board.now c.loop-net.board c.args.ends.now
    c.loop-net.net c.loop-net.wide c.loop-net.led (omega (arith, count, test, all)) c.loop-net.invariant

pub loop-net-preserved : goal.loop-net-preserved
loop-net-preserved c =
    let count : c.len-net-end.result ≡ length c.args.board.now.design.nets =
    c.len-net-end.ensures ∙ ap (λ (d : Design). length d.nets) c.design.ensures in
    let test = c.loop-net-test.true in
    let all = c.requires.ends.all in
    let cuts = c.index-as_slice-net.result in
    subst (IsPassing c.args.self.now.lat.now c.args.self.now.via_cost c.args.board.now c.turn.new.board
    c.args.ends.now (c.loop-net.net + 1) c.turn.new.wide) (sym c.either-led.ensures)
    (turn_taken c.args.self.now.lat.now c.args.self.now.via_cost c.args.board.now c.loop-net.board c.turn.new.board
    c.in_ok-snap.snap c.args.ends.now c.loop-net.net cuts cuts c.loop-net.wide c.turn.new.wide c.loop-net.led
    c.in_ok-here.here
    (λ b kept net added found own are. c.others_change_nothing.ensures b.design b.items added net found kept.sound
    (serves_now b kept) own are)
    c.keeps-in-loop-net-2.ensures c.in_ok-snap.ensures (omega (arith, count, test)) (omega (arith, count, test, all))
    (c.index-as_slice-net.is ∙ ap (λ (xs : List (List Cut)). get_or xs c.loop-net.net cuts) c.as_slice.ensures)
    c.loop-net.invariant c.in_ok-here.ensures.turns)
