use Rattle.std.proofs.Common.{◌≡◌, ◌∙◌, List, Option, Some, ap, arith, length, refl, subst, sym}
use Rattle.std.specs.Prelude.{slice_get}
use Rattle.std.proofs.lemmas.Option.{slice_get-get_or}
use Rattle.pcb_islands.specs.declared.net.Island.{Island}
use Rattle.cut_certificate.specs.declared.cut.Cut.{Cut}
use Rattle.pcb_board.specs.Boards.{BoardOf}
use Rattle.closing_pass.specs.inner.Steps.{AreReady}
use Rattle.closing_pass.specs.inner.Trials.{after_trial}
use Rattle.closing_pass.specs.inner.Tries.{AnswersAt, AreShutOn, HasCutAt}
use Rattle.closing_pass.proofs.Helpless.{below_all, below_more, below_none}
use Rattle.closing_pass.proofs.join.Closer.help_net.Goals as goal

pub loop-place-init : goal.loop-place-init
loop-place-init c = record {
  found = refl;
  settled = below_none c.args.self.now.lat.now c.args.self.now.via_cost c.args.self.now.tries c.args.board.now
      c.args.found c.args.cuts.now;
  ready = c.requires.ready;
}

pub bounds-as_slice-place : goal.bounds-as_slice-place
bounds-as_slice-place c =
    let count = c.len-place-end.ensures in
    let test = c.loop-place-test.true in
    let cuts = ap (λ (xs : List Cut). length xs) c.as_slice.ensures in
    omega (arith, count, test, cuts, c.requires.cuts.all)

pub help_at-requires-clause-ready : goal.help_at-requires-clause-ready
help_at-requires-clause-ready c = c.loop-place.invariant.ready

pub help_at-requires-clause-shut : goal.help_at-requires-clause-shut
help_at-requires-clause-shut c =
    subst (AreShutOn c.args.self.now.lat.now c.args.self.now.via_cost c.args.board.now)
    (sym c.loop-place.invariant.found) c.requires.shut

pub help_at-requires-clause-place : goal.help_at-requires-clause-place
help_at-requires-clause-place c =
    let count = c.len-place-end.ensures in
    let test = c.loop-place-test.true in
    let found = ap (λ (xs : List Island). length xs) c.loop-place.invariant.found in
    omega (arith, count, test, found)

pub help_at-requires-clause-cut : goal.help_at-requires-clause-cut
help_at-requires-clause-cut c =
    let b = c.args.board.now in
    let place = c.loop-place.place in
    let cut = c.index-as_slice-place.result in
    let count = c.len-place-end.ensures in
    let test = c.loop-place-test.true in
    let cuts = ap (λ (xs : List Cut). length xs) c.as_slice.ensures in
    let at : slice_get c.args.cuts.now place ≡ Some cut =
    ap (λ (xs : List Cut). slice_get xs place) (sym c.as_slice.ensures)
    ∙ slice_get-get_or c.as_slice.result.now place cut (omega (arith, count, test, cuts, c.requires.cuts.all))
    ∙ ap (λ (x : Cut). Some x) (sym c.index-as_slice-place.is) in
    subst (λ (found : List Island). HasCutAt c.args.self.now.lat.now c.args.self.now.via_cost b found place cut)
    (sym c.loop-place.invariant.found) (λ island there. c.requires.cuts.each place island cut there at)

pub returns-in-Some-clause-answers : goal.returns-in-Some-clause-answers
returns-in-Some-clause-answers c =
    subst (λ (r : Option BoardOf). AnswersAt c.args.self.now.lat.now c.args.self.now.via_cost c.args.self.now.tries
    c.args.board.now c.loop-place.found c.loop-place.place c.index-as_slice-place.result r) c.in-Some.is
    c.in_ok-same.ensures.answers

pub returns-in-Some-clause-ready : goal.returns-in-Some-clause-ready
returns-in-Some-clause-ready c =
    subst (λ (r : Option BoardOf). AreReady c.args.self.now.lat.now c.args.self.now.via_cost
    (after_trial c.args.board.now r) c.help_at.new.state) c.in-Some.is c.in_ok-same.ensures.ready

pub loop-place-preserved : goal.loop-place-preserved
loop-place-preserved c =
    let m = c.args.self.now.lat.now in
    let cost = c.args.self.now.via_cost in
    let tries = c.args.self.now.tries in
    let b = c.args.board.now in
    let place = c.loop-place.place in
    let cut = c.index-as_slice-place.result in
    let count = c.len-place-end.ensures in
    let test = c.loop-place-test.true in
    let cuts = ap (λ (xs : List Cut). length xs) c.as_slice.ensures in
    let at : slice_get c.args.cuts.now place ≡ Some cut =
    ap (λ (xs : List Cut). slice_get xs place) (sym c.as_slice.ensures)
    ∙ slice_get-get_or c.as_slice.result.now place cut (omega (arith, count, test, cuts, c.requires.cuts.all))
    ∙ ap (λ (x : Cut). Some x) (sym c.index-as_slice-place.is) in
    record {
      found = c.in_ok-same.ensures.found ∙ c.loop-place.invariant.found;
      settled = below_more m cost tries b c.args.found c.args.cuts.now place cut at c.loop-place.invariant.settled
          (subst (λ (y : List Island × Option BoardOf). AnswersAt m cost tries b y.0 place cut y.1)
          (λ i. (c.loop-place.invariant.found i, c.in-None.is i)) c.in_ok-same.ensures.answers);
      ready = subst (λ (r : Option BoardOf). AreReady m cost (after_trial b r) c.help_at.new.state) c.in-None.is
          c.in_ok-same.ensures.ready;
    }

pub returns-clause-answers : goal.returns-clause-answers
returns-clause-answers c =
    let count = c.len-place-end.ensures in
    let test = c.loop-place-test.false in
    below_all c.args.self.now.lat.now c.args.self.now.via_cost c.args.self.now.tries c.args.board.now c.args.found
    c.args.cuts.now c.loop-place.place (omega (arith, count, test)) c.loop-place.invariant.settled

pub returns-clause-ready : goal.returns-clause-ready
returns-clause-ready c = c.loop-place.invariant.ready
