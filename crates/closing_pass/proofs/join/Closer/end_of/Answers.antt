use Rattle.std.proofs.Common.{◌∙◌, ◌≤◌, length, refl, subst, sym}
use Rattle.std.proofs.lemmas.Bool.{false≢true}
use Rattle.pcb_board.proofs.Standing.{serves_now}
use Rattle.closing_pass.specs.inner.Rounds.{EndsSettled}
use Rattle.closing_pass.proofs.Rounding.{closed_same, cuts_end, cuts_of, grows_same, helped_closed, helped_grows}
use Rattle.closing_pass.proofs.Rounding.{shut_on, whole_ends}
use Rattle.closing_pass.proofs.join.Closer.end_of.Goals as goal

pub islands_on-requires : goal.islands_on-requires
islands_on-requires c = c.requires.net

pub returns-in_err-found-clause-fewer : goal.returns-in_err-found-clause-fewer
returns-in_err-found-clause-fewer c = grows_same c.args.board.now c.args.board.now refl

pub returns-in_err-found-clause-closes : goal.returns-in_err-found-clause-closes
returns-in_err-found-clause-closes c = closed_same c.args.self.now.lat.now c.args.self.now.via_cost c.args.board.now
    c.args.board.now c.keeps.ensures refl

pub returns-then-is_whole-clause-turned : goal.returns-then-is_whole-clause-turned
returns-then-is_whole-clause-turned c =
    let m = c.args.self.now.lat.now in
    let cost = c.args.self.now.via_cost in
    let tries = c.args.self.now.tries in
    let net = c.args.net in
    let b = c.args.board.now in
    let found = c.in_ok-found.found in
    record {
      quiet = λ _. subst (EndsSettled m cost tries b net) (sym c.new.ensures)
          (whole_ends m cost tries net b found c.in_ok-found.ensures
          ((c.is_whole.ensures.complete b.design b.items net c.keeps.ensures.sound (serves_now b c.keeps.ensures)
          c.in_ok-found.ensures).0 c.if-is_whole.true));
    }

pub returns-then-is_whole-clause-fewer : goal.returns-then-is_whole-clause-fewer
returns-then-is_whole-clause-fewer c = grows_same c.args.board.now c.args.board.now refl

pub returns-then-is_whole-clause-closes : goal.returns-then-is_whole-clause-closes
returns-then-is_whole-clause-closes c = closed_same c.args.self.now.lat.now c.args.self.now.via_cost
    c.args.board.now c.args.board.now c.keeps.ensures refl

pub cuts_on-requires-clause-shut : goal.cuts_on-requires-clause-shut
cuts_on-requires-clause-shut c =
    let several : ¬ (length c.in_ok-found.found ≤ 1) = λ few. false≢true
    (sym c.if-is_whole.false ∙ c.is_whole.ensures.few.1 few) in
    shut_on c.args.self.now.lat.now c.args.self.now.via_cost c.args.self.now.tries c.args.net c.args.board.now
    c.in_ok-found.found c.keeps.ensures c.requires.ready.can c.requires.net c.in_ok-found.ensures c.requires.closed
    several

pub returns-in_err-cuts-clause-fewer : goal.returns-in_err-cuts-clause-fewer
returns-in_err-cuts-clause-fewer c = grows_same c.args.board.now c.args.board.now refl

pub returns-in_err-cuts-clause-closes : goal.returns-in_err-cuts-clause-closes
returns-in_err-cuts-clause-closes c = closed_same c.args.self.now.lat.now c.args.self.now.via_cost c.args.board.now
    c.args.board.now c.keeps.ensures refl

pub help-requires-clause-cuts : goal.help-requires-clause-cuts
help-requires-clause-cuts c =
    let several : ¬ (length c.in_ok-found.found ≤ 1) = λ few. false≢true
    (sym c.if-is_whole.false ∙ c.is_whole.ensures.few.1 few) in
    cuts_of c.args.self.now.lat.now c.args.self.now.via_cost c.args.self.now.tries c.args.net c.args.board.now
    c.in_ok-found.found c.in_ok-cuts.cuts c.keeps.ensures c.in_ok-found.ensures c.requires.closed several
    c.in_ok-cuts.ensures.cuts

pub returns-in-Ok-clause-turned : goal.returns-in-Ok-clause-turned
returns-in-Ok-clause-turned c =
    let several : ¬ (length c.in_ok-found.found ≤ 1) = λ few. false≢true
    (sym c.if-is_whole.false ∙ c.is_whole.ensures.few.1 few) in
    cuts_end c.args.self.now.lat.now c.args.self.now.via_cost c.args.self.now.tries c.args.net c.args.board.now
    c.help.new.board c.in_ok-cuts.cuts
    (cuts_of c.args.self.now.lat.now c.args.self.now.via_cost c.args.self.now.tries c.args.net c.args.board.now
    c.in_ok-found.found c.in_ok-cuts.cuts c.keeps.ensures c.in_ok-found.ensures c.requires.closed several
    c.in_ok-cuts.ensures.cuts) c.in-Ok.ensures.helped

pub returns-in-Ok-clause-fewer : goal.returns-in-Ok-clause-fewer
returns-in-Ok-clause-fewer c = helped_grows c.args.self.now.lat.now c.args.self.now.via_cost c.args.self.now.tries
    c.args.net c.args.board.now c.help.new.board c.in_ok-cuts.cuts c.in-Ok.ensures.helped

pub returns-in-Ok-clause-closes : goal.returns-in-Ok-clause-closes
returns-in-Ok-clause-closes c = helped_closed c.args.self.now.lat.now c.args.self.now.via_cost c.args.self.now.tries
    c.args.net c.args.board.now c.help.new.board c.in_ok-cuts.cuts c.keeps.ensures c.in-Ok.ensures.helped

pub returns-in-Err-clause-fewer : goal.returns-in-Err-clause-fewer
returns-in-Err-clause-fewer c = grows_same c.args.board.now c.help.new.board c.in-Err.ensures.err

pub returns-in-Err-clause-closes : goal.returns-in-Err-clause-closes
returns-in-Err-clause-closes c = closed_same c.args.self.now.lat.now c.args.self.now.via_cost c.args.board.now
    c.help.new.board c.keeps.ensures c.in-Err.ensures.err
