use Rattle.std.proofs.Common.{refl, subst, sym}
use Rattle.closing_pass.specs.Closing.{CanClose}
use Rattle.wide_pass.proofs.Rounding.{back_closed, back_grown, rounded_once}
use Rattle.wide_pass.proofs.join.WideCloser.round.Goals as goal

pub returns-in-Err-clause-back : goal.returns-in-Err-clause-back
returns-in-Err-clause-back c =
    back_closed c.args.self.now.lat.now c.args.self.now.via_cost c.args.board c.in-Err.back.board c.in-Err.ensures.back

pub pass-requires-clause-can : goal.pass-requires-clause-can
pass-requires-clause-can c =
    subst (CanClose c.args.self.now.lat.now c.args.self.now.via_cost) (sym c.in-Ok.ensures.ok.closes.design_stays)
    c.requires

pub pass-requires-clause-ends : goal.pass-requires-clause-ends
pass-requires-clause-ends c = c.in-Ok.ensures.ok.ends

pub returns-in-Ok-pass-clause-ok : goal.returns-in-Ok-pass-clause-ok
returns-in-Ok-pass-clause-ok c =
    rounded_once c.args.self.now.lat.now c.args.self.now.via_cost c.args.self.now.tries c.args.board c.in-Ok.closed _
    c.keeps-2.ensures c.keeps-in-Ok-pass.ensures c.in-Ok.ensures.ok refl c.in-Ok-pass.ensures.looked

pub returns-in-Err-pass-clause-back : goal.returns-in-Err-pass-clause-back
returns-in-Err-pass-clause-back c =
    back_grown c.args.self.now.lat.now c.args.self.now.via_cost c.args.board c.in-Ok.closed.board c.pass.new.board
    c.keeps-2.ensures (record { closes = c.in-Ok.ensures.ok.closes; fewer = c.in-Ok.ensures.ok.fewer })
    c.pass.ensures.grown
