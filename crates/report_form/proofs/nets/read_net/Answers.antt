use Rattle.std.proofs.Common.{◌+◌, ◌++◌, ◌∷◌, ◌∙◌, [], ℕ, List, Some, ap, sym, subst}
use Rattle.report_form.specs.declared.nets.NetLine.{NetLine}
use Rattle.report_form.specs.declared.reading.ReadCut.{ReadCut}
use Rattle.report_form.specs.inner.Halts.{IsNetLine, NetsRead}
use Rattle.report_form.specs.inner.State.{At, Opened}
use Rattle.report_form.proofs.Loops.{net_unreadable, net_whole, open_says}
use Rattle.report_form.proofs.nets.read_net.Goals as goal

pub returns-in_ok-push-in-Some-Complete : goal.returns-in_ok-push-in-Some-Complete
returns-in_ok-push-in-Some-Complete c = λ p h count page read here.
    subst (λ (r : List ℕ). NetsRead p h (count + 1) c.push.new.values c.args.at.told r)
    (sym (ap (λ r. r.now) c.in-Some-Complete.next-is))
    (subst (λ (l : List (List ReadCut)). NetsRead p h (count + 1) l c.args.at.told c.in-Some-Complete.next.now)
    (sym c.in_ok-push-in-Some-Complete.ensures)
    (subst (λ (k : List ReadCut). NetsRead p h (count + 1) (c.args.nets.now ++ k ∷ []) c.args.at.told
    c.in-Some-Complete.next.now)
    (sym c.new.ensures) (net_whole p h count c.args.net.now c.args.firsts.now c.args.nets.now c.args.at.told
    c.args.at.rest.now c.in-Some-Complete.next.now page read here
    (subst (λ (l : NetLine). IsNetLine c.args.net.now.name c.args.at.rest.now (Some l)) c.in-Some-Complete.field-0-is
    c.in-Some-Complete.ensures))))

pub returns-in-Some-Open : goal.returns-in-Some-Open
returns-in-Some-Open c = λ p h count page read here.
    open_says p h count c.in-Some-Open.islands c.args.net.now c.args.firsts.now c.args.nets.now c.read_open.new.nets
    c.args.at.told c.args.at.rest.now c.in-Some-Open.next.now c.read_open.result page read here
    (subst (λ (l : NetLine). IsNetLine c.args.net.now.name c.args.at.rest.now (Some l)) c.in-Some-Open.field-0-is
    c.in-Some-Open.ensures) (λ ns w at so e own. c.read_open.ensures p h ns w page
    (subst (At p (Opened h ns w)) (sym (ap (λ r. r.now) c.in-Some-Open.next-is)) at) so
    (c.in-Some-Open.islands-is ∙ e) own)

pub returns-in-None : goal.returns-in-None
returns-in-None c = λ p h count page read here.
    net_unreadable p h count c.args.net.now c.args.firsts.now c.args.nets.now c.args.at.told c.args.at.rest.now read
    here
    c.in-None.ensures
