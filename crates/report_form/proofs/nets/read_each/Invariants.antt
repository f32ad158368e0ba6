use Rattle.std.proofs.Common.{◌≡◌, []}
use Rattle.report_form.specs.Form.{Told}
use Rattle.report_form.specs.inner.Halts.{NetsRead}
use Rattle.report_form.specs.inner.State.{At, Netting, Page}
use Rattle.report_form.proofs.nets.read_each.Given as goal

abbrev pub invariant-loop-i : goal.invariant-loop-i
invariant-loop-i l = (p : Page) (h : Told) → p.design ≡ l.d → p.firsts ≡ l.firsts → At p (Netting h []) l.fn.text
    → NetsRead p h l.i l.nets l.at.told l.at.rest.now
