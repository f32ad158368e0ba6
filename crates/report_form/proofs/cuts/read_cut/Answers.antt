use Rattle.std.proofs.Common.{arith}
use Rattle.report_form.proofs.cuts.read_cut.Goals as goal

pub returns-in-Some-clause-read : goal.returns-in-Some-clause-read
returns-in-Some-clause-read c = λ p h ns w cs page before less so e.
    c.in-Some.ensures.read p h ns w cs c.in-Ok.field-0.cut page (c.in-Ok.ensures.read p h ns w cs page before less e) so

pub returns-in-Some-clause-shorter : goal.returns-in-Some-clause-shorter
returns-in-Some-clause-shorter c =
    let most = c.in-Ok.ensures.shorter in
    let last = c.in-Some.ensures.shorter in
    omega (arith, most, last)

pub returns-in-None-clause-read : goal.returns-in-None-clause-read
returns-in-None-clause-read c = λ p h ns w cs page before less so e.
    c.in-None.ensures.read p h ns w cs c.in-Ok.field-0.cut page (c.in-Ok.ensures.read p h ns w cs page before less e) so

pub returns-in-Err-clause-read : goal.returns-in-Err-clause-read
returns-in-Err-clause-read c = λ p h ns w cs page before less so e.
    c.in-Err.ensures.read p h ns w cs page before less e
