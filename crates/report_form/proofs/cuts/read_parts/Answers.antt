use Rattle.report_form.proofs.cuts.read_parts.Goals as goal

pub returns-in-Ok-clause-read : goal.returns-in-Ok-clause-read
returns-in-Ok-clause-read c = λ p h ns w cs k page at early.
    c.read_stretches.ensures.read p h ns w cs k page (c.in-Ok.ensures.read p h ns w cs k page at early)

pub returns-in-Err-clause-read : goal.returns-in-Err-clause-read
returns-in-Err-clause-read c = λ p h ns w cs k page at early. c.in-Err.ensures.read p h ns w cs k page at early
