use Rattle.report_form.proofs.nets.read_open.Goals as goal

pub returns-in-Err : goal.returns-in-Err
returns-in-Err c = λ p h ns w page at so e own. c.in-Err.ensures p h ns w page at so e own
