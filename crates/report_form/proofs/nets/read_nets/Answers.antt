use Rattle.std.proofs.Common.{List, length, sym, subst}
use Rattle.report_form.specs.declared.reading.ReadCut.{ReadCut}
use Rattle.report_form.specs.inner.Halts.{NetsRead, WholeRead}
use Rattle.report_form.proofs.Loops.{page_of}
use Rattle.report_form.proofs.nets.read_nets.Goals as goal

pub returns-in-Ok-ends : goal.returns-in-Ok-ends
returns-in-Ok-ends c = λ p h e f at.
    subst (λ (ks : List (List ReadCut)). WholeRead p ks) c.as_slice.ensures
    (c.in-Ok-ends.ensures p h c.in-Ok.at.told (page_of p c.args.d.now c.args.firsts.now e f c.requires.same)
    (subst (λ (ks : List (List ReadCut)). NetsRead p h (length p.design.nets) ks c.in-Ok.at.told
    c.in-Ok.at.rest.now)
    (sym c.as_slice.ensures) (c.in-Ok.ensures p h e f at)))

pub returns-in-Err-ends : goal.returns-in-Err-ends
returns-in-Err-ends c = λ p h e f at.
    c.in-Err-ends.ensures p h c.in-Ok.at.told (page_of p c.args.d.now c.args.firsts.now e f c.requires.same)
    (subst (λ (ks : List (List ReadCut)). NetsRead p h (length p.design.nets) ks c.in-Ok.at.told
    c.in-Ok.at.rest.now)
    (sym c.as_slice.ensures) (c.in-Ok.ensures p h e f at))

pub returns-in-Err : goal.returns-in-Err
returns-in-Err c = λ p h e f at. c.in-Err.ensures p h e f at
