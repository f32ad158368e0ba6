use Rattle.std.proofs.Common.{◌≡◌, ℕ, List, length, get_or, sym, ap, ◌∙◌, subst, arith}
use Rattle.pcb_model.specs.declared.design.Design.{Design}
use Rattle.report_form.specs.inner.Halts.{NetsRead}
use Rattle.report_form.proofs.Loops.{each_start, here_from, page_of}
use Rattle.report_form.proofs.nets.read_each.Goals as goal

pub loop-i-init : goal.loop-i-init
loop-i-init c = λ p h e f at. each_start p h c.args.nets.now c.args.text.now c.requires.empty at

pub loop-i-preserved : goal.loop-i-preserved
loop-i-preserved c = λ p h e f at.
    c.in-Ok.ensures p h c.loop-i.i (page_of p c.args.d.now c.args.firsts.now e f c.requires.same)
    (c.loop-i.invariant p h e f at)
    (here_from p c.args.d.now c.args.firsts.now c.as_slice-net-items.result.now c.loop-i.i c.net-item.result
    c.as_slice.result.now e f c.as_slice-net-items.ensures c.loop-i-test.true c.net-item.is c.requires.same
    (c.as_slice.ensures ∙ c.index-firsts-i.is
    ∙ ap (λ (x : List (List ℕ)). get_or c.args.firsts.now c.loop-i.i x) (sym c.as_slice.ensures)))

pub returns-in-Err : goal.returns-in-Err
returns-in-Err c = λ p h e f at.
    c.in-Err.ensures p h c.loop-i.i (page_of p c.args.d.now c.args.firsts.now e f c.requires.same)
    (c.loop-i.invariant p h e f at)
    (here_from p c.args.d.now c.args.firsts.now c.as_slice-net-items.result.now c.loop-i.i c.net-item.result
    c.as_slice.result.now e f c.as_slice-net-items.ensures c.loop-i-test.true c.net-item.is c.requires.same
    (c.as_slice.ensures ∙ c.index-firsts-i.is
    ∙ ap (λ (x : List (List ℕ)). get_or c.args.firsts.now c.loop-i.i x) (sym c.as_slice.ensures)))

pub returns : goal.returns
returns c = λ p h e f at.
    let all : c.loop-i.i ≡ length c.as_slice-net-items.result.now = omega arith in
    let many : length p.design.nets ≡ c.loop-i.i =
    ap (λ (x : Design). length x.nets) e ∙ ap length (sym c.as_slice-net-items.ensures) ∙ sym all in
    subst (λ (n : ℕ). NetsRead p h n c.loop-i.nets c.loop-i.at.told c.loop-i.at.rest.now) (sym many)
    (c.loop-i.invariant p h e f at)
