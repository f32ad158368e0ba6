use Rattle.std.proofs.Common.{◌-◌, length, arith}
use Rattle.std.proofs.lemmas.Bool.{both_ways}
use Rattle.report_form.proofs.Apart.{totals, no_total, total_apart, total_is}
use Rattle.report_form.proofs.nets.after_total.Goals as goal

pub returns-in_err-line : goal.returns-in_err-line
returns-in_err-line c = λ firsts ns kept. rw c.from_residual.ensures (λ r e.
    let t = totals firsts ns c.args.nets.now c.complete_count-complete.result kept (omega arith)
    c.complete_count-complete.ensures in
    no_total ns c.complete_count-complete.result (length c.args.nets.now - c.complete_count-complete.result) r
    c.args.text.now t c.in_err-line.ensures e)

pub returns-then-not-writes : goal.returns-then-not-writes
returns-then-not-writes c = λ firsts ns kept r e.
    let line = c.in_ok-line.line in
    let n = c.complete_count-complete.result in
    let t = totals firsts ns c.args.nets.now n kept (omega arith) c.complete_count-complete.ensures in
    both_ways c.writes.result c.if-not-writes.true (c.writes.ensures.1 (total_apart ns n
    (length c.args.nets.now - n) line.a.now line.b.now line.rest.now r c.args.text.now t c.in_ok-line.ensures e).first)

pub returns-then-not-writes-2 : goal.returns-then-not-writes-2
returns-then-not-writes-2 c = λ firsts ns kept r e.
    let line = c.in_ok-line.line in
    let n = c.complete_count-complete.result in
    let t = totals firsts ns c.args.nets.now n kept (omega arith) c.complete_count-complete.ensures in
    both_ways c.writes-2.result c.if-not-writes-2.true (c.writes-2.ensures.1 (total_apart ns n
    (length c.args.nets.now - n) line.a.now line.b.now line.rest.now r c.args.text.now t c.in_ok-line.ensures e).second)

pub returns : goal.returns
returns c = λ firsts ns kept.
    let line = c.in_ok-line.line in
    let n = c.complete_count-complete.result in
    let t = totals firsts ns c.args.nets.now n kept (omega arith) c.complete_count-complete.ensures in
    total_is ns n (length c.args.nets.now - n) line.a.now line.b.now line.rest.now c.args.text.now t
    c.in_ok-line.ensures (c.writes.ensures.0 c.if-not-writes.false) (c.writes-2.ensures.0 c.if-not-writes-2.false)
