use Rattle.std.proofs.Common.{◌≡◌, ◌∙◌, ◌<◌, ◌^◌, ℕ, Some, ap, arith, subst, sym}
use Rattle.route_lattice.specs.Mesh.{node_count}
use Rattle.cut_certificate.proofs.Each.{unless}
use Rattle.report_form.specs.Reading.{node_total}
use Rattle.route_check.specs.Judged.{first_names}
use Rattle.route_check.proofs.Answering.{of_nets, told_other, verdict_answers}
use Rattle.route_check.proofs.judging.judge_read.Goals as goal

pub returns-then-not-tells : goal.returns-then-not-tells
returns-then-not-tells c = λ text read.
    let b = c.args.board.now in
    let d = b.d.now in
    let g = c.args.grid in
    let l = c.in-Ok.ensures.lattice in
    let count : c.count.result ≡ node_total d g = c.count.ensures.nodes ∙ ap node_count l.0 in
    told_other d b.items.now b.found.now text g c.args.nets.now read
    (λ t u. c.reports_say_one.ensures d (first_names d b.found.now) t u text)
    (λ told. unless c.tells.result (g.nodes ≡ Some c.from.result) c.tells.ensures c.if-not-tells.true
    (told ∙ ap Some (sym (c.from.ensures ∙ count)))) l.1
    (subst (λ (n : ℕ). n < 2 ^ 128) count (omega (arith, c.count.ensures.few)))

pub judge_on-requires-clause-nets : goal.judge_on-requires-clause-nets
judge_on-requires-clause-nets c =
    let b = c.args.board.now in of_nets b.d.now b.items.now b.found.now c.requires.board.islands

pub returns-in-Ok-judge_on : goal.returns-in-Ok-judge_on
returns-in-Ok-judge_on c = λ text read.
    let b = c.args.board.now in
    let d = b.d.now in
    let g = c.args.grid in
    let l = c.in-Ok.ensures.lattice in
    let count : c.count.result ≡ node_total d g = c.count.ensures.nodes ∙ ap node_count l.0 in
    verdict_answers d b.items.now b.found.now text g c.args.nets.now read c.in-Ok.lat l.0
    (c.tells.ensures.0 c.if-not-tells.false ∙ ap Some (c.from.ensures ∙ count)) l.1 c.in-Ok-judge_on.verdict
    c.in-Ok-judge_on.ensures
