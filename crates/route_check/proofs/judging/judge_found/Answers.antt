use Rattle.std.proofs.Common.{◌∙◌, ℕ, List, ap, length, subst, sym}
use Rattle.report_form.specs.declared.reading.ReadCut.{ReadCut}
use Rattle.report_form.specs.declared.reading.Reading.TheVariants.{OutOfPlace}
use Rattle.report_form.specs.Reading.{IsRead, Reads}
use Rattle.route_check.specs.Judged.{first_names}
use Rattle.route_check.proofs.Answering.{out_answers}
use Rattle.route_check.proofs.Netting.{found_long, nets_long}
use Rattle.route_check.proofs.judging.judge_found.Goals as goal

pub judge_read-requires-clause-same : goal.judge_read-requires-clause-same
judge_read-requires-clause-same c =
    let d = c.args.board.now.d.now in
    let found = c.args.board.now.found.now in
    let nets = c.in-Read.nets in
    let read : IsRead d (first_names d found) c.args.report.now c.in-Read.grid nets =
    subst (λ (firsts : List (List (List ℕ))). IsRead d firsts c.args.report.now c.in-Read.grid nets)
    c.in_ok-names.ensures (subst (Reads d c.in_ok-names.names c.args.report.now) c.in-Read.is c.in_ok-grid.ensures) in
    found_long d found read.told nets read.nets read.is.nets
    ∙ nets_long (first_names d found) read.told.nets nets read.nets ∙ ap length (sym c.as_slice.ensures)

pub returns-in-Read : goal.returns-in-Read
returns-in-Read c =
    let d = c.args.board.now.d.now in
    let found = c.args.board.now.found.now in
    let text = c.args.report.now in
    let g = c.in-Read.grid in
    let read : IsRead d (first_names d found) text g c.in-Read.nets =
    subst (λ (firsts : List (List (List ℕ))). IsRead d firsts text g c.in-Read.nets) c.in_ok-names.ensures
    (subst (Reads d c.in_ok-names.names text) c.in-Read.is c.in_ok-grid.ensures) in
    c.judge_read.ensures text
    (subst (λ (ks : List (List ReadCut)). IsRead d (first_names d found) text g ks) (sym c.as_slice.ensures) read)

pub returns : goal.returns
returns c =
    let d = c.args.board.now.d.now in
    let found = c.args.board.now.found.now in
    let text = c.args.report.now in
    let out = c.in-OutOfPlace in
    let h : Reads d (first_names d found) text (OutOfPlace out.line out.passed) =
    subst (λ (firsts : List (List (List ℕ))). Reads d firsts text (OutOfPlace out.line out.passed))
    c.in_ok-names.ensures (subst (Reads d c.in_ok-names.names text) out.is c.in_ok-grid.ensures) in
    out_answers d c.args.board.now.items.now found text c.in_ok-true_line-in-OutOfPlace.field-0 out.line h.0
    (c.in_ok-true_line-in-OutOfPlace.ensures (first_names d found) text h.1)
