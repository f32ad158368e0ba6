use Rattle.std.proofs.Common.{◌≡◌, ℕ, List, length, refl, sym, subst}
use Rattle.pcb_model.specs.declared.design.Design.{Design}
use Rattle.report_form.specs.Form.{joined}
use Rattle.report_form.specs.declared.cuts.Halt.{Halt}
use Rattle.report_form.specs.inner.Halts.{IsHalted}
use Rattle.report_form.specs.inner.State.{Page, Sized, IsPage, gridded, so_far}
use Rattle.report_form.proofs.Whole.{early, misread, read, rest_within}
use Rattle.report_form.proofs.report.read_report.Goals as goal

-- the text that is read
sheet : Design → List (List (List ℕ)) → List ℕ → Page
sheet d firsts text = record { design = d; firsts = firsts; text = text }

is_page : (d : Design) (firsts : List (List (List ℕ))) (text : List ℕ) → length firsts ≡ length d.nets
    → IsPage (sheet d firsts text)
unfolding sheet
is_page d firsts text same = record { same = same }

pub line_at-requires : goal.line_at-requires
unfolding sheet
line_at-requires c =
    let p = sheet c.args.d.now c.args.firsts.now c.args.text.now in
    let stop = c.in-Err.ensures p (is_page c.args.d.now c.args.firsts.now c.args.text.now c.requires) refl refl in
    rest_within p stop.state c.in-Err.stop.now stop.at

pub returns-in-Err : goal.returns-in-Err
unfolding sheet
returns-in-Err c =
    let p = sheet c.args.d.now c.args.firsts.now c.args.text.now in
    let page = is_page c.args.d.now c.args.firsts.now c.args.text.now c.requires in
    let stop = c.in-Err.ensures p page refl refl in
    early p c.in-Err.stop.now c.line_at.result page stop
    (c.line_at.ensures (joined (so_far p.design stop.state)) stop.at.is)

pub capped-requires : goal.capped-requires
unfolding sheet
capped-requires c =
    let p = sheet c.args.d.now c.args.firsts.now c.args.text.now in
    (c.in-Ok.ensures p (is_page c.args.d.now c.args.firsts.now c.args.text.now c.requires) refl refl).number

pub exact-requires : goal.exact-requires
unfolding sheet
exact-requires c =
    let p = sheet c.args.d.now c.args.firsts.now c.args.text.now in
    (c.in-Ok.ensures p (is_page c.args.d.now c.args.firsts.now c.args.text.now c.requires) refl refl).nodes_number

pub line_at-requires-2 : goal.line_at-requires-2
unfolding sheet
line_at-requires-2 c =
    let p = sheet c.args.d.now c.args.firsts.now c.args.text.now in
    let head = c.in-Ok.ensures p (is_page c.args.d.now c.args.firsts.now c.args.text.now c.requires) refl refl in
    rest_within p Sized c.in-Ok.head.before.now head.sized

pub line_at-requires-in-Err-Stop : goal.line_at-requires-in-Err-Stop
unfolding sheet
line_at-requires-in-Err-Stop c =
    let p = sheet c.args.d.now c.args.firsts.now c.args.text.now in
    let line = c.in-Ok.head in
    let head = c.in-Ok.ensures p (is_page c.args.d.now c.args.firsts.now c.args.text.now c.requires) refl refl in
    let stop = subst (λ (x : Halt). IsHalted p x) c.in-Err-Stop.field-0-is
    (c.in-Err-Stop.ensures p (gridded line.grid.now line.nodes.now) refl (sym c.as_slice.ensures) head.at) in
    rest_within p stop.state c.in-Err-Stop.stop.now stop.at

pub returns-in-Ok-read_rest : goal.returns-in-Ok-read_rest
unfolding sheet
returns-in-Ok-read_rest c =
    let p = sheet c.args.d.now c.args.firsts.now c.args.text.now in
    let page = is_page c.args.d.now c.args.firsts.now c.args.text.now c.requires in
    let line = c.in-Ok.head in
    let head = c.in-Ok.ensures p page refl refl in
    read p line.before.now line.grid.now line.nodes.now line.rest.now (record {
      grid = c.capped.result;
      nodes = c.exact.result;
      line = c.line_at-2.result;
    }) c.in-Ok-read_rest.nets page head (record {
      grid_is = c.capped.ensures;
      nodes_is = c.exact.ensures;
      line_is = c.line_at-2.ensures (joined (so_far p.design Sized)) head.sized.is;
    }) (c.in-Ok-read_rest.ensures p (gridded line.grid.now line.nodes.now) refl (sym c.as_slice.ensures) head.at)

pub returns-in-Err-Stop : goal.returns-in-Err-Stop
unfolding sheet
returns-in-Err-Stop c =
    let p = sheet c.args.d.now c.args.firsts.now c.args.text.now in
    let page = is_page c.args.d.now c.args.firsts.now c.args.text.now c.requires in
    let line = c.in-Ok.head in
    let head = c.in-Ok.ensures p page refl refl in
    let stop = subst (λ (x : Halt). IsHalted p x) c.in-Err-Stop.field-0-is
    (c.in-Err-Stop.ensures p (gridded line.grid.now line.nodes.now) refl (sym c.as_slice.ensures) head.at) in
    misread p line.before.now line.grid.now line.nodes.now line.rest.now c.in-Err-Stop.stop.now (record {
      grid = c.capped.result;
      nodes = c.exact.result;
      line = c.line_at-2.result;
    }) c.line_at-in-Err-Stop.result page head (record {
      grid_is = c.capped.ensures;
      nodes_is = c.exact.ensures;
      line_is = c.line_at-2.ensures (joined (so_far p.design Sized)) head.sized.is;
    }) stop (c.line_at-in-Err-Stop.ensures (joined (so_far p.design stop.state)) stop.at.is)
