use Rattle.std.proofs.Common.{ap, arith}
use Rattle.report_form.specs.Form.{value}
use Rattle.report_form.proofs.Apart.{grid_apart}
use Rattle.report_form.proofs.head.grid_line.Goals as goal

pub returns-then-grid-lt1000 : goal.returns-then-grid-lt1000
returns-then-grid-lt1000 c = λ g n r h.
    let line = c.in_ok-line.line in
    let same = ap value (grid_apart line.a.now line.b.now line.rest.now g n r c.args.text.now c.in_ok-line.ensures h) in
    omega (arith, same, c.capped-grid.ensures, c.if-grid-lt1000.true, h.good.grid_from)

pub returns-then-grid-gt409600000 : goal.returns-then-grid-gt409600000
returns-then-grid-gt409600000 c = λ g n r h.
    let line = c.in_ok-line.line in
    let same = ap value (grid_apart line.a.now line.b.now line.rest.now g n r c.args.text.now c.in_ok-line.ensures h) in
    omega (arith, same, c.capped-grid.ensures, c.if-grid-gt409600000.true, h.good.grid_to)
