use Rattle.std.proofs.Common.{◌≡◌, ℤ, List, ◌++◌, subst, ◌∙◌}
use Rattle.std.specs.Prelude.{map}
use Rattle.std.specs.Int.{int_gap}
use Rattle.std.proofs.lemmas.Result.{IfOk-weaker}
use Rattle.route_lattice.specs.Lines.{line_list, up_from}
use Rattle.route_lattice.specs.Spans.{line_of, IsAscending}
use Rattle.route_lattice.proofs.Totals.{lines_are}
use Rattle.route_lattice.proofs.Close.{stays_close}
use Rattle.route_lattice.proofs.axis.axis_lines.Goals as goal

pub lines_of-requires-clause-near : goal.lines_of-requires-clause-near
lines_of-requires-clause-near c =
    let a = c.args.a.now in
    let fit = c.requires in
    stays_close a.ruler.unit a.ruler.grid a.ruler.low a.ruler.high a.span.first a.span.end fit.ruler_fits.some_unit
    fit.ruler_fits.short_unit fit.ruler_fits.low_within fit.ruler_fits.high_within fit.span

pub returns : goal.returns
returns c = λ r anchors w.
    let a = c.args.a.now in
    let fit = c.requires in
    let ls = map (line_of a.ruler.unit a.ruler.grid) (up_from a.span.first (int_gap a.span.first a.span.end)) in
    IfOk-weaker c.lines_of.result (λ xs. IsAscending (ls ++ c.as_slice.result.now) xs)
    (λ xs. xs ≡ line_list r.unit r.grid r.low r.high anchors)
    (λ xs h. lines_are a.ruler.unit a.ruler.grid a.ruler.low a.ruler.high anchors a.others w.beside a.span.first
    a.span.end fit.ruler_fits.some_unit fit.coarse fit.span xs
    (subst (λ (os : List ℤ). IsAscending (ls ++ os) xs) c.as_slice.ensures h) ∙ w.same) c.lines_of.ensures
