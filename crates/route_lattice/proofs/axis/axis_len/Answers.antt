use Rattle.std.proofs.Common.{◌+◌, ℕ, ℤ, List, length, ap, ap₂, sym, ◌∙◌}
use Rattle.route_lattice.proofs.Totals.{line_count}
use Rattle.route_lattice.proofs.axis.axis_len.Goals as goal

pub returns-clause-value : goal.returns-clause-value
returns-clause-value c = λ r anchors w.
    let a = c.args.a.now in
    let fit = c.requires in
    ap₂ (λ (m n : ℕ). m + n) c.span_len.ensures.value c.len.ensures
    ∙ sym (line_count a.ruler.unit a.ruler.grid a.ruler.low a.ruler.high anchors a.others w.beside a.span.first
    a.span.end fit.ruler_fits.some_unit fit.coarse fit.span) ∙ ap (λ (xs : List ℤ). length xs) w.same
