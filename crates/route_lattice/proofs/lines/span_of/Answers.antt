use Rattle.std.proofs.Common.{◌≡◌, ℤ, pos, ◌<◌, ◌^◌, ◌+ℤ◌, ◌*ℤ◌, to_z, of_z, w64, unsigned_abs, subst, sym, ap, ◌∙◌}
use Rattle.std.proofs.Common.{arith}
use Rattle.std.proofs.lemmas.Int.{to_z-of_z, fits_signed_from_abs}
use Rattle.route_lattice.specs.Round.{floor_div, ceil_div}
use Rattle.route_lattice.specs.Spans.{IsSpan}
use Rattle.route_lattice.proofs.Spans.{span_is}
use Rattle.route_lattice.proofs.lines.span_of.Goals as goal

seen : (z : ℤ) → unsigned_abs z < 2 ^ 63 → to_z w64 (of_z w64 z) ≡ z
seen z h = to_z-of_z w64 z (fits_signed_from_abs w64 z h)

pub returns-clause-span : goal.returns-clause-span
returns-clause-span c =
    let r = c.args.r in let u = r.unit in let g = r.grid in let h = c.requires in
    let f = seen c.quotient_up-first.result (omega arith) ∙ c.quotient_up-first.ensures.value
    ∙ ap (λ z. ceil_div z g)
    (seen c.multiple_above.result (omega arith) ∙ c.multiple_above.ensures.value
    ∙ ap (λ z. (floor_div z u +ℤ pos 1) *ℤ pos u) (seen r.low (omega arith))) in
    let e = seen c.quotient_up-end.result (omega arith) ∙ c.quotient_up-end.ensures.value
    ∙ ap (λ z. ceil_div z g)
    (seen c.multiple_from.result (omega arith) ∙ c.multiple_from.ensures.value
    ∙ ap (λ z. ceil_div z u *ℤ pos u) (seen r.high (omega arith))) in
    subst (λ (p : ℤ × ℤ). IsSpan u g r.low r.high p.0 p.1) (λ i. (sym f i, sym e i))
    (span_is u g r.low r.high h.some_unit h.some_grid)
