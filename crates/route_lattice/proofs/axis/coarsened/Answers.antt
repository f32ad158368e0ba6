use Rattle.std.proofs.Common.{◌≡◌, ℤ, ◌<◌, ◌^◌, to_z, of_z, w64, unsigned_abs, subst, sym, arith}
use Rattle.std.proofs.lemmas.Int.{to_z-of_z, fits_signed_from_abs}
use Rattle.route_lattice.specs.Lines.{line_list}
use Rattle.route_lattice.proofs.Totals.{fine_lines}
use Rattle.route_lattice.proofs.axis.coarsened.Goals as goal

seen : (z : ℤ) → unsigned_abs z < 2 ^ 63 → to_z w64 (of_z w64 z) ≡ z
seen z h = to_z-of_z w64 z (fits_signed_from_abs w64 z h)

pub returns-then-r-clause-same : goal.returns-then-r-clause-same
returns-then-r-clause-same c = λ anchors.
    let r = c.args.r in
    let low = seen r.low (omega arith) in
    let high = seen r.high (omega arith) in
    subst (λ (p : ℤ × ℤ). line_list r.unit r.unit p.0 p.1 anchors ≡ line_list r.unit r.grid r.low r.high anchors)
    (λ i. (sym low i, sym high i))
    (fine_lines r.unit r.grid r.low r.high anchors c.requires.some_grid (omega arith))
