use Rattle.std.proofs.Common.{◌≡◌, rules, arith}
use Rattle.std.proofs.lemmas.Int.{ints}
use Rattle.geo_kernel.proofs.Bounds.{seen, seen_gaps}
use Rattle.geo_kernel.proofs.Segments.{first_says, second_says}
use Rattle.geo_kernel.proofs.rect.are_beyond.Goals as goal

pub returns-then-beyond_along : goal.returns-then-beyond_along
returns-then-beyond_along c =
    let a0 : seen c.args.a.x0 ≡ c.args.a.x0 = search rules in
    let a1 : seen c.args.a.x1 ≡ c.args.a.x1 = omega (arith, ints) in
    let b0 : seen c.args.b.x0 ≡ c.args.b.x0 = search rules in
    let b1 : seen c.args.b.x1 ≡ c.args.b.x1 = search rules in
    first_says c.beyond_along.result
    (seen_gaps _ _ _ _ c.args.k c.beyond_along.result a0 a1 b0 b1 c.beyond_along.ensures) c.if-beyond_along.true

pub returns-else-beyond_along : goal.returns-else-beyond_along
returns-else-beyond_along c =
    let a0 : seen c.args.a.x0 ≡ c.args.a.x0 = search rules in
    let a1 : seen c.args.a.x1 ≡ c.args.a.x1 = omega (arith, ints) in
    let b0 : seen c.args.b.x0 ≡ c.args.b.x0 = search rules in
    let b1 : seen c.args.b.x1 ≡ c.args.b.x1 = search rules in
    let a2 : seen c.args.a.y0 ≡ c.args.a.y0 = search rules in
    let a3 : seen c.args.a.y1 ≡ c.args.a.y1 = search rules in
    let b2 : seen c.args.b.y0 ≡ c.args.b.y0 = search rules in
    let b3 : seen c.args.b.y1 ≡ c.args.b.y1 = search rules in
    second_says c.beyond_along.result c.beyond_along-else-beyond_along.result
    (seen_gaps _ _ _ _ c.args.k c.beyond_along.result a0 a1 b0 b1 c.beyond_along.ensures) c.if-beyond_along.false
    (seen_gaps _ _ _ _ c.args.k c.beyond_along-else-beyond_along.result a2 a3 b2 b3
    c.beyond_along-else-beyond_along.ensures)
