use Rattle.std.proofs.Common.{ℕ, ◌≤◌, ◌^◌, ◌*◌, ap₂, mul-le-mul, arith}
use Rattle.plane_joins.proofs.lines.product.Goals as goal

small : (a b : ℕ) → a ≤ 2 ^ 31 → b ≤ 2 ^ 31 → a * b ≤ 2 ^ 62
small a b h k = omega (arith, mul-le-mul h k)

pub overflow_mul-result : goal.overflow_mul-result
overflow_mul-result c =
    let a : c.from.result ≤ 2 ^ 31 = omega (arith, c.from.ensures, c.requires.a_small) in
    let b : c.from-2.result ≤ 2 ^ 31 = omega (arith, c.from-2.ensures, c.requires.b_small) in
    let s = small c.from.result c.from-2.result a b in
    omega (arith, s)

pub returns-clause-value : goal.returns-clause-value
returns-clause-value c = ap₂ (λ (m n : ℕ). m * n) c.from.ensures c.from-2.ensures

pub returns-clause-small : goal.returns-clause-small
returns-clause-small c =
    let a : c.from.result ≤ 2 ^ 31 = omega (arith, c.from.ensures, c.requires.a_small) in
    let b : c.from-2.result ≤ 2 ^ 31 = omega (arith, c.from-2.ensures, c.requires.b_small) in
    small c.from.result c.from-2.result a b
