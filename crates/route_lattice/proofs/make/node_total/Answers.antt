use Rattle.std.proofs.Common.{ℕ, ◌≤◌, ◌^◌, ◌*◌, length, sym, ap, ap₂, ◌∙◌, mul-le-mul, arith}
use Rattle.route_lattice.specs.Parts.{across_ruler, up_ruler}
use Rattle.route_lattice.proofs.make.node_total.Goals as goal

-- so many layers of so many lines
level_small : (a b : ℕ) → a ≤ 32 → b ≤ 2 ^ 34 → a * b ≤ 2 ^ 39
level_small a b h k = omega (arith, mul-le-mul h k)

pub overflow_mul-result : goal.overflow_mul-result
overflow_mul-result c =
    let few : c.len.result ≤ 32 = omega (arith, c.len.ensures, c.requires.layers) in
    let high : c.from.result ≤ 2 ^ 34 = omega (arith, c.from.ensures, c.axis_len-height.ensures.small) in
    omega (arith, level_small c.len.result c.from.result few high)

pub overflow_mul-result-2 : goal.overflow_mul-result-2
overflow_mul-result-2 c =
    let few : c.len.result ≤ 32 = omega (arith, c.len.ensures, c.requires.layers) in
    let high : c.from.result ≤ 2 ^ 34 = omega (arith, c.from.ensures, c.axis_len-height.ensures.small) in
    let wide : c.from-2.result ≤ 2 ^ 34 = omega (arith, c.from-2.ensures, c.axis_len-width.ensures.small) in
    omega (arith, mul-le-mul (level_small c.len.result c.from.result few high) wide)

pub returns : goal.returns
returns c = λ p grid layers axes.
    ap₂ (λ (m n : ℕ). m * n)
    (ap₂ (λ (m n : ℕ). m * n) (c.len.ensures ∙ ap length (sym layers))
    (c.from.ensures ∙ c.axis_len-height.ensures.value (up_ruler p grid) p.up axes.up))
    (c.from-2.ensures ∙ c.axis_len-width.ensures.value (across_ruler p grid) p.across axes.across)
