use Rattle.std.proofs.Common.{◌≡◌, ℕ, ℤ, ◌+◌, ◌-ℤ◌, ◌≤◌, ◌^◌, unsigned_abs, ap, ap₂, arith, ◌∙◌}
use Rattle.std.proofs.lemmas.Int.{ints}
use Rattle.geo_kernel.proofs.Bounds.{seen, unseen}
use Rattle.route_lattice.proofs.legal.way_between.Goals as goal

-- the code's difference of two coordinates is their difference
gap : (a b : ℤ) → unsigned_abs a ≤ 2 ^ 29 → unsigned_abs b ≤ 2 ^ 29 → seen (seen a -ℤ seen b) ≡ a -ℤ b
gap a b h k =
    ap₂ (λ y z. seen (y -ℤ z)) (unseen a (omega (arith, h))) (unseen b (omega (arith, k)))
    ∙ unseen (a -ℤ b) (omega (arith, ints, h, k))

-- and it is within twice their bound
short : (a b : ℤ) → unsigned_abs a ≤ 2 ^ 29 → unsigned_abs b ≤ 2 ^ 29 → unsigned_abs (a -ℤ b) ≤ 2 ^ 30
short a b h k = omega (arith, ints, h, k)

pub overflow_sub-q : goal.overflow_sub-q
overflow_sub-q c = omega (arith, ints, c.requires.q_within.0, c.requires.p_within.0)

pub overflow_sub-q-2 : goal.overflow_sub-q-2
overflow_sub-q-2 c = omega (arith, ints, c.requires.q_within.1, c.requires.p_within.1)

pub overflow_add-result : goal.overflow_add-result
overflow_add-result c =
    let x = ap unsigned_abs (gap c.args.q.x c.args.p.x c.requires.q_within.0 c.requires.p_within.0) in
    let y = ap unsigned_abs (gap c.args.q.y c.args.p.y c.requires.q_within.1 c.requires.p_within.1) in
    omega (
      arith,
      c.unsigned_abs.ensures.value ∙ x,
      c.unsigned_abs-2.ensures.value ∙ y,
      short c.args.q.x c.args.p.x c.requires.q_within.0 c.requires.p_within.0,
      short c.args.q.y c.args.p.y c.requires.q_within.1 c.requires.p_within.1,
    )

pub returns : goal.returns
returns c =
    let x = ap unsigned_abs (gap c.args.q.x c.args.p.x c.requires.q_within.0 c.requires.p_within.0) in
    let y = ap unsigned_abs (gap c.args.q.y c.args.p.y c.requires.q_within.1 c.requires.p_within.1) in
    ap₂ (λ (m n : ℕ). m + n) (c.unsigned_abs.ensures.value ∙ x) (c.unsigned_abs-2.ensures.value ∙ y)
