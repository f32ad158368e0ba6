use Rattle.std.proofs.Common.{arith, subst, ◌+◌, ◌*◌, ◌/◌, ◌%◌, ◌==◌}
use Rattle.std.proofs.lemmas.Nat.{mod_below}
use Rattle.dsn_units.specs.Halves.{IsHalves}
use Rattle.dsn_units.proofs.Powers.{ten_power_le, ten_power_pos, halves_none, halves_of}
use Rattle.dsn_units.proofs.fraction.cut.Goals as goal

pub returns-then-times-gt38 : goal.returns-then-times-gt38
returns-then-times-gt38 c = halves_none c.args.number c.args.times (omega arith) c.if-times-gt38.true

pub pow-base-requires : goal.pow-base-requires
pow-base-requires c = omega (arith, ten_power_le c.args.times 38 c.if-times-gt38.false)

pub nonzero_div-whole : goal.nonzero_div-whole
nonzero_div-whole c = omega (arith, ten_power_pos c.args.times)

pub nonzero_rem-rest : goal.nonzero_rem-rest
nonzero_rem-rest c = omega (arith, ten_power_pos c.args.times)

pub overflow_mul-rest : goal.overflow_mul-rest
overflow_mul-rest c =
    omega (
      arith,
      ten_power_le c.args.times 38 c.if-times-gt38.false,
      mod_below c.args.number c.pow-base.result (omega (arith, ten_power_pos c.args.times)),
    )

pub nonzero_div-result : goal.nonzero_div-result
nonzero_div-result c = omega (arith, ten_power_pos c.args.times)

pub nonzero_rem-result : goal.nonzero_rem-result
nonzero_rem-result c = omega (arith, ten_power_pos c.args.times)

pub returns : goal.returns
returns c = subst
    (λ p. IsHalves c.args.number p
    (2 * (c.args.number / c.pow-base.result) + 2 * (c.args.number % c.pow-base.result) / c.pow-base.result)
    (2 * (c.args.number % c.pow-base.result) % c.pow-base.result == 0)) c.pow-base.ensures
    (halves_of c.args.number c.pow-base.result (omega (arith, ten_power_pos c.args.times)) c.if-whole-gt-FAR.false)
