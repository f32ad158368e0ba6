use Rattle.std.proofs.Common.{◌≤◌, ◌^◌, arith}
use Rattle.std.proofs.Math.Nat.{mul-le-mul_right}
use Rattle.dsn_units.proofs.Powers.{ten_power_le}
use Rattle.ses_reader.proofs.measure.cut_fraction.Goals as goal

pub pow-requires : goal.pow-requires
pow-requires c = omega (arith, ten_power_le c.min.result 27 (omega arith))

pub overflow_mul-result : goal.overflow_mul-result
overflow_mul-result c = omega (
  arith,
  mul-le-mul_right c.args.per
      (let h : c.pow.result ≤ 10 ^ 27 = omega (arith, c.pow.ensures, ten_power_le c.min.result 27 (omega arith)) in h),
)
