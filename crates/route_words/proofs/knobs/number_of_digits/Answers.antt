use Rattle.std.proofs.Common.{◌≤◌, ◌^◌, arith, lit<}
use Rattle.std.proofs.Math.Nat.{pow-le-pow_right}
use Rattle.route_words.proofs.knobs.number_of_digits.Goals as goal

-- at most six digits stand before another
pub overflow_mul-value : goal.overflow_mul-value
overflow_mul-value c =
    let few : c.loop-d.d-index ≤ 6 = omega arith in
    let bound : 10 ^ c.loop-d.d-index ≤ 10 ^ 6 = pow-le-pow_right {n = 10} (lit< tt) {i = c.loop-d.d-index} {j =
    6} few in
    omega arith

pub overflow_add-value : goal.overflow_add-value
overflow_add-value c =
    let few : c.loop-d.d-index ≤ 6 = omega arith in
    let bound : 10 ^ c.loop-d.d-index ≤ 10 ^ 6 = pow-le-pow_right {n = 10} (lit< tt) {i = c.loop-d.d-index} {j =
    6} few in
    omega arith
