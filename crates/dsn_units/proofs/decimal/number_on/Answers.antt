use Rattle.std.proofs.Common.{arith, ◌≤◌, ◌+◌, ◌*◌, ◌-◌, ◌∙◌, ap, sym, take}
use Rattle.dsn_units.specs.Spelling.{number_on}
use Rattle.std.proofs.lemmas.List.Sums.{fold_more}
use Rattle.dsn_units.proofs.Digits.{next_small, next_fits, digit_small}
use Rattle.dsn_units.proofs.decimal.number_on.Goals as goal

pub overflow_mul-number : goal.overflow_mul-number
overflow_mul-number c =
    omega (
      arith,
      next_fits c.loop-b.number 0 (c.args.before + c.loop-b.b-index) (omega arith) c.loop-b.invariant.1
          (omega arith),
    )

pub overflow_add-number : goal.overflow_add-number
overflow_add-number c =
    let d : c.from.result ≤ 9 =
    omega (
      arith,
      c.from.ensures,
      digit_small c.args.digits.now c.loop-b.b-index c.requires.all c.loop-b-test.true,
    ) in
    omega (
      arith,
      next_fits c.loop-b.number c.from.result (c.args.before + c.loop-b.b-index) (omega arith)
          c.loop-b.invariant.1 d,
    )

pub loop-b-preserved : goal.loop-b-preserved
loop-b-preserved c =
    let d : c.from.result ≤ 9 =
    omega (
      arith,
      c.from.ensures,
      digit_small c.args.digits.now c.loop-b.b-index c.requires.all c.loop-b-test.true,
    ) in (
      ap (λ n. 10 * n + c.from.result) c.loop-b.invariant.0
          ∙ ap (λ d. 10 * number_on c.args.start (take c.loop-b.b-index c.args.digits.now) + d) c.from.ensures
          ∙ sym (fold_more (λ n b. 10 * n + (b - 48)) c.args.start c.args.digits.now c.loop-b.b-index 0
          c.loop-b-test.true),
      next_small c.loop-b.number c.from.result (c.args.before + c.loop-b.b-index) _ (omega arith) c.loop-b.invariant.1
          d,
    )
