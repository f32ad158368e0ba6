use Rattle.std.proofs.Common.{arith, ap, sym, ◌+◌, ◌*◌, ◌∙◌, w64, SFits, to_z, rules}
use Rattle.std.specs.Prelude.{unsigned_abs}
use Rattle.std.proofs.Math.Nat.{div-le_self}
use Rattle.std.proofs.lemmas.Int.{to_z-of_z}
use Rattle.dsn_units.proofs.Turns.{first_term, term_more, no_terms, sum_more, sum_small}
use Rattle.dsn_units.proofs.turn.series.Goals as goal

pub loop-k-init : goal.loop-k-init
loop-k-init c =
    record { next = sym (first_term _ _ _); near = omega arith; sum = sym (no_terms _); small = omega arith }

pub loop-k-preserved : goal.loop-k-preserved
loop-k-preserved c =
    let fits : SFits w64 c.with_term-sum.result = search rules in
    let same = to_z-of_z w64 c.with_term-sum.result fits in
    let step = sum_small (to_z w64 c.loop-k.sum-bits) c.loop-k.k c.loop-k.next (c.loop-k.k * 1000000000000)
    c.loop-k.invariant.small in
    record {
      next = rw (c.scaled-in-loop-k.ensures.value, c.scaled.ensures.value)
          (term_more _ _ _ _ _ c.loop-k.invariant.next);
      near = omega (
        arith,
        div-le_self c.scaled-in-loop-k.result
            ((2 * c.loop-k.k + 1 + c.args.shift) * (2 * c.loop-k.k + 2 + c.args.shift)),
        c.scaled-in-loop-k.ensures.within,
      );
      sum = same ∙ c.with_term-sum.ensures ∙ sum_more _ _ _ _ c.loop-k.invariant.next c.loop-k.invariant.sum;
      small = omega (arith, ap unsigned_abs same, ap unsigned_abs c.with_term-sum.ensures, step);
    }
