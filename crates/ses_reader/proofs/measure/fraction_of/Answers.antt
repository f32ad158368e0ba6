use Rattle.std.proofs.Common.{◌*◌, ◌∙◌, ap, arith, rules, w32, SFits}
use Rattle.std.specs.Prelude.{unsigned_abs}
use Rattle.std.proofs.lemmas.Int.{ints, to_z-of_z}
use Rattle.ses_reader.proofs.Fractions.{cut_is}
use Rattle.ses_reader.proofs.measure.fraction_of.Goals as goal

pub returns-else-d-ge0 : goal.returns-else-d-ge0
returns-else-d-ge0 c =
    let fits : SFits w32 c.args.d.now.exponent = search rules in
    cut_is c.args.m c.args.d.now c.cut_fraction.result.above c.cut_fraction.result.below c.unsigned_abs.result
    (omega (arith, ints)) (c.unsigned_abs.ensures.value ∙ ap unsigned_abs (to_z-of_z w32 c.args.d.now.exponent fits))
    (c.cut_fraction.ensures.above ∙ ap (λ n. c.args.d.now.digits * n) c.nm.ensures.value) c.cut_fraction.ensures.below
    (omega arith) (omega (arith, c.nm.ensures)) c.requires (omega arith)
