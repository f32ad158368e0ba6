use Rattle.geo_kernel.proofs.Bounds.{product_fits, product_value, product_within}
use Rattle.geo_kernel.proofs.bounded.times.Goals as goal

pub returns-clause-value : goal.returns-clause-value
returns-clause-value c = product_value c.args.a c.args.b c.requires.a_within c.requires.b_within

pub returns-clause-within : goal.returns-clause-within
returns-clause-within c =
    product_within c.args.a c.args.b _ c.requires.a_within c.requires.b_within
    (product_value c.args.a c.args.b c.requires.a_within c.requires.b_within)

pub overflow_mul-result : goal.overflow_mul-result
overflow_mul-result c = product_fits c.args.a c.args.b c.requires.a_within c.requires.b_within
