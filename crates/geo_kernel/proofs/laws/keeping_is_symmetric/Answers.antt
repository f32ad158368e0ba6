use Rattle.geo_kernel.proofs.Keeping.{keep_symmetric, touch_symmetric}
use Rattle.geo_kernel.proofs.laws.keeping_is_symmetric.Goals as goal

pub returns : goal.returns
returns c = record { keep = keep_symmetric; touch = touch_symmetric }
