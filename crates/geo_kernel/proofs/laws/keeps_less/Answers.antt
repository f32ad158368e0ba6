use Rattle.geo_kernel.proofs.Keeping.{keep_less_far, keep_bars_touch}
use Rattle.geo_kernel.proofs.laws.keeps_less.Goals as goal

pub returns : goal.returns
returns c = record { keep = keep_less_far; apart = keep_bars_touch }
